-- Only open is taken without a transaction.
use Rattle.std.proofs.Common.{◌≡◌, ℕ, true, false, sym, refl, ◌∙◌}
use Rattle.parts.specs.declared.calls.Call.{Call}
use Rattle.parts.specs.declared.calls.Call.TheVariants.{Open}
use Rattle.rules.specs.declared.types.State.{State}
use Rattle.rules.specs.declared.types.State.TheVariants.{Idle}
use Rattle.rules.specs.Heads.{is_idle}
use Rattle.rules.specs.Refusals.{takes}
use Rattle.rules.proofs.Basics.{wrong}
use Rattle.rules.specs.CallLaws.{is_open}

module _ {W : Type 0} where
  idle-opens : (call : Call ℕ W) → takes call Idle ≡ true → is_open call ≡ true
  idle-opens Open e = refl
  idle-opens call e = wrong e

  pub taken-busy : (call : Call ℕ W) (s : State) → is_open call ≡ false → takes call s ≡ true → is_idle s ≡ false
  taken-busy call Idle f e = sym (idle-opens call e) ∙ f
  taken-busy call s f e = refl
