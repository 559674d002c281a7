-- A head that is not admitted is refused, and nothing has changed.
use Rattle.std.proofs.Common.{◌≡◌, ℕ, Some, Err, refl}
use Rattle.parts.specs.declared.calls.Call.{Call}
use Rattle.rules.specs.declared.types.Caller.{Caller}
use Rattle.rules.specs.declared.types.Refusal.{Refusal}
use Rattle.rules.specs.Bench.{Bench}
use Rattle.rules.specs.Refusals.{refusal}
use Rattle.rules.specs.Calls.{Outcome, outcome, unless}

module _ {W : Type 0} (b : Bench W) (who : Caller) (call : Call ℕ W) where
  pub refused : {A : Type 0} (e : Refusal) (granted : Outcome A W) → refusal b who call ≡ Some e → outcome (Err e) b ≡ unless (refusal b who call) b granted
  refused e granted q = rw q refl
