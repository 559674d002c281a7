-- What a call does, by the head's state.
use Rattle.std.specs.Prelude.{◌≡◌, ℕ, true, false, Ok, Err, Result}
use Rattle.parts.specs.declared.calls.Call.{Call}
use Rattle.parts.specs.declared.calls.Call.TheVariants.{Open, Read, Write, Close, Push, Jolt, Again, Drop}
use Rattle.rules.specs.declared.types.Refusal.{Refusal}
use Rattle.rules.specs.declared.types.State.{State}
use Rattle.rules.specs.declared.types.State.TheVariants.{Aborted}
use Rattle.rules.specs.Heads.{state_in}
use Rattle.rules.specs.Refusals.{takes, why_not}
use Rattle.rig.specs.declared.admission.Transition.{Transition}
use Rattle.rig.specs.declared.admission.Transition.TheVariants as does

module _ {W : Type 0} (s : State) where
  -- it is the call's: with the cell and the word of the call, and with how the attempt runs or by what it has aborted
  abbrev pub Tells : Call ℕ W → Transition W → Type 0
  Tells Open does.Open = Unit {0}
  Tells (Read c) (does.Read m d) = (s ≡ state_in m) × (d ≡ c)
  Tells (Write c w) (does.Write m d v) = (s ≡ state_in m) × ((d ≡ c) × (v ≡ w))
  Tells Close (does.Close m) = s ≡ state_in m
  Tells Push does.Push = Unit {0}
  Tells Jolt does.Jolt = Unit {0}
  Tells Again (does.Again cause) = s ≡ Aborted cause
  Tells Drop does.Drop = Unit {0}
  Tells call t = ⊥

  -- the state takes the call, or the call is refused
  abbrev pub Decides : Call ℕ W → Result (Transition W) Refusal → Type 0
  Decides call (Ok t) = (takes call s ≡ true) × Tells call t
  Decides call (Err e) = (takes call s ≡ false) × (e ≡ why_not call s)
