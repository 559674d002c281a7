-- A list of calls on one rig: the answers, and what is left.
use Rattle.std.specs.Prelude.{List, [], ◌∷◌, Err}
use Rattle.rules.specs.declared.types.LentLists.{LentLists}
use Rattle.rules.specs.declared.types.LentLists.TheVariants as lent
use Rattle.rules.specs.declared.types.MadeCall.{MadeCall}
use Rattle.rules.specs.declared.types.Refusal.TheVariants as refuse
use Rattle.rules.specs.Kit.{Kit}
use Rattle.rules.specs.Bench.{Bench}
use Rattle.rules.specs.Answers.{Answer, call_of}

-- a call gets the lists as they are, or one of wrong length, which refuses it
abbrev pub step_with : {W : Type 0} → Kit W → Bench W → MadeCall W → LentLists → Answer W × Bench W
step_with kit b call lent.Right = call_of kit b call.caller call.call
step_with kit b call lent.Wrong = (Err refuse.Lists, b)

-- one call of a run: its answer, and what it leaves
abbrev pub step : {W : Type 0} → Kit W → Bench W → MadeCall W → Answer W × Bench W
step kit b call = step_with kit b call call.lent

abbrev pub answers_of : {W : Type 0} → Kit W → Bench W → List (MadeCall W) → List (Answer W)
answers_of kit b [] = []
answers_of kit b (call ∷ calls) = (step kit b call).0 ∷ answers_of kit (step kit b call).1 calls

abbrev pub left_by : {W : Type 0} → Kit W → Bench W → List (MadeCall W) → Bench W
left_by kit b [] = b
left_by kit b (call ∷ calls) = left_by kit (step kit b call).1 calls
