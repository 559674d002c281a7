-- What a run gives.
use Rattle.std.specs.Prelude.{◌≡◌, List}
use Rattle.rules.specs.declared.types.MadeCall.{MadeCall}
use Rattle.rules.specs.Kit.{Kit}
use Rattle.rules.specs.Bench.{Bench}
use Rattle.rules.specs.Answers.{Answer}
use Rattle.rules.specs.Runs.{answers_of, left_by}
use Rattle.rules.specs.RunLaws.{LawsHold, HandlesEnd}

-- the answers and what is left are the rule book's, and of the calls and the answers that were given the three laws hold, and
-- that of handles
pub record Ran {W : Type 0} (kit : Kit W) (start : Bench W) (calls : List (MadeCall W)) (given : List (Answer W)) (now : Bench W) : Type 0 where
  pub answers : given ≡ answers_of kit start calls
  pub left : now ≡ left_by kit start calls
  pub laws : LawsHold kit.policy.patience start.cells now.cells calls given
  pub handles : HandlesEnd calls given
