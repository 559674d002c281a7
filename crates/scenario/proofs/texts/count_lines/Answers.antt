use Rattle.scenario.proofs.Onward.{counted-fault}
use Rattle.scenario.proofs.texts.count_lines.Goals as goal

pub returns-in_err-said : goal.returns-in_err-said
returns-in_err-said c = counted-fault _ _ c.next.new.self _ _ _ c.loop-said.invariant.counted (rw c.in_err-said.was at c.in-Some.ensures.steps) c.from_residual.ensures.1
