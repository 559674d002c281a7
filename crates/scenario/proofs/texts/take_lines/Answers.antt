use Rattle.scenario.proofs.Onward.{ends-fault, ends-memory}
use Rattle.scenario.proofs.texts.take_lines.Goals as goal

pub returns-in_err-said : goal.returns-in_err-said
returns-in_err-said c = ends-fault _ _ c.next.new.self _ _ _ c.loop-said.invariant.come (rw c.in_err-said.was at c.in-Some.ensures.steps) c.from_residual.ensures.1

pub returns-in_err-add : goal.returns-in_err-add
returns-in_err-add c = ends-memory _ _ _ _ _ _ c.loop-said.invariant.come c.in_err-add.ensures.held c.from_residual-in_err-add.ensures.1
