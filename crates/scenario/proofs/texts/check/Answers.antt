use Rattle.scenario.proofs.Onward.{text-counted, unsized-counted}
use Rattle.scenario.proofs.texts.check.Goals as goal

pub returns-in_err-sized : goal.returns-in_err-sized
returns-in_err-sized c = unsized-counted _ _ _ c.in_err-sized.ensures c.from_residual.ensures.1

pub returns : goal.returns
returns c = text-counted c.args.text.now c.count_lines.result c.in_ok-sized.ensures c.count_lines.ensures
