use Rattle.scenario.proofs.Onward.{text-ends, unsized-read}
use Rattle.scenario.proofs.texts.take_text.Goals as goal

pub returns-in_err-sized : goal.returns-in_err-sized
returns-in_err-sized c = unsized-read _ _ _ _ c.requires c.in_err-sized.ensures c.from_residual.ensures.1

pub returns : goal.returns
returns c = text-ends c.args.text.now _ c.take_lines.result c.in_ok-sized.ensures c.take_lines.ensures
