use Rattle.scenario.proofs.Once.{text-once}
use Rattle.scenario.proofs.texts.read.Goals as goal

pub returns : goal.returns
returns c = record { says = c.take_text-end.ensures; once = text-once }
