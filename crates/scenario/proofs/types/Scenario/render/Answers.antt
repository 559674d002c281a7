use Rattle.scenario.proofs.Whole.{rendered-says}
use Rattle.scenario.proofs.types.Scenario.render.Goals as goal

pub returns-clause-inverse : goal.returns-clause-inverse
returns-clause-inverse c = rendered-says
