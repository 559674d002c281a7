use Rattle.scenario.specs.Holdings.{entries_of}
use Rattle.scenario.proofs.Whole.{rendered-says, says-exactly, few-held}
use Rattle.scenario.proofs.printed.readback.Goals as goal

pub told-requires : goal.told-requires
told-requires c = few-held c.args.text.now (entries_of c.read-scenario.result.scenario) c.read-scenario.result.end c.read-scenario.ensures.says

pub returns-clause-inverse : goal.returns-clause-inverse
returns-clause-inverse c = rendered-says

pub returns-clause-exact : goal.returns-clause-exact
returns-clause-exact c = says-exactly
