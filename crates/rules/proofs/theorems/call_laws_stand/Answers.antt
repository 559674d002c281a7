use Rattle.rules.proofs.LawsOfCalls.{call-laws}
use Rattle.rules.proofs.theorems.call_laws_stand.Goals as goal

pub returns : goal.returns
returns g c = call-laws _
