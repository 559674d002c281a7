use Rattle.rules.specs.Kit.{kit_of}
use Rattle.rules.proofs.WholeRuns.{laws-of-runs}
use Rattle.rules.proofs.EndedHandles.{handles-end-in-runs}
use Rattle.rules.proofs.theorems.laws_stand.Goals as goal

pub returns : goal.returns
returns g c =
    let kit = kit_of g.W.Word g.B.Board g.P.Policy c.args.board.now c.args.policy.now in
    record {
      laws =
          laws-of-runs kit
          (record { exact = g.met.W.Word.exact; software_from_patience = g.met.P.Policy.software_from_patience c.args.policy.now; at_least_one = g.met.P.Policy.at_least_one c.args.policy.now });
      handles = handles-end-in-runs kit;
    }
