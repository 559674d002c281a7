use Rattle.std.proofs.Common.{◌∙◌, ap, take}
use Rattle.rules.specs.Kit.{kit_of}
use Rattle.rules.proofs.Lawful.{Lawful}
use Rattle.rig.specs.Rigs.{rig_bench}
use Rattle.runs.proofs.Whole.{ran-from}
use Rattle.runs.proofs.runs.run_with.Goals as goal

pub returns-clause-ran : goal.returns-clause-ran
returns-clause-ran g c =
    let kit = kit_of g.W.Word g.B.Board g.P.Policy in
    let from = c.args.from in
    let law : Lawful (kit from.board from.policy) = record {
      exact = g.met.W.Word.exact;
      software_from_patience = g.met.P.Policy.software_from_patience from.policy;
      at_least_one = g.met.P.Policy.at_least_one from.policy;
    } in
    let rig = c.new-rig.result in
    let new = c.new-rig.ensures in
    let ran = c.make_all-count in
    ran-from (kit from.board from.policy) law from.size.heads from.size.cells c.args.cells.now c.args.reads.now c.args.writes.now (take ran.result (g.C.Calls.made c.args.calls))
    rig.table (kit rig.board rig.policy) _ (rig_bench ran.new.rig ran.new.cells ran.new.reads ran.new.writes) from.size.good new.table
    (ap (λ x. kit x rig.policy) new.over.board ∙ ap (kit from.board) new.over.policy)
    ran.ensures.answers ran.ensures.left
