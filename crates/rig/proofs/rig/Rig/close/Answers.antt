use Rattle.std.proofs.Common.{refl}
use Rattle.parts.specs.declared.calls.Call.TheVariants.{Close}
use Rattle.rules.specs.Bench.{bench}
use Rattle.rules.specs.Calls.{close_of}
use Rattle.rules.specs.Kit.{kit_of}
use Rattle.rules.proofs.KeptBounds.{bounds-kept}
use Rattle.rig.proofs.KeptInBounds.{left_in_bounds, left_lengths}
use Rattle.rig.proofs.rig.Rig.close.Goals as goal

pub invariant_of-self : goal.invariant_of-self
invariant_of-self g c =
    let b = bench c.args.self.now.table c.args.cells.now c.args.reads.now c.args.writes.now in
    let kit = kit_of g.W.Word g.B.Board g.P.Policy c.args.self.now.board c.args.self.now.policy in
    record { in_bounds = left_in_bounds c.close.result (bench c.close.new.table c.close.new.cells c.args.reads.now c.args.writes.now) (close_of kit.memory b c.args.who) (c.close.ensures) (bounds-kept kit b c.args.who Close c.args.self.now.in_bounds).0 }

pub returns-clause-outcome : goal.returns-clause-outcome
returns-clause-outcome g c = c.close.ensures

pub returns-clause-kept : goal.returns-clause-kept
returns-clause-kept g c =
    let b = bench c.args.self.now.table c.args.cells.now c.args.reads.now c.args.writes.now in
    let kit = kit_of g.W.Word g.B.Board g.P.Policy c.args.self.now.board c.args.self.now.policy in
    record { board = refl; policy = refl; lengths = left_lengths kit c.args.who b Close c.close.result (c.close.ensures) refl c.args.self.now.in_bounds }
