use Rattle.std.proofs.Common.{refl}
use Rattle.parts.specs.declared.calls.Call.TheVariants.{Read}
use Rattle.rules.specs.Bench.{bench}
use Rattle.rules.specs.Calls.{read_of}
use Rattle.rules.specs.Kit.{kit_of}
use Rattle.rules.proofs.KeptBounds.{bounds-kept}
use Rattle.rig.proofs.KeptInBounds.{left_in_bounds, left_lengths}
use Rattle.rig.proofs.rig.Rig.read.Goals as goal

pub invariant_of-self : goal.invariant_of-self
invariant_of-self g c =
    let b = bench c.args.self.now.table c.args.cells.now c.args.reads.now c.args.writes.now in
    let kit = kit_of g.W.Word g.B.Board g.P.Policy c.args.self.now.board c.args.self.now.policy in
    record { in_bounds = left_in_bounds c.read.result (bench c.read.new.table c.args.cells.now c.read.new.reads c.args.writes.now) (read_of kit.memory b c.args.who c.args.cell) (c.read.ensures) (bounds-kept kit b c.args.who (Read c.args.cell) c.args.self.now.in_bounds).0 }

pub returns-clause-outcome : goal.returns-clause-outcome
returns-clause-outcome g c = c.read.ensures

pub returns-clause-kept : goal.returns-clause-kept
returns-clause-kept g c =
    let b = bench c.args.self.now.table c.args.cells.now c.args.reads.now c.args.writes.now in
    let kit = kit_of g.W.Word g.B.Board g.P.Policy c.args.self.now.board c.args.self.now.policy in
    record { board = refl; policy = refl; lengths = left_lengths kit c.args.who b (Read c.args.cell) c.read.result (c.read.ensures) refl c.args.self.now.in_bounds }
