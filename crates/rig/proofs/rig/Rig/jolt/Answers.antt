use Rattle.std.proofs.Common.{refl}
use Rattle.parts.specs.declared.calls.Call.TheVariants.{Jolt}
use Rattle.rules.specs.Bench.{bench_with}
use Rattle.rules.specs.Calls.{jolt_of}
use Rattle.rules.specs.Kit.{kit_of}
use Rattle.rules.proofs.KeptBounds.{bounds-kept}
use Rattle.rig.proofs.KeptInBounds.{left_in_bounds, left_lengths}
use Rattle.rig.proofs.rig.Rig.jolt.Goals as goal

pub invariant_of-self : goal.invariant_of-self
invariant_of-self g c =
    let b = bench_with c.args.self.now.table c.args.lists in
    let kit = kit_of g.W.Word g.B.Board g.P.Policy c.args.self.now.board c.args.self.now.policy in
    record { in_bounds = left_in_bounds c.jolt.result (bench_with c.jolt.new.table c.args.lists) (jolt_of b c.args.who) (c.jolt.ensures) (bounds-kept kit b c.args.who Jolt c.args.self.now.in_bounds).0 }

pub returns-clause-kept : goal.returns-clause-kept
returns-clause-kept g c =
    let b = bench_with c.args.self.now.table c.args.lists in
    let kit = kit_of g.W.Word g.B.Board g.P.Policy c.args.self.now.board c.args.self.now.policy in
    record { board = refl; policy = refl; lengths = left_lengths kit c.args.who b Jolt c.jolt.result (c.jolt.ensures) refl c.args.self.now.in_bounds }
