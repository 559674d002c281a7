use Rattle.std.proofs.Common.{◌≡◌}
use Rattle.rules.specs.declared.types.Table.{Table}
use Rattle.rules.specs.Bench.{bench_with, abort_if_hit}
use Rattle.rig.proofs.Mapped.{mapped_to}
use Rattle.rig.proofs.sweeps.abort_hit.Given as goal

abbrev pub invariant-loop-k : goal.invariant-loop-k
invariant-loop-k g l =
    (t : Table)
    → l.heads ≡ mapped_to (abort_if_hit (bench_with t l.lists) l.me (g.A.Access.hits l.access (g.B.Board.line l.board))) l.k l.initial.heads
