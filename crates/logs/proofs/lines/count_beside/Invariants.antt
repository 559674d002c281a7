use Rattle.std.proofs.Common.{◌≡◌, ◌+◌, ◌++◌, ◌≤◌, drop, length}
use Rattle.rules.specs.Logs.{lines_of, distinct_count}
use Rattle.logs.specs.Lines.{Marked}
use Rattle.logs.proofs.lines.count_beside.Given as goal

abbrev pub invariant-loop-left : goal.invariant-loop-left
invariant-loop-left g l =
    let line = g.B.Board.line l.board in
    let met = drop l.left l.log ++ l.other in
    record {
      within : l.left ≤ length l.log;
      bound : l.count + l.left ≤ l.count-2 + length l.log;
      count : l.count ≡ distinct_count (lines_of line met);
      marked : Marked line l.marks met;
    }

abbrev pub decreases-loop-left : goal.decreases-loop-left
decreases-loop-left g l = l.left
