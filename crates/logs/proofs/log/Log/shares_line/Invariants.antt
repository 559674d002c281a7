use Rattle.std.proofs.Common.{◌≡◌, drop}
use Rattle.logs.specs.Lines.{shares_line}
use Rattle.logs.proofs.log.Log.shares_line.Given as goal

abbrev pub invariant-loop-slot : goal.invariant-loop-slot
invariant-loop-slot g l = shares_line (g.B.Board.line l.board) (drop l.slot-index l.slot-items) l.other ≡ shares_line (g.B.Board.line l.board) l.self l.other
