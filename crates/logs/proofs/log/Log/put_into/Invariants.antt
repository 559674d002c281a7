use Rattle.std.proofs.Common.{◌≡◌, drop}
use Rattle.rules.specs.Logs.{put_in}
use Rattle.logs.proofs.log.Log.put_into.Given as goal

abbrev pub invariant-loop-slot : goal.invariant-loop-slot
invariant-loop-slot g l = put_in (drop l.slot-index l.slot-items) l.cells ≡ put_in l.self l.initial.cells
