use Rattle.std.proofs.Common.{◌≡◌, ◌+◌, drop}
use Rattle.std.specs.List.{prefix_len}
use Rattle.rules.specs.Logs.{holds}
use Rattle.logs.proofs.validation.unchanged.Given as goal

abbrev pub invariant-loop-slot : goal.invariant-loop-slot
invariant-loop-slot g l = record {
  count : l.count ≡ l.slot-index;
  rest : l.count + prefix_len (holds g.W.Word.same l.cells) (drop l.slot-index l.log) ≡ prefix_len (holds g.W.Word.same l.cells) l.log;
}
