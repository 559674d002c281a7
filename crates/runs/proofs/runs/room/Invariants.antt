use Rattle.std.proofs.Common.{◌≡◌, vec_capacity, vec_len}
use Rattle.runs.proofs.runs.room.Given as goal

abbrev pub invariant-loop-at : goal.invariant-loop-at
invariant-loop-at g l = record {
  length : vec_len l.answers ≡ l._at;
  room : vec_capacity l.answers ≡ l.count;
}
