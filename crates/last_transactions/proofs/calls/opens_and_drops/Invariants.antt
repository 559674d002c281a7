use Rattle.std.proofs.Common.{◌≡◌, vec_items}
use Rattle.last_transactions.specs.Calls.{opens_and_drops}
use Rattle.last_transactions.proofs.calls.opens_and_drops.Given as goal

abbrev pub invariant-loop-at : goal.invariant-loop-at
invariant-loop-at l = vec_items l.calls ≡ opens_and_drops l.head l._at
