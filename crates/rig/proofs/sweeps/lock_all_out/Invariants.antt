use Rattle.std.proofs.Common.{◌≡◌}
use Rattle.rules.specs.Bench.{lock_out}
use Rattle.rig.proofs.Mapped.{mapped_to}
use Rattle.rig.proofs.sweeps.lock_all_out.Given as goal

abbrev pub invariant-loop-k : goal.invariant-loop-k
invariant-loop-k l = l.heads ≡ mapped_to (λ _ h. lock_out h) l.k l.initial.heads
