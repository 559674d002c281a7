use Rattle.std.proofs.Common.{length, ◌<◌, ◌∙◌, arith}
use Rattle.rules.specs.Heads.{new_head}
use Rattle.rules.specs.Bench.{lock_out}
use Rattle.rules.specs.Bounds.{HeadBounds}
use Rattle.rig.proofs.Mapped.{mapped_holds, mapped_more, mapped_all, mapped_alike}
use Rattle.rig.proofs.sweeps.lock_all_out.Goals as goal

pub lock_out-requires : goal.lock_out-requires
lock_out-requires c =
    let near : c.loop-k.k < length c.args.heads.now = omega arith in
    mapped_holds HeadBounds _ c.loop-k.k c.args.heads.now c.loop-k.heads new_head c.requires near c.loop-k.invariant

pub loop-k-preserved : goal.loop-k-preserved
loop-k-preserved c =
    let near : c.loop-k.k < length c.args.heads.now = omega arith in
    mapped_more (λ _ h. lock_out h) c.loop-k.k c.args.heads.now c.loop-k.heads new_head c.lock_out.result near c.loop-k.invariant c.lock_out.ensures

pub returns : goal.returns
returns c =
    mapped_all (λ _ h. lock_out h) c.loop-k.k c.args.heads.now c.loop-k.heads (omega arith) c.loop-k.invariant
    ∙ mapped_alike lock_out 0 c.args.heads.now
