use Rattle.std.proofs.Common.{arith, ap, ◌∙◌, ◌≡◌}
use Rattle.last_transactions.specs.Calls.{opens_and_drops}
use Rattle.last_transactions.proofs.Rounds.{one_more}
use Rattle.last_transactions.proofs.calls.opens_and_drops.Goals as goal

pub loop-at-init : goal.loop-at-init
unfolding opens_and_drops
loop-at-init c = c.new-calls.ensures.items

pub loop-at-preserved : goal.loop-at-preserved
loop-at-preserved c =
    one_more c.args.head c.loop-at._at _ _ _ _ _ c.loop-at.invariant c.in_ok-push.ensures.items c.in_ok-push-2.ensures.items c.made_by.ensures c.made_by-in-loop-at.ensures

pub returns : goal.returns
returns c =
    let all : c.loop-at._at ≡ c.args.times = omega arith in
    c.loop-at.invariant ∙ ap (opens_and_drops c.args.head) all
