use Rattle.std.proofs.Common.{rules, ◌≡◌, ◌∙◌, arith, subst, IfErr, None}
use Rattle.rules.specs.Kit.{kit_of}
use Rattle.handles.proofs.Pushing.{kept_on, ends-refused, ends-done, goes-on}
use Rattle.handles.proofs.commits.WritingBack.push_all.Goals as goal

pub returns-in_err-next-clause-answer : goal.returns-in_err-next-clause-answer
returns-in_err-next-clause-answer g c =
    let end =
    ends-refused (kit_of g.W.Word g.B.Board g.P.Policy c.args.rig.now.board c.args.rig.now.policy) c.args.rig.now.in_bounds c.loop-next.rig.in_bounds c.loop-next.invariant.0 c.loop-next.invariant.1 c.push.ensures.answer c.push.ensures.left c.in_err-next.field-0.0 c.in_err-next.was in
    let q = end.1 in search (rules, q)

pub returns-in_err-next-clause-left : goal.returns-in_err-next-clause-left
returns-in_err-next-clause-left g c =
    let end =
    ends-refused (kit_of g.W.Word g.B.Board g.P.Policy c.args.rig.now.board c.args.rig.now.policy) c.args.rig.now.in_bounds c.loop-next.rig.in_bounds c.loop-next.invariant.0 c.loop-next.invariant.1 c.push.ensures.answer c.push.ensures.left c.in_err-next.field-0.0 c.in_err-next.was in
    end.0

pub returns-in_err-next-clause-kept : goal.returns-in_err-next-clause-kept
returns-in_err-next-clause-kept g c = kept_on c.loop-next.invariant.2 c.push.ensures.kept

pub overflow_add-pushed : goal.overflow_add-pushed
overflow_add-pushed g c =
    let on =
    goes-on (kit_of g.W.Word g.B.Board g.P.Policy c.args.rig.now.board c.args.rig.now.policy) c.args.rig.now.in_bounds c.loop-next.rig.in_bounds c.loop-next.invariant.0 c.loop-next.invariant.1 c.push.ensures.answer c.push.ensures.left c.in-Left.next c.in-Left.field-1 c.in_ok-next.field-0 c.in_ok-next.was c.in-Left.is in
    let few = on.3 in omega arith

pub loop-next-smaller : goal.loop-next-smaller
loop-next-smaller g c =
    let on =
    goes-on (kit_of g.W.Word g.B.Board g.P.Policy c.args.rig.now.board c.args.rig.now.policy) c.args.rig.now.in_bounds c.loop-next.rig.in_bounds c.loop-next.invariant.0 c.loop-next.invariant.1 c.push.ensures.answer c.push.ensures.left c.in-Left.next c.in-Left.field-1 c.in_ok-next.field-0 c.in_ok-next.was c.in-Left.is in
    on.2

pub loop-next-preserved : goal.loop-next-preserved
loop-next-preserved g c =
    let on =
    goes-on (kit_of g.W.Word g.B.Board g.P.Policy c.args.rig.now.board c.args.rig.now.policy) c.args.rig.now.in_bounds c.loop-next.rig.in_bounds c.loop-next.invariant.0 c.loop-next.invariant.1 c.push.ensures.answer c.push.ensures.left c.in-Left.next c.in-Left.field-1 c.in_ok-next.field-0 c.in_ok-next.was c.in-Left.is in
    (on.0, on.1, kept_on c.loop-next.invariant.2 c.push.ensures.kept)

pub returns-clause-answer : goal.returns-clause-answer
returns-clause-answer g c =
    let end =
    ends-done (kit_of g.W.Word g.B.Board g.P.Policy c.args.rig.now.board c.args.rig.now.policy) c.args.rig.now.in_bounds c.loop-next.rig.in_bounds c.loop-next.invariant.0 c.loop-next.invariant.1 c.push.ensures.answer c.push.ensures.left c.in_ok-next.field-0 c.in_ok-next.was c.in_default.not-Left in
    end.1

pub returns-clause-left : goal.returns-clause-left
returns-clause-left g c =
    let end =
    ends-done (kit_of g.W.Word g.B.Board g.P.Policy c.args.rig.now.board c.args.rig.now.policy) c.args.rig.now.in_bounds c.loop-next.rig.in_bounds c.loop-next.invariant.0 c.loop-next.invariant.1 c.push.ensures.answer c.push.ensures.left c.in_ok-next.field-0 c.in_ok-next.was c.in_default.not-Left in
    end.0

pub returns-clause-written_back : goal.returns-clause-written_back
returns-clause-written_back g c =
    let end =
    ends-done (kit_of g.W.Word g.B.Board g.P.Policy c.args.rig.now.board c.args.rig.now.policy) c.args.rig.now.in_bounds c.loop-next.rig.in_bounds c.loop-next.invariant.0 c.loop-next.invariant.1 c.push.ensures.answer c.push.ensures.left c.in_ok-next.field-0 c.in_ok-next.was c.in_default.not-Left in
    end.2

pub returns-clause-kept : goal.returns-clause-kept
returns-clause-kept g c = kept_on c.loop-next.invariant.2 c.push.ensures.kept

pub returns-in_err-next-clause-used_up : goal.returns-in_err-next-clause-used_up
returns-in_err-next-clause-used_up g c fit =
    let gone = subst (λ r. IfErr r (λ x. x.handle ≡ None)) c.in_err-next.was (c.push.ensures.used_up (c.loop-next.invariant.2.lengths ∙ fit)) in
    search (rules, gone)
