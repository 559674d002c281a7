use Rattle.std.proofs.Common.{◌≡◌, ◌+◌, ◌<◌, ◌∷◌, [], take, drop, length, min, sym, ap, ◌∙◌, arith}
use Rattle.rules.specs.Kit.{kit_of}
use Rattle.rules.specs.Runs.{step}
use Rattle.rig.specs.Rigs.{rig_bench, rig_kit}
use Rattle.runs.proofs.Answered.{next_answers, next_left, count_made, answers_made, left_made, kept_on}
use Rattle.runs.proofs.Places.{rest_behind, one_there, rest_of_first, behind_set}
use Rattle.runs.proofs.runs.make_all.Goals as goal

pub loop-at-init-derived : goal.loop-at-init-derived
loop-at-init-derived g c = (g.met.C.Calls.ready c.args.calls, g.met.C.Calls.ends c.args.calls)

pub returns-in-None-clause-count : goal.returns-in-None-clause-count
returns-in-None-clause-count g c =
    let l = c.loop-at in
    let inv = l.invariant in
    let all = g.C.Calls.made c.args.calls in
    let kit = rig_kit g.W.Word g.B.Board g.P.Policy c.args.rig.now in
    let first = rig_bench c.args.rig.now c.args.cells.now c.args.reads.now c.args.writes.now in
    let now = rig_bench l.rig l.cells l.reads l.writes in
    let room = length c.args.answers.now in
    let lt : l.at < room = omega arith in
    let none : drop l.at all ≡ [] = sym inv.calls ∙ (g.met.C.Calls.in_order l.calls c.next.new.self _ c.in-None.ensures.steps).0 in
    count_made kit first now all l.at room inv.within lt none

pub returns-in-None-clause-answers : goal.returns-in-None-clause-answers
returns-in-None-clause-answers g c =
    let l = c.loop-at in
    let inv = l.invariant in
    let all = g.C.Calls.made c.args.calls in
    let kit = rig_kit g.W.Word g.B.Board g.P.Policy c.args.rig.now in
    let first = rig_bench c.args.rig.now c.args.cells.now c.args.reads.now c.args.writes.now in
    let now = rig_bench l.rig l.cells l.reads l.writes in
    let room = length c.args.answers.now in
    let lt : l.at < room = omega arith in
    let none : drop l.at all ≡ [] = sym inv.calls ∙ (g.met.C.Calls.in_order l.calls c.next.new.self _ c.in-None.ensures.steps).0 in
    answers_made kit first now all l.at room inv.within lt none l.answers c.index-answers-at.result inv.answers

pub returns-in-None-clause-left : goal.returns-in-None-clause-left
returns-in-None-clause-left g c =
    let l = c.loop-at in
    let inv = l.invariant in
    let all = g.C.Calls.made c.args.calls in
    let kit = rig_kit g.W.Word g.B.Board g.P.Policy c.args.rig.now in
    let first = rig_bench c.args.rig.now c.args.cells.now c.args.reads.now c.args.writes.now in
    let now = rig_bench l.rig l.cells l.reads l.writes in
    let room = length c.args.answers.now in
    let lt : l.at < room = omega arith in
    let none : drop l.at all ≡ [] = sym inv.calls ∙ (g.met.C.Calls.in_order l.calls c.next.new.self _ c.in-None.ensures.steps).0 in
    left_made kit first now all l.at room inv.within lt none inv.left

pub loop-at-preserved : goal.loop-at-preserved
loop-at-preserved g c =
    let kit_on = kit_of g.W.Word g.B.Board g.P.Policy in
    let l = c.loop-at in
    let inv = l.invariant in
    let all = g.C.Calls.made c.args.calls in
    let n = min (length all) (length c.args.answers.now) in
    let made = take n all in
    let call = c.in-Some.call in
    let now = rig_bench l.rig l.cells l.reads l.writes in
    let after = rig_bench c.make.new.rig c.make.new.cells c.make.new.reads c.make.new.writes in
    let got : drop l.at all ≡ call ∷ g.C.Calls.made c.next.new.self = sym inv.calls ∙ g.met.C.Calls.in_order l.calls c.next.new.self _ c.in-Some.ensures.steps in
    let rest = rest_behind all l.at call (g.C.Calls.made c.next.new.self) got in
    let within = one_there all l.at call (g.C.Calls.made c.next.new.self) got in
    let lt : l.at < n = omega arith in
    let more = rest_of_first all l.at n call lt (got ∙ ap (λ ys. call ∷ ys) rest) in
    let same = kit_on c.args.rig.now.board c.args.rig.now.policy in
    let out = c.make.ensures.outcome ∙ ap (λ x. step (kit_on x l.rig.policy) now call) inv.kept.board ∙ ap (λ x. step (kit_on c.args.rig.now.board x) now call) inv.kept.policy in
    record {
      within = within;
      calls = rest;
      kept = kept_on inv.kept c.make.ensures.kept;
      answers = next_answers same now after c.make.result call (drop l.at made) (drop (l.at + 1) made) more out l.answers _ l.at (omega arith) inv.answers;
      left = next_left same now after c.make.result call (drop l.at made) (drop (l.at + 1) made) more out _ inv.left;
      rest = behind_set l.answers l.at c.args.answers.now c.make.result inv.rest;
    }
