use Rattle.std.proofs.Common.{◌≡◌, ◌≤◌, ◌++◌, drop, length, min, take}
use Rattle.rules.specs.Runs.{answers_of, left_by}
use Rattle.rig.specs.Rigs.{rig_bench, rig_kit, Kept}
use Rattle.runs.proofs.runs.make_all.Given as goal

abbrev pub invariant-loop-at : goal.invariant-loop-at
invariant-loop-at g l =
    let kit = rig_kit g.W.Word g.B.Board g.P.Policy l.initial.rig in
    let first = rig_bench l.initial.rig l.initial.cells l.initial.reads l.initial.writes in
    let now = rig_bench l.rig l.cells l.reads l.writes in
    let all = g.C.Calls.made l.initial.calls in
    let made = take (min (length all) (length l.initial.answers)) all in
    record {
      within : l.at ≤ length all;
      calls : g.C.Calls.made l.calls ≡ drop l.at all;
      kept : Kept l.initial.rig l.rig first now;
      answers : take l.at l.answers ++ answers_of kit now (drop l.at made) ≡ answers_of kit first made;
      left : left_by kit now (drop l.at made) ≡ left_by kit first made;
      rest : drop l.at l.answers ≡ drop l.at l.initial.answers;
    }
