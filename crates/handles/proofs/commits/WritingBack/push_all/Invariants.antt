use Rattle.std.proofs.Common.{◌≡◌}
use Rattle.rules.specs.Calls.{push_of}
use Rattle.rig.specs.Rigs.{rig_bench, Kept}
use Rattle.handles.specs.Handles.{writing_back_caller, slots_left}
use Rattle.handles.proofs.Pushing.{Going}
use Rattle.handles.proofs.commits.WritingBack.push_all.Given as goal

abbrev pub invariant-loop-next : goal.invariant-loop-next
invariant-loop-next g l =
    let start = rig_bench l.fn.rig l.fn.cells l.fn.reads l.fn.writes in
    let now = rig_bench l.rig l.cells l.fn.reads l.fn.writes in
    Going (writing_back_caller l.fn.self) start now l.pushed × (l.handle ≡ l.fn.self) × Kept l.fn.rig l.rig start now

abbrev pub decreases-loop-next : goal.decreases-loop-next
decreases-loop-next g l = slots_left (push_of (rig_bench l.rig l.cells l.fn.reads l.fn.writes) (writing_back_caller l.fn.self)).answer
