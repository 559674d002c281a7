use Rattle.std.proofs.Common.{◌≡◌, Ok, Err, Result, refl}
use Rattle.entries.specs.declared.types.Entry.{Entry}
use Rattle.faults.specs.declared.types.RigFault.{RigFault}
use Rattle.lines.specs.declared.types.Stage.{Stage}
use Rattle.scenario.specs.Steps.{stage_then}
use Rattle.scenario.proofs.texts.EntriesIterator.next.Goals as goal

stays : (s : Stage) (r : Result Entry RigFault) → ((e : Entry) → r ≡ Ok e → ⊥) → s ≡ stage_then s r
stays s (Ok e) off = absurd (off e refl)
stays s (Err f) off = refl

pub returns-in_default-clause-steps : goal.returns-in_default-clause-steps
returns-in_default-clause-steps c =
    let next = c.in_ok-line.ensures.next in
    record { line = (c.in_ok-line.line.place, next.0); next = next.1; read = c.rig_entry-said.ensures next.0 next.2; moved = stays _ _ c.in_default.not-Ok }
