use Rattle.sheets.proofs.Adding.{still_text}
use Rattle.sheets.proofs.written.Lines.push.Goals as goal

pub invariant_of-self : goal.invariant_of-self
invariant_of-self c = rw c.extend_from_slice.ensures.items (still_text _ _ _ c.self.invariant c.as_bytes.ensures.utf8)
