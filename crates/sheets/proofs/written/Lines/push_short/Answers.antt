use Rattle.std.proofs.lemmas.Str.{IsUtf8-from_ascii}
use Rattle.sheets.proofs.Adding.{still_text}
use Rattle.sheets.proofs.written.Lines.push_short.Goals as goal

pub invariant_of-self : goal.invariant_of-self
invariant_of-self c = rw c.extend_from_slice.ensures.items (still_text _ _ _ c.self.invariant (IsUtf8-from_ascii _ c.requires))
