use Rattle.std.proofs.lemmas.List.{append-nil}
use Rattle.std.proofs.lemmas.Slice.Zip.{either_empty_from_Zip}
use Rattle.sheets.proofs.Adding.{no_row_left}
use Rattle.sheets.proofs.texts.push_rows.Goals as goal

pub returns : goal.returns
returns c =
    let none = no_row_left _ _ (either_empty_from_Zip c.loop-made.made-iterator c.next.new.self _ c.in-None.is c.next.ensures.steps) in
    rw (none, append-nil) at c.loop-made.invariant
