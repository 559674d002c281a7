use Rattle.std.proofs.Common.{◌≡◌, ◌++◌, map}
use Rattle.std.specs.Iterator.Adapters.{zip_first, zip_second}
use Rattle.std.specs.Slice.Iter.{iter_rest}
use Rattle.faults.specs.declared.texts.TheConstants.{NEWLINE}
use Rattle.fields.specs.Parts.{ended}
use Rattle.sheets.specs.Rows.{row_text, rows_of}
use Rattle.sheets.proofs.texts.push_rows.Given as goal

-- with the rows that are left, the lines are what they are to become
abbrev pub invariant-loop-made : goal.invariant-loop-made
invariant-loop-made l =
    let left = rows_of (iter_rest (zip_first l.made-iterator)) (iter_rest (zip_second l.made-iterator)) in
    l.lines ++ ended NEWLINE (map row_text left) ≡ l.initial.lines ++ ended NEWLINE (map row_text (rows_of l.calls l.answers))
