use Rattle.std.proofs.Common.{◌≡◌, ◌++◌, map, drop}
use Rattle.faults.specs.declared.texts.TheConstants.{NEWLINE}
use Rattle.fields.specs.Parts.{ended}
use Rattle.sheets.specs.Rows.{cell_row_text, cell_rows_of, cell_rows_from}
use Rattle.sheets.proofs.texts.push_cells.Given as goal

-- with the cells that are left, the lines are what they are to become
abbrev pub invariant-loop-cell : goal.invariant-loop-cell
invariant-loop-cell l =
    let left = cell_rows_from l.cell (drop l.cell l.cells) in
    l.lines ++ ended NEWLINE (map cell_row_text left) ≡ l.initial.lines ++ ended NEWLINE (map cell_row_text (cell_rows_of l.cells))
