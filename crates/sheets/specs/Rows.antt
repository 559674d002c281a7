-- The lines of a run sheet.
use Rattle.std.specs.Prelude.{ℕ, ℤ, pos, List, [], ◌∷◌, map, Some, None, Option, codes, decimal}
use Rattle.std.specs.Fmt.{signed_decimal}
use Rattle.std.specs.List.{join_with_byte, zip, enumerate_from}
use Rattle.faults.specs.declared.texts.TheConstants.{TAB}
use Rattle.entries.specs.declared.types.HeadCall.{HeadCall}
use Rattle.entries.specs.Rendering.{letter_text, letter_of}
use Rattle.rules.specs.Answers.{Answer, answer_number, answer_value}
use Rattle.sheets.specs.declared.types.Row.{Row}
use Rattle.sheets.specs.declared.types.CellRow.{CellRow}

-- the numeral of a value, or a dash where there is none
abbrev pub value_text : Option ℤ → List ℕ
value_text None = codes "-"
value_text (Some z) = signed_decimal z

-- a call's letter and head, and the number and the value of its answer, joined by tabs
abbrev pub row_text : Row → List ℕ
row_text r = join_with_byte TAB (
    letter_text (letter_of r.made.call) ∷ decimal r.made.head
    ∷ decimal (answer_number r.answer) ∷ value_text (answer_value (λ w. w) pos r.answer) ∷ [])

-- the word `cell`, the cell's number and its word, likewise
abbrev pub cell_row_text : CellRow → List ℕ
cell_row_text r = join_with_byte TAB (codes "cell" ∷ decimal r.cell ∷ signed_decimal r.word ∷ [])

-- each call with its answer
abbrev pub rows_of : List HeadCall → List (Answer ℤ) → List Row
rows_of calls answers = map (λ (p : HeadCall × Answer ℤ). record { made = p.0; answer = p.1 }) (zip calls answers)

-- each cell by its number, from n on
abbrev pub cell_rows_from : ℕ → List ℤ → List CellRow
cell_rows_from n cells = map (λ (p : ℕ × ℤ). record { cell = p.0; word = p.1 }) (enumerate_from n cells)

abbrev pub cell_rows_of : List ℤ → List CellRow
cell_rows_of cells = cell_rows_from 0 cells
