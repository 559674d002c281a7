use Rattle.scenario.proofs.Passed.{print_of}
use Rattle.sheets.specs.Sheets.{SheetOf}
use Rattle.sheets.proofs.Printing.{sheet_of_first}
use Rattle.sheets.proofs.printed.sheet_read.Goals as goal

pub returns : goal.returns
returns g c = print_of SheetOf sheet_of_first _ _ _ _ c.in_ok-text.ensures.text c.deref.ensures.value c.in_ok-sheet.ensures.says
