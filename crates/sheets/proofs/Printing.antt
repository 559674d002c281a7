-- Run sheets of texts that come from a reader.
use Rattle.std.proofs.Common.{ℕ, ◌+◌, List, take}
use Rattle.faults.specs.declared.texts.TheConstants.{LONGEST}
use Rattle.scenario.proofs.Passed.{says_of_first}
use Rattle.sheets.specs.Sheets.{SheetOf}

pub sheet_of_first : (text out : List ℕ) → SheetOf (take (LONGEST + 1) text) out → SheetOf text out
sheet_of_first text out s = record { entries = s.entries; fault = s.fault; says = says_of_first text s.entries s.fault s.says; is = s.is }
