-- Run sheets, line by line.
use Rattle.std.specs.Prelude.{◌≡◌, ℕ, ℤ, List, [], ◌∷◌, ◌++◌, map, Some, None, Ok, Err, Option, Result, vec_items}
use Rattle.std.specs.List.{filter_map}
use Rattle.faults.specs.declared.texts.TheConstants.{NEWLINE}
use Rattle.fields.specs.Parts.{ended}
use Rattle.entries.specs.declared.types.Setting.{Setting}
use Rattle.entries.specs.declared.types.HeadCall.{HeadCall}
use Rattle.entries.specs.declared.types.Entry.{Entry}
use Rattle.entries.specs.declared.types.Entry.TheVariants as entry
use Rattle.faults.specs.declared.types.RigFault.{RigFault}
use Rattle.faults.specs.Reports.{report_of, report_text}
use Rattle.rules.specs.Kit.{Kit}
use Rattle.rules.specs.Bench.{Bench}
use Rattle.rules.specs.Runs.{answers_of, left_by}
use Rattle.scenario.specs.declared.types.ReadError.{ReadError}
use Rattle.scenario.specs.declared.types.ReadError.TheVariants as error
use Rattle.scenario.specs.declared.types.Scenario.{Scenario}
use Rattle.scenario.specs.Texts.{TextSays}
use Rattle.sheets.specs.Rows.{row_text, rows_of, cell_row_text, cell_rows_of}
use Rattle.sheets.specs.Kits.{kit_named}
use Rattle.sheets.specs.Starts.{made_call, first_bench}

-- the lines at the end: the cells where there is no fault, else the fault alone
abbrev pub end_lines : List ℤ → Option RigFault → List (List ℕ)
end_lines cells None = map cell_row_text (cell_rows_of cells)
end_lines cells (Some f) = report_text (report_of f) ∷ []

-- the lines of a run by the rule book: each call with its answer, and then the cells that are left, or the fault
abbrev pub run_lines : Kit ℤ → Bench ℤ → List HeadCall → Option RigFault → List (List ℕ)
run_lines kit b calls fault =
    let made = map made_call calls in
    map row_text (rows_of calls (answers_of kit b made)) ++ end_lines (left_by kit b made).cells fault

-- the lines of the run of a `Scenario`, on a rig of so many heads and cells
abbrev pub held_run : Kit ℤ → ℕ → ℕ → Scenario → Option RigFault → List (List ℕ)
held_run kit heads cells s fault =
    run_lines kit (first_bench heads cells (vec_items s.settings)) (vec_items s.calls) fault

-- the settings among entries, and the calls

abbrev pub setting_in : Entry → Option Setting
setting_in (entry.Rig r) = None
setting_in (entry.Set s) = Some s
setting_in (entry.Call k) = None

abbrev pub call_in : Entry → Option HeadCall
call_in (entry.Rig r) = None
call_in (entry.Set s) = None
call_in (entry.Call k) = Some k

abbrev pub settings_in : List Entry → List Setting
settings_in es = filter_map setting_in es

abbrev pub calls_in : List Entry → List HeadCall
calls_in es = filter_map call_in es

-- the lines of a scenario's sheet: a run on its rig; where even the rig line is faulty, the fault alone
abbrev pub sheet_lines : List Entry → Option RigFault → List (List ℕ)
sheet_lines (entry.Rig r ∷ es) fault =
    run_lines (kit_named r.board r.policy) (first_bench r.heads r.cells (settings_in es)) (calls_in es) fault
sheet_lines es fault = end_lines [] fault

-- how a reading ends that stops at a fault, or where there is none
abbrev pub end_at : Option RigFault → Result (Unit {0}) ReadError
end_at None = Ok tt
end_at (Some f) = Err (error.Fault f)

-- the run sheet of a text: what the text says up to its first fault or its end, run by the rule book, each line with a
-- newline
pub record SheetOf (text out : List ℕ) : Type 0 where
  pub entries : List Entry
  pub fault : Option RigFault
  pub says : TextSays text entries fault
  pub is : out ≡ ended NEWLINE (sheet_lines entries fault)

-- no text has two run sheets
abbrev pub SheetOnce : Type 0
SheetOnce = (text out other : List ℕ) → SheetOf text out → SheetOf text other → out ≡ other
