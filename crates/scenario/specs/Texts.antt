-- What a whole text says: line after line, up to the first fault.
use Rattle.std.specs.Prelude.{◌≡◌, ℕ, ◌<◌, ◌≤◌, List, [], ◌∷◌, length, Some, None, Ok, Err, Option, Result, IsTrue}
use Rattle.faults.specs.declared.texts.TheConstants.{LONGEST}
use Rattle.parts.specs.Sizes.{in_range}
use Rattle.fields.specs.Parts.{Piece, lines_at, text_start}
use Rattle.entries.specs.declared.types.RigLine.{RigLine}
use Rattle.entries.specs.declared.types.Setting.{Setting}
use Rattle.entries.specs.declared.types.Entry.{Entry}
use Rattle.entries.specs.declared.types.Entry.TheVariants as entry
use Rattle.lines.specs.declared.types.Stage.{Stage}
use Rattle.lines.specs.declared.types.Stage.TheVariants as stage
use Rattle.faults.specs.declared.types.LineFault.TheVariants as in_line
use Rattle.lines.specs.Faults.{LineRead, stage_after}
use Rattle.faults.specs.declared.types.RigFault.{RigFault}
use Rattle.faults.specs.declared.types.RigFault.TheVariants as in_rig

-- the cells of the rig, where settings may stand
abbrev pub cells_at : Stage → ℕ
cells_at stage.Start = 0
cells_at (stage.Settings cells) = cells
cells_at stage.Calls = 0

-- a rig is as large as one may be, and a setting names one of its cells
abbrev pub Allowed : Stage → Entry → Type 0
Allowed s (entry.Rig r) = IsTrue (in_range r.heads r.cells)
Allowed s (entry.Set x) = x.cell < cells_at s
Allowed s (entry.Call k) = Unit {0}

-- what a line of the scenario is read as: what it says, if the rig allows that; else its fault
abbrev pub RigRead : Stage → Piece → Result Entry RigFault → Type 0
RigRead s line (Ok e) = LineRead s line (Ok e) × Allowed s e
RigRead s line (Err (in_rig.Line f)) = LineRead s line (Err f)
RigRead s line (Err (in_rig.NoSuchCell p)) = (p ≡ line.0) × ((x : Setting) × LineRead s line (Ok (entry.Set x)) × (Allowed s (entry.Set x) → ⊥))
RigRead s line (Err (in_rig.BadRig p)) = (p ≡ line.0) × ((r : RigLine) × LineRead s line (Ok (entry.Rig r)) × (Allowed s (entry.Rig r) → ⊥))

-- the lines say these entries, one by one, and end there or at this fault
abbrev pub LinesRead : Stage → List Piece → List Entry → Option RigFault → Type 0
LinesRead s [] [] None = Unit {0}
LinesRead s [] [] (Some f) = ⊥
LinesRead s [] (e ∷ es) fault = ⊥
LinesRead s (l ∷ ls) [] None = ⊥
LinesRead s (l ∷ ls) [] (Some f) = RigRead s l (Err f)
LinesRead s (l ∷ ls) (e ∷ es) fault = RigRead s l (Ok e) × LinesRead (stage_after s e) ls es fault

abbrev pub start : Stage
start = stage.Start

abbrev pub lines_of_text : List ℕ → List Piece
lines_of_text text = lines_at text_start text

-- the text says these entries, up to this fault or its end: a text of more than 65,536 bytes is too long,
-- and an empty one lacks the rig line; any other is read line by line
pub data TextSays (text : List ℕ) : List Entry → Option RigFault → Type 0 where
  long : LONGEST < length text → TextSays text [] (Some (in_rig.Line in_line.TooLong))
  empty : length text ≡ 0 → TextSays text [] (Some (in_rig.Line (in_line.Misplaced text_start)))
  lined : (es : List Entry) (fault : Option RigFault) → 0 < length text → length text ≤ LONGEST → LinesRead start (lines_of_text text) es fault → TextSays text es fault

-- a text is read in one way
abbrev pub TextOnce : Type 0
TextOnce = (text : List ℕ) (es ds : List Entry) (f g : Option RigFault) → TextSays text es f → TextSays text ds g → (es ≡ ds) × (f ≡ g)
