-- Words for the steps of reading a scenario.
use Rattle.std.specs.Prelude.{◌≡◌, ℕ, ◌<◌, ◌≤◌, ◌⊎◌, List, [], ◌∷◌, ◌++◌, map, length, take, IsSome, IsOk, Some, None, Ok, Err, vec_items, vec_len, vec_capacity, Option, Result}
use Rattle.std.specs.Option.{unwrap_or}
use Rattle.std.specs.Fmt.{IsPlainFormatter, HasWritten}
use Rattle.std.specs.declared.fmt.Error.{Error}
use Rattle.std.specs.declared.fmt.Formatter.{Formatter}
use Rattle.faults.specs.declared.texts.TheConstants.{NEWLINE, LONGEST}
use Rattle.fields.specs.Parts.{Piece, ended, text_start}
use Rattle.entries.specs.declared.types.RigLine.{RigLine}
use Rattle.entries.specs.declared.types.Setting.{Setting}
use Rattle.entries.specs.declared.types.HeadCall.{HeadCall}
use Rattle.entries.specs.declared.types.Entry.{Entry}
use Rattle.entries.specs.declared.types.Entry.TheVariants as entry
use Rattle.lines.specs.declared.types.Stage.{Stage}
use Rattle.faults.specs.declared.types.LineFault.TheVariants as in_line
use Rattle.lines.specs.Faults.{stage_after}
use Rattle.faults.specs.declared.types.RigFault.{RigFault}
use Rattle.faults.specs.declared.types.RigFault.TheVariants as in_rig
use Rattle.scenario.specs.declared.types.ReadError.{ReadError}
use Rattle.scenario.specs.declared.types.ReadError.TheVariants as error
use Rattle.scenario.specs.declared.texts.Entries.{Entries}
use Rattle.scenario.specs.declared.types.Scenario.{Scenario}
use Rattle.scenario.specs.Texts.{RigRead, LinesRead, start}
use Rattle.scenario.specs.Laws.{scenario_text, ending}

-- a scenario by its lists
pub record Held : Type 0 where
  pub rig : Option RigLine
  pub settings : List Setting
  pub calls : List HeadCall

abbrev pub held : Scenario → Held
held s = record { rig = s.rig; settings = vec_items s.settings; calls = vec_items s.calls }

abbrev pub nothing : Held
nothing = record { rig = None; settings = []; calls = [] }

-- with one entry more
abbrev pub put : Held → Entry → Held
put h (entry.Rig r) = record { rig = Some r; settings = h.settings; calls = h.calls }
put h (entry.Set x) = record { rig = h.rig; settings = h.settings ++ (x ∷ []); calls = h.calls }
put h (entry.Call k) = record { rig = h.rig; settings = h.settings; calls = h.calls ++ (k ∷ []) }

-- the lines that are still to come
abbrev pub to_come : Entries → List Piece
to_come s = s.reader

-- the stage after a line that is read as this
abbrev pub stage_then : Stage → Result Entry RigFault → Stage
stage_then s (Ok e) = stage_after s e
stage_then s (Err f) = s

-- the next of the lines is read as this, and the others are still to come
pub record LineSaid (before : Entries) (r : Result Entry RigFault) (after : Entries) : Type 0 where
  pub line : Piece
  pub next : to_come before ≡ line ∷ to_come after
  pub read : RigRead before.stage line r
  pub moved : after.stage ≡ stage_then before.stage r

-- None where no line is left
abbrev pub NextSaid : Entries → Option (Result Entry RigFault) → Entries → Type 0
NextSaid before None after = (to_come before ≡ []) × (to_come after ≡ [])
NextSaid before (Some r) after = LineSaid before r after

-- a text whose lines are read: not too long, and not empty
abbrev pub Sized : List ℕ → Result (Unit {0}) RigFault → Type 0
Sized text (Ok _) = (0 < length text) × (length text ≤ LONGEST)
Sized text (Err f) = ((LONGEST < length text) × (f ≡ in_rig.Line in_line.TooLong)) ⊎ ((length text ≡ 0) × (f ≡ in_rig.Line (in_line.Misplaced text_start)))

-- the lines say what is held, all of them or up to the fault; where memory ran out, the first of them do
abbrev pub Ends : List Piece → List Entry → Result (Unit {0}) ReadError → Type 0
Ends lines es (Ok _) = LinesRead start lines es None
Ends lines es (Err (error.Fault f)) = LinesRead start lines es (Some f)
Ends lines es (Err (error.NoMemory e)) = LinesRead start (take (length es) lines) es None

-- the lines have a reading, which ends after so many of them or at this fault
abbrev pub LinesCounted : List Piece → Result ℕ RigFault → Type 0
LinesCounted lines (Ok n) = (es : List Entry) × LinesRead start lines es None × (n ≡ length es)
LinesCounted lines (Err f) = (es : List Entry) × LinesRead start lines es (Some f)

-- what is told of a reading: its lines, and how it ended; nothing, where memory ran out
abbrev pub Told : List Entry → Result (Unit {0}) ReadError → List ℕ → Type 0
Told es (Ok _) out = out ≡ scenario_text es ++ (ending es None ++ (NEWLINE ∷ []))
Told es (Err (error.Fault f)) out = out ≡ scenario_text es ++ (ending es (Some f) ++ (NEWLINE ∷ []))
Told es (Err (error.NoMemory e)) out = ⊥

-- after a write that is `Ok`, each item is written with a newline after it, if all have a text
pub record WritesLines {W X : Type 0} (took : W → List ℕ → W → Type 0) (output : X → Option (List ℕ)) (before : Formatter W) (items : List X) (r : Result (Unit {0}) Error) (after : Formatter W) : Type 0 where
  pub wrote : ((x : X) → IsSome (output x)) → IsPlainFormatter before → IsOk r → HasWritten took before (ended NEWLINE (map (λ x. unwrap_or (output x) []) items)) after

-- the list that takes the entry has no room left
abbrev pub LacksRoom : Scenario → Entry → Type 0
LacksRoom s (entry.Rig r) = ⊥
LacksRoom s (entry.Set setting) = vec_capacity s.settings ≤ vec_len s.settings
LacksRoom s (entry.Call call) = vec_capacity s.calls ≤ vec_len s.calls
