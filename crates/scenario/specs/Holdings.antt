-- What a scenario holds, as the entries of its lines in their order.
use Rattle.std.specs.Prelude.{◌≡◌, ℕ, List, [], ◌∷◌, ◌++◌, map, length, take, Some, None, Ok, Err, vec_items, Option, Result}
use Rattle.entries.specs.declared.types.RigLine.{RigLine}
use Rattle.entries.specs.declared.types.Setting.{Setting}
use Rattle.entries.specs.declared.types.HeadCall.{HeadCall}
use Rattle.entries.specs.declared.types.Entry.{Entry}
use Rattle.entries.specs.declared.types.Entry.TheVariants as entry
use Rattle.faults.specs.declared.types.RigFault.{RigFault}
use Rattle.scenario.specs.declared.types.ReadError.{ReadError}
use Rattle.scenario.specs.declared.types.ReadError.TheVariants as error
use Rattle.scenario.specs.declared.types.Scenario.{Scenario}
use Rattle.scenario.specs.Texts.{TextSays, LinesRead, start, lines_of_text}

-- the rig line, if there is one, then the settings, then the calls
abbrev pub rig_line : Option RigLine → List Entry
rig_line None = []
rig_line (Some r) = entry.Rig r ∷ []

abbrev pub in_order : Option RigLine → List Setting → List HeadCall → List Entry
in_order rig settings calls = rig_line rig ++ (map entry.Set settings ++ map entry.Call calls)

abbrev pub entries_of : Scenario → List Entry
entries_of s = in_order s.rig (vec_items s.settings) (vec_items s.calls)

-- what a reading holds is all that the text says, or what it says up to the fault;
-- where memory ran out, it is what the first lines say, as many as are held
abbrev pub Read : List ℕ → List Entry → Result (Unit {0}) ReadError → Type 0
Read text es (Ok _) = TextSays text es None
Read text es (Err (error.Fault f)) = TextSays text es (Some f)
Read text es (Err (error.NoMemory e)) = LinesRead start (take (length es) (lines_of_text text)) es None

-- the text has a reading, and this is how it ends: after so many lines, or at this fault
abbrev pub Checked : List ℕ → Result ℕ RigFault → Type 0
Checked text (Ok n) = (es : List Entry) × TextSays text es None × (n ≡ length es)
Checked text (Err f) = (es : List Entry) × TextSays text es (Some f)
