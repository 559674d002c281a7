-- The text of a scenario, and that reading and rendering are inverse.
use Rattle.std.specs.Prelude.{◌≡◌, ℕ, ◌<◌, ◌≤◌, ◌⊎◌, List, [], ◌∷◌, ◌++◌, map, length, Some, None, codes, decimal, Option}
use Rattle.std.specs.List.{join_with_byte}
use Rattle.faults.specs.declared.texts.TheConstants.{NEWLINE, TAB, LONGEST}
use Rattle.fields.specs.Parts.{ended}
use Rattle.entries.specs.declared.types.Entry.{Entry}
use Rattle.lines.specs.declared.types.Stage.{Stage}
use Rattle.entries.specs.Rendering.{word_of, line_text, Fits, Says}
use Rattle.lines.specs.Faults.{Placed, stage_after}
use Rattle.faults.specs.declared.types.RigFault.{RigFault}
use Rattle.scenario.specs.Texts.{Allowed, start, TextSays}
use Rattle.faults.specs.Reports.{report_of, report_text}

-- the text of each entry, with a newline after it
abbrev pub scenario_text : List Entry → List ℕ
scenario_text es = ended NEWLINE (map line_text es)

-- entries that a scenario may have: each in range, in its place, and allowed by the rig
abbrev pub Lawful : Stage → List Entry → Type 0
Lawful s [] = Unit {0}
Lawful s (e ∷ es) = Fits e × Placed s (word_of e) × Allowed s e × Lawful (stage_after s e) es

-- each line is a text of its entry: its one text, or that of a rig line without a plain policy
abbrev pub LinesSay : List Entry → List (List ℕ) → Type 0
LinesSay [] [] = Unit {0}
LinesSay [] (l ∷ ls) = ⊥
LinesSay (e ∷ es) [] = ⊥
LinesSay (e ∷ es) (l ∷ ls) = Says l e × LinesSay es ls

-- the text is made of such lines, with or without the last newline
abbrev pub TextOf : List Entry → List ℕ → Type 0
TextOf es text = (ls : List (List ℕ)) × LinesSay es ls × ((text ≡ ended NEWLINE ls) ⊎ (text ≡ join_with_byte NEWLINE ls))

pub record Whole (text : List ℕ) (es : List Entry) : Type 0 where
  pub some : 0 < length es
  pub short : length text ≤ LONGEST
  pub lawful : Lawful start es
  pub made : TextOf es text

-- a text says a scenario to its end exactly when it is a text of that scenario, and the scenario is one that may be
abbrev pub SaysExactly : Type 0
SaysExactly = (text : List ℕ) (es : List Entry) → (TextSays text es None → Whole text es) × (Whole text es → TextSays text es None)

-- what is rendered says what was rendered
abbrev pub RenderedSays : Type 0
RenderedSays = (es : List Entry) → 0 < length es → Lawful start es → length (scenario_text es) ≤ LONGEST → TextSays (scenario_text es) es None

-- What `readback` prints: the entries up to the first fault, and a line that tells how the reading ended.

-- the word `whole` and the number of lines, or the fault
abbrev pub ending : List Entry → Option RigFault → List ℕ
ending es None = join_with_byte TAB (codes "whole" ∷ decimal (length es) ∷ [])
ending es (Some f) = report_text (report_of f)

abbrev pub ReadBack : List ℕ → List ℕ → Type 0
ReadBack text out = (es : List Entry) × ((fault : Option RigFault) × TextSays text es fault × (out ≡ scenario_text es ++ (ending es fault ++ (NEWLINE ∷ []))))
