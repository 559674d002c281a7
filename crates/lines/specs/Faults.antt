-- What can be wrong with a line, in which order it is looked for, and what is reported.
use Rattle.std.specs.Prelude.{◌≡◌, ℕ, suc, ◌+◌, ◌≤◌, List, [], ◌∷◌, length, ℤ, Some, None, Ok, Err, Option, Result, ◌≢◌}
use Rattle.std.specs.List.{slice_get}
use Rattle.faults.specs.declared.types.Place.{Place}
use Rattle.faults.specs.declared.types.FieldFault.{FieldFault}
use Rattle.faults.specs.declared.types.FieldFault.TheVariants as in_field
use Rattle.fields.specs.Numbers.{Number, Amount}
use Rattle.fields.specs.Parts.{Piece, fields_at}
use Rattle.entries.specs.declared.types.BoardName.{BoardName}
use Rattle.entries.specs.declared.types.PolicyName.{PolicyName}
use Rattle.entries.specs.declared.types.Letter.{Letter}
use Rattle.entries.specs.declared.types.Letter.TheVariants as letter
use Rattle.entries.specs.declared.types.Word.{Word}
use Rattle.entries.specs.declared.types.Word.TheVariants as word
use Rattle.entries.specs.declared.types.Entry.{Entry}
use Rattle.entries.specs.declared.types.Entry.TheVariants as entry
use Rattle.lines.specs.declared.types.LineEntry.{LineEntry}
use Rattle.lines.specs.declared.types.Stage.{Stage}
use Rattle.lines.specs.declared.types.Stage.TheVariants as stage
use Rattle.faults.specs.declared.types.LineFault.{LineFault}
use Rattle.faults.specs.declared.types.LineFault.TheVariants as in_line
use Rattle.entries.specs.Rendering.{word_text, board_text, policy_text, word_of, Says}

-- what a field after the first has to be
pub data Kind : Type 0 where
  number : Kind
  amount : Kind
  board : Kind
  policy : Kind

abbrev pub operand_kinds : Letter → List Kind
operand_kinds letter.Open = []
operand_kinds letter.Read = number ∷ []
operand_kinds letter.Write = number ∷ amount ∷ []
operand_kinds letter.Close = []
operand_kinds letter.Push = []
operand_kinds letter.Jolt = []
operand_kinds letter.Again = []
operand_kinds letter.Drop = []

-- the fields after each word
abbrev pub kinds : Word → List Kind
kinds word.Rig = number ∷ number ∷ board ∷ policy ∷ []
kinds word.Set = number ∷ amount ∷ []
kinds (word.Call l) = number ∷ operand_kinds l

-- how many of them there are at least: a rig's policy may be missing
abbrev pub least : Word → ℕ
least word.Rig = 3
least word.Set = 2
least (word.Call l) = suc (length (operand_kinds l))

-- a line with the word may have n fields after it
abbrev pub Counted : Word → ℕ → Type 0
Counted w n = (least w ≤ n) × (n ≤ length (kinds w))

-- `rig` stands first and only there, and `set` before calls
abbrev pub Placed : Stage → Word → Type 0
Placed stage.Start w = w ≡ word.Rig
Placed (stage.Settings cells) w = w ≡ word.Rig → ⊥
Placed stage.Calls w = (w ≢ word.Rig) × (w ≢ word.Set)

-- where the line after an entry stands
abbrev pub stage_after : Stage → Entry → Stage
stage_after s (entry.Rig r) = stage.Settings r.cells
stage_after s (entry.Set x) = s
stage_after s (entry.Call k) = stage.Calls

-- the field is a text of its kind
abbrev pub Good : Kind → List ℕ → Type 0
Good number f = (n : ℕ) × Number f n
Good amount f = (z : ℤ) × Amount f z
Good board f = (b : BoardName) × (f ≡ board_text b)
Good policy f = (p : PolicyName) × (f ≡ policy_text p)

-- what can be wrong; a bad field has its kind, its place after the word (from 0) and its piece of the text
pub data Trouble : Type 0 where
  unknown : Trouble
  misplaced : Trouble
  miscounted : Trouble
  bad : Kind → ℕ → Piece → Trouble

-- the line's first field is the word w
abbrev pub Leads : List Piece → Word → Type 0
Leads [] w = ⊥
Leads (f ∷ fs) w = f.1 ≡ word_text w

-- what each trouble is
abbrev pub Wrong : Stage → List Piece → Trouble → Type 0
Wrong s fields unknown = (w : Word) → Leads fields w → ⊥
Wrong s fields misplaced = (w : Word) × Leads fields w × (Placed s w → ⊥)
Wrong s fields miscounted = (w : Word) × Leads fields w × ((n : ℕ) → length fields ≡ suc n → Counted w n → ⊥)
Wrong s fields (bad kind k f) = (w : Word) × Leads fields w × (slice_get (kinds w) k ≡ Some kind) × (slice_get fields (suc k) ≡ Some f) × (Good kind f.1 → ⊥)

-- the order in which troubles are looked for
abbrev pub order : Trouble → ℕ
order unknown = 0
order misplaced = 1
order miscounted = 2
order (bad kind k f) = 3 + k

-- t is wrong, and nothing that comes before it in the order is
pub record First (s : Stage) (fields : List Piece) (t : Trouble) : Type 0 where
  pub wrong : Wrong s fields t
  pub earliest : (u : Trouble) → Wrong s fields u → order t ≤ order u

-- what is reported of a trouble: at the field's first byte for a bad field, else at the line's
abbrev pub field_fault : Kind → Place → FieldFault
field_fault number p = in_field.BadNumber p
field_fault amount p = in_field.BadNumber p
field_fault board p = in_field.UnknownWord p
field_fault policy p = in_field.UnknownWord p

abbrev pub reported : Place → Trouble → LineFault
reported p unknown = in_line.UnknownWord p
reported p misplaced = in_line.Misplaced p
reported p miscounted = in_line.Miscounted p
reported p (bad kind k f) = in_line.Field (field_fault kind f.0)

-- a line is refused with its first trouble; it is then no text of an entry that may stand there
pub record Refused (s : Stage) (line : Piece) (f : LineFault) : Type 0 where
  pub trouble : Trouble
  pub first : First s (fields_at line) trouble
  pub is : f ≡ reported line.0 trouble
  pub nothing : (e : Entry) → Says line.1 e → Placed s (word_of e) → ⊥

-- what a line is read as: the entry that it is a text of, in its place, or its first trouble
abbrev pub LineRead : Stage → Piece → Result Entry LineFault → Type 0
LineRead s line (Ok e) = Says line.1 e × Placed s (word_of e)
LineRead s line (Err f) = Refused s line f

-- the next of the lines is read, and the others are left; None where no line is left
abbrev pub NextRead : Stage → List Piece → List Piece → Option LineEntry → Type 0
NextRead s before after None = (before ≡ []) × (after ≡ [])
NextRead s before after (Some r) = (bytes : List ℕ) × (before ≡ (r.place, bytes) ∷ after) × LineRead s (r.place, bytes) r.said

-- a line is read in one way
abbrev pub LineOnce : Type 0
LineOnce = (s : Stage) (line : Piece) (r q : Result Entry LineFault) → LineRead s line r → LineRead s line q → r ≡ q
