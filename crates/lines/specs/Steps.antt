-- Words for the steps of reading a line.
use Rattle.std.specs.Prelude.{◌≡◌, ℕ, ℤ, ◌<◌, ◌⊎◌, List, [], ◌∷◌, ◌++◌, length, Some, None, Ok, Err, Option, Result}
use Rattle.fields.specs.declared.parts.Part.{Part}
use Rattle.faults.specs.declared.types.Place.{Place}
use Rattle.faults.specs.declared.types.FieldFault.{FieldFault}
use Rattle.faults.specs.declared.types.FieldFault.TheVariants as in_field
use Rattle.fields.specs.Parts.{Piece, piece, bytes_of, fields_at}
use Rattle.entries.specs.declared.types.PolicyName.{PolicyName}
use Rattle.entries.specs.declared.types.PolicyName.TheVariants as policies
use Rattle.parts.specs.declared.calls.Call.{Call}
use Rattle.parts.specs.declared.calls.Call.TheVariants as calls
use Rattle.entries.specs.declared.types.Entry.{Entry}
use Rattle.entries.specs.declared.types.Letter.{Letter}
use Rattle.entries.specs.declared.types.UnknownWord.{UnknownWord}
use Rattle.entries.specs.declared.types.Word.{Word}
use Rattle.entries.specs.declared.types.Word.TheVariants as word
use Rattle.lines.specs.declared.types.LineParts.{LineParts}
use Rattle.lines.specs.declared.types.LineParts.TheVariants as line
use Rattle.lines.specs.declared.types.Stage.{Stage}
use Rattle.faults.specs.declared.types.LineFault.{LineFault}
use Rattle.entries.specs.Rendering.{operands, CallFits, Fits, values, ShortValues, letter_of, word_of, word_text, policy_text}
use Rattle.lines.specs.Faults.{Kind, policy, kinds, operand_kinds, Counted, Placed, Good, field_fault, Leads, First, Trouble, reported}

-- The parts that a line holds, in their order, and its word.

abbrev pub listed : Option Part → List Piece
listed None = []
listed (Some p) = piece p ∷ []

abbrev pub operand_parts : Call Part Part → List Piece
operand_parts calls.Open = []
operand_parts (calls.Read c) = piece c ∷ []
operand_parts (calls.Write c a) = piece c ∷ piece a ∷ []
operand_parts calls.Close = []
operand_parts calls.Push = []
operand_parts calls.Jolt = []
operand_parts calls.Again = []
operand_parts calls.Drop = []

abbrev pub line_parts : LineParts → List Piece
line_parts (line.Rig h c b p) = piece h ∷ piece c ∷ piece b ∷ listed p
line_parts (line.Set c a) = piece c ∷ piece a ∷ []
line_parts (line.Call h k) = piece h ∷ operand_parts k

abbrev pub line_word : LineParts → Word
line_word (line.Rig h c b p) = word.Rig
line_word (line.Set c a) = word.Set
line_word (line.Call h k) = word.Call (letter_of k)

-- the fields after a word make such a line; None where there are too few or too many
abbrev pub Shaped : Word → List Piece → Option LineParts → Type 0
Shaped w fields None = Counted w (length fields) → ⊥
Shaped w fields (Some l) = (line_word l ≡ w) × (line_parts l ≡ fields)

-- the first of these fields make a call with the letter, and the others are left; None where there are too few
abbrev pub ShapedCall : Letter → List Piece → List Piece → Option (Call Part Part) → Type 0
ShapedCall l before after None = length before < length (operand_kinds l)
ShapedCall l before after (Some k) = (letter_of k ≡ l) × (before ≡ operand_parts k ++ after)

-- the first of these fields is the word, and the others are left; None where they begin with no word
abbrev pub LedBy : List Piece → List Piece → Option Word → Type 0
LedBy before after None = (w : Word) → Leads before w → ⊥
LedBy before after (Some w) = (f : Piece) × (before ≡ f ∷ after) × (f.1 ≡ word_text w)

-- the fields of the line at this piece are its word and its parts
abbrev pub MadeOf : Piece → LineParts → Type 0
MadeOf at l = (f : Piece) × (fields_at at ≡ f ∷ line_parts l) × (f.1 ≡ word_text (line_word l))

-- the fault is what is reported of the line's first trouble
abbrev pub Troubled : Stage → Piece → LineFault → Type 0
Troubled s at f = (t : Trouble) × First s (fields_at at) t × (f ≡ reported at.0 t)

-- a line with its word in place and its fields counted, or the first of those three troubles
abbrev pub LineShaped : Stage → Piece → Result LineParts LineFault → Type 0
LineShaped s at (Ok l) = MadeOf at l × Placed s (line_word l)
LineShaped s at (Err f) = Troubled s at f

-- the first bad one of the fields, from the left
abbrev pub FirstBad : List Kind → List Piece → FieldFault → Type 0
FirstBad [] fields fault = ⊥
FirstBad (k ∷ ks) [] fault = ⊥
FirstBad (k ∷ ks) (f ∷ fields) fault = ((fault ≡ field_fault k f.0) × (Good k f.1 → ⊥)) ⊎ (Good k f.1 × FirstBad ks fields fault)

-- the fields after the word are the entry's, all of them or without a plain policy
abbrev pub Values : Entry → List (List ℕ) → Type 0
Values e fields = (fields ≡ values e) ⊎ ShortValues e fields

abbrev pub Valued : Entry → List Piece → Type 0
Valued e fields = Fits e × Values e (bytes_of fields)

-- what the fields after a word are read as
abbrev pub FieldsRead : Word → List Piece → Result Entry FieldFault → Type 0
FieldsRead w fields (Ok e) = (word_of e ≡ w) × Valued e fields
FieldsRead w fields (Err f) = FirstBad (kinds w) fields f

-- what the operands of a call are read as
abbrev pub OperandsRead : Letter → List Piece → Result (Call ℕ ℤ) FieldFault → Type 0
OperandsRead l fields (Ok k) = (letter_of k ≡ l) × CallFits k × (bytes_of fields ≡ operands k)
OperandsRead l fields (Err f) = FirstBad (operand_kinds l) fields f

-- a policy that may be missing
abbrev pub PolicyRead : Option Part → Result PolicyName FieldFault → Type 0
PolicyRead None (Ok p) = p ≡ policies.Plain
PolicyRead None (Err f) = ⊥
PolicyRead (Some f) (Ok p) = f.bytes.now ≡ policy_text p
PolicyRead (Some f) (Err e) = (e ≡ field_fault policy f.place) × (Good policy f.bytes.now → ⊥)

-- what a part is read as that has to be a word, by the meaning of reading its bytes as one
abbrev pub Found : {W : Type 0} → (Result W UnknownWord → Type 0) → Place → Result W FieldFault → Type 0
Found Gives p (Ok w) = Gives (Ok w)
Found Gives p (Err f) = (f ≡ in_field.UnknownWord p) × ((e : UnknownWord) × Gives (Err e))
