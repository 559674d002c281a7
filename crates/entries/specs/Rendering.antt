-- What a line says: each entry has one text, but that a rig line may leave a plain policy out.
use Rattle.std.specs.Prelude.{◌≡◌, ℕ, ℤ, ◌^◌, ◌<◌, ◌⊎◌, List, [], ◌∷◌, Result, Ok, Err, codes, decimal, FitsSigned}
use Rattle.std.specs.Int.{w32}
use Rattle.std.specs.Fmt.{signed_decimal}
use Rattle.std.specs.List.{join_with_byte}
use Rattle.faults.specs.declared.texts.TheConstants.{TAB}
use Rattle.parts.specs.declared.calls.Call.{Call}
use Rattle.parts.specs.declared.calls.Call.TheVariants as call
use Rattle.entries.specs.declared.types.BoardName.{BoardName}
use Rattle.entries.specs.declared.types.BoardName.TheVariants as board
use Rattle.entries.specs.declared.types.PolicyName.{PolicyName}
use Rattle.entries.specs.declared.types.PolicyName.TheVariants as policy
use Rattle.entries.specs.declared.types.Entry.{Entry}
use Rattle.entries.specs.declared.types.Entry.TheVariants as entry
use Rattle.entries.specs.declared.types.Letter.{Letter}
use Rattle.entries.specs.declared.types.Letter.TheVariants as letter
use Rattle.entries.specs.declared.types.Word.{Word}
use Rattle.entries.specs.declared.types.Word.TheVariants as word

-- The words of the format.

abbrev pub board_text : BoardName → List ℕ
board_text board.Stores = codes "stores"
board_text board.Lines = codes "lines"

abbrev pub policy_text : PolicyName → List ℕ
policy_text policy.Plain = codes "plain"
policy_text policy.Careful = codes "careful"

abbrev pub letter_text : Letter → List ℕ
letter_text letter.Open = codes "o"
letter_text letter.Read = codes "r"
letter_text letter.Write = codes "w"
letter_text letter.Close = codes "c"
letter_text letter.Push = codes "p"
letter_text letter.Jolt = codes "j"
letter_text letter.Again = codes "a"
letter_text letter.Drop = codes "d"

abbrev pub word_text : Word → List ℕ
word_text word.Rig = codes "rig"
word_text word.Set = codes "set"
word_text (word.Call l) = letter_text l

-- bytes read as the value whose text they are, or refused where they are no value's text
abbrev pub Named : {V E : Type 0} → (V → List ℕ) → List ℕ → Result V E → Type 0
Named text bytes (Ok v) = bytes ≡ text v
Named {V = V} text bytes (Err e) = (v : V) → bytes ≡ text v → ⊥

-- The word that an entry begins with.

abbrev pub letter_of : {C W : Type 0} → Call C W → Letter
letter_of call.Open = letter.Open
letter_of (call.Read c) = letter.Read
letter_of (call.Write c z) = letter.Write
letter_of call.Close = letter.Close
letter_of call.Push = letter.Push
letter_of call.Jolt = letter.Jolt
letter_of call.Again = letter.Again
letter_of call.Drop = letter.Drop

abbrev pub word_of : Entry → Word
word_of (entry.Rig r) = word.Rig
word_of (entry.Set s) = word.Set
word_of (entry.Call k) = word.Call (letter_of k.call)

-- The fields after it: numbers and amounts by their numerals, a call's head before its operands.

abbrev pub operands : Call ℕ ℤ → List (List ℕ)
operands call.Open = []
operands (call.Read c) = decimal c ∷ []
operands (call.Write c z) = decimal c ∷ signed_decimal z ∷ []
operands call.Close = []
operands call.Push = []
operands call.Jolt = []
operands call.Again = []
operands call.Drop = []

abbrev pub values : Entry → List (List ℕ)
values (entry.Rig r) = decimal r.heads ∷ decimal r.cells ∷ board_text r.board ∷ policy_text r.policy ∷ []
values (entry.Set s) = decimal s.cell ∷ signed_decimal s.amount ∷ []
values (entry.Call k) = decimal k.head ∷ operands k.call

-- a rig line with a plain policy, which is left out
abbrev pub ShortValues : Entry → List (List ℕ) → Type 0
ShortValues (entry.Rig r) fields = (r.policy ≡ policy.Plain) × (fields ≡ decimal r.heads ∷ decimal r.cells ∷ board_text r.board ∷ [])
ShortValues (entry.Set s) fields = ⊥
ShortValues (entry.Call k) fields = ⊥

-- Numbers fit into 32 bits, and amounts into 32 signed bits.

abbrev pub CallFits : Call ℕ ℤ → Type 0
CallFits call.Open = Unit {0}
CallFits (call.Read c) = c < 2 ^ 32
CallFits (call.Write c z) = (c < 2 ^ 32) × FitsSigned w32 z
CallFits call.Close = Unit {0}
CallFits call.Push = Unit {0}
CallFits call.Jolt = Unit {0}
CallFits call.Again = Unit {0}
CallFits call.Drop = Unit {0}

abbrev pub Fits : Entry → Type 0
Fits (entry.Rig r) = (r.heads < 2 ^ 32) × (r.cells < 2 ^ 32)
Fits (entry.Set s) = (s.cell < 2 ^ 32) × FitsSigned w32 s.amount
Fits (entry.Call k) = (k.head < 2 ^ 32) × CallFits k.call

-- the text of a line: its word and values, joined by tabs
abbrev pub joined : Word → List (List ℕ) → List ℕ
joined w fields = join_with_byte TAB (word_text w ∷ fields)

abbrev pub line_text : Entry → List ℕ
line_text e = joined (word_of e) (values e)

-- the bytes are a text of the entry
abbrev pub Says : List ℕ → Entry → Type 0
Says bytes e = Fits e × ((bytes ≡ line_text e) ⊎ ((fields : List (List ℕ)) × ShortValues e fields × (bytes ≡ joined (word_of e) fields)))
