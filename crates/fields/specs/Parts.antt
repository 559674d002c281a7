-- A text as lines and a line as fields, each with the place where it begins.
use Rattle.std.specs.Prelude.{◌≡◌, ℕ, suc, ◌+◌, ◌-◌, cond, ◌⊎◌, List, [], ◌∷◌, ◌++◌, map, length, take, drop, Some, None, Option, ◌==◌, ◌≢◌}
use Rattle.std.specs.Borrow.{Bor}
use Rattle.std.specs.List.{AllByRecursion, join_with_byte}
use Rattle.faults.specs.declared.texts.TheConstants.{NEWLINE, TAB}
use Rattle.faults.specs.declared.types.Place.{Place}
use Rattle.fields.specs.declared.parts.Part.{Part}
use Rattle.fields.specs.declared.parts.Line.{Line}

-- x in front of the first of the parts
abbrev pub onto : ℕ → List (List ℕ) → List (List ℕ)
onto x [] = (x ∷ []) ∷ []
onto x (p ∷ ps) = (x ∷ p) ∷ ps

-- the parts of a text between bytes b: one more than it has such bytes
abbrev pub split : ℕ → List ℕ → List (List ℕ)
split b [] = [] ∷ []
split b (x ∷ xs) = cond (x == b) ([] ∷ split b xs) (onto x (split b xs))

-- the lines of a text: each ends at a newline, which the last may lack
abbrev pub lines_of : List ℕ → List (List ℕ)
lines_of [] = []
lines_of (x ∷ xs) = cond (x == NEWLINE) ([] ∷ lines_of xs) (onto x (lines_of xs))

-- a part with the place where it begins
abbrev pub Piece : Type 0
Piece = Place × List ℕ

abbrev pub piece : Part → Piece
piece p = (p.place, p.bytes.now)

abbrev pub line_piece : Line → Piece
line_piece l = piece l.part

abbrev pub bytes_of : List Piece → List (List ℕ)
bytes_of ps = map (λ (p : Piece). p.1) ps

-- a field begins one byte after the end of the field before it, on the same line
abbrev pub after_field : Place → List ℕ → Place
after_field p f = record { line = p.line; byte = suc (p.byte + length f) }

abbrev pub fields_from : Place → List (List ℕ) → List Piece
fields_from p [] = []
fields_from p (f ∷ fs) = (p, f) ∷ fields_from (after_field p f) fs

-- the fields of a line: its parts between tabs
abbrev pub fields_at : Piece → List Piece
fields_at l = fields_from l.0 (split TAB l.1)

-- a line begins one byte after the end of the line before it, and its number is one more
abbrev pub after_line : Place → List ℕ → Place
after_line p l = record { line = suc p.line; byte = suc (p.byte + length l) }

abbrev pub lines_from : Place → List (List ℕ) → List Piece
lines_from p [] = []
lines_from p (l ∷ ls) = (p, l) ∷ lines_from (after_line p l) ls

abbrev pub lines_at : Place → List ℕ → List Piece
lines_at p text = lines_from p (lines_of text)

-- lines count from 1, bytes from 0
abbrev pub text_start : Place
text_start = record { line = 1; byte = 0 }

-- What the lines of a text and the fields of a line are, said without parting anything.

abbrev pub Without : ℕ → List ℕ → Type 0
Without b bytes = AllByRecursion (λ x. x ≢ b) bytes

-- the parts in a row, each with the byte b after it
abbrev pub ended : ℕ → List (List ℕ) → List ℕ
ended b [] = []
ended b (p ∷ ps) = p ++ (b ∷ ended b ps)

-- numbers in a row from n on
abbrev pub InRow : ℕ → List Piece → Type 0
InRow n [] = Unit {0}
InRow n (p ∷ ps) = (p.0.line ≡ n) × InRow (suc n) ps

-- the piece's bytes are what the text has at its place, where the text begins at byte a
abbrev pub LiesIn : ℕ → List ℕ → Piece → Type 0
LiesIn a text p = take (length p.1) (drop (p.0.byte - a) text) ≡ p.1

-- the lines joined again are the text, up to the one newline that may be missing at the end; none holds a newline;
-- they are numbered from 1, and each lies at its place
pub record Lined (text : List ℕ) (lines : List Piece) : Type 0 where
  pub joined : (ended NEWLINE (bytes_of lines) ≡ text) ⊎ (ended NEWLINE (bytes_of lines) ≡ text ++ (NEWLINE ∷ []))
  pub apart : AllByRecursion (λ (l : Piece). Without NEWLINE l.1) lines
  pub numbered : InRow 1 lines
  pub placed : AllByRecursion (LiesIn 0 text) lines

-- the fields joined by tabs are the line; none holds a tab; each lies on the line, at its place
pub record FieldsOfLine (line : Piece) (fields : List Piece) : Type 0 where
  pub joined : join_with_byte TAB (bytes_of fields) ≡ line.1
  pub apart : AllByRecursion (λ (f : Piece). Without TAB f.1) fields
  pub same_line : AllByRecursion (λ (f : Piece). f.0.line ≡ line.0.line) fields
  pub placed : AllByRecursion (LiesIn line.0.byte line.1) fields

-- the fields of what is left of a line, which may be nothing
abbrev pub fields_of : Option Line → List Piece
fields_of None = []
fields_of (Some line) = fields_at (line_piece line)

-- The words below are for the steps of handing out.

-- bytes cut at their first byte b: what comes before it, and what comes after it, where there is one
abbrev pub CutAt : ℕ → List ℕ → List ℕ → Option (Bor (List ℕ)) → Type 0
CutAt b bytes first None = (bytes ≡ first) × Without b first
CutAt b bytes first (Some rest) = (bytes ≡ first ++ (b ∷ rest.now)) × Without b first
