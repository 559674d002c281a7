-- No field that is written holds a tab or a newline: its bytes are all at least a minus sign (45).
use Rattle.std.proofs.Common.{◌≡◌, ℕ, suc, ◌^◌, ◌<◌, ◌≤◌, FitsSigned, w32, Bool, true, ◌&&◌, leb, List, [], ◌∷◌, ◌++◌, ℤ, pos, negsuc, decimal, refl, arith}
use Rattle.std.specs.List.{AllByRecursion, join_with_byte}
use Rattle.std.specs.Fmt.{signed_decimal}
use Rattle.std.specs.Str.{all_ascii_digits}
use Rattle.std.specs.Char.{is_ascii_digit}
use Rattle.std.proofs.lemmas.Fmt.{digits_decimal}
use Rattle.std.proofs.lemmas.Bool.{and_parts, and_from, leb-true, le-leb}
use Rattle.faults.specs.declared.texts.TheConstants.{NEWLINE, TAB}
use Rattle.fields.specs.Parts.{Without}
use Rattle.fields.proofs.Numerals.{own}
use Rattle.entries.specs.declared.types.BoardName.{BoardName}
use Rattle.entries.specs.declared.types.BoardName.TheVariants as board
use Rattle.entries.specs.declared.types.PolicyName.{PolicyName}
use Rattle.entries.specs.declared.types.PolicyName.TheVariants as policy
use Rattle.parts.specs.declared.calls.Call.{Call}
use Rattle.parts.specs.declared.calls.Call.TheVariants as call
use Rattle.entries.specs.declared.types.Letter.{Letter}
use Rattle.entries.specs.declared.types.Letter.TheVariants as letter
use Rattle.entries.specs.declared.types.Word.{Word}
use Rattle.entries.specs.declared.types.Word.TheVariants as word
use Rattle.entries.specs.declared.types.Entry.{Entry}
use Rattle.entries.specs.declared.types.Entry.TheVariants as entry
use Rattle.entries.specs.Rendering.{board_text, policy_text, letter_text, word_text, operands, values, ShortValues, CallFits, Fits}

abbrev pub solid : List ℕ → Bool
solid [] = true
solid (x ∷ xs) = leb 45 x && solid xs

abbrev pub Solid : List ℕ → Type 0
Solid bs = solid bs ≡ true

pub solid-without : (b : ℕ) (bs : List ℕ) → b < 45 → Solid bs → Without b bs
solid-without b [] low h = tt
solid-without b (x ∷ xs) low h = let p = and_parts (leb 45 x) (solid xs) h in (λ e. omega (arith, leb-true 45 x p.0), solid-without b xs low p.1)

pub all_without : (b : ℕ) (fs : List (List ℕ)) → b < 45 → AllByRecursion Solid fs → AllByRecursion (Without b) fs
all_without b [] low h = tt
all_without b (f ∷ fs) low (h, r) = (solid-without b f low h, all_without b fs low r)

solid-digits : (ds : List ℕ) → all_ascii_digits ds ≡ true → Solid ds
solid-digits [] h = refl
solid-digits (d ∷ ds) h =
    let p = and_parts (is_ascii_digit d) (all_ascii_digits ds) h in
    let q = and_parts (leb 48 d) (leb d 57) p.0 in
    let l : 45 ≤ d = omega (arith, leb-true 48 d q.0) in
    and_from (leb 45 d) (solid ds) (le-leb 45 d l) (solid-digits ds p.1)

solid-decimal : (n : ℕ) → n < 2 ^ 32 → Solid (decimal n)
solid-decimal n h = solid-digits (decimal n) (digits_decimal own n (omega arith))

solid-signed : (z : ℤ) → FitsSigned w32 z → Solid (signed_decimal z)
solid-signed (pos n) h = solid-decimal n (omega arith)
solid-signed (negsuc n) h = solid-decimal (suc n) (omega arith)

solid-board : (b : BoardName) → Solid (board_text b)
solid-board board.Stores = refl
solid-board board.Lines = refl

solid-policy : (p : PolicyName) → Solid (policy_text p)
solid-policy policy.Plain = refl
solid-policy policy.Careful = refl

solid-letter : (l : Letter) → Solid (letter_text l)
solid-letter letter.Open = refl
solid-letter letter.Read = refl
solid-letter letter.Write = refl
solid-letter letter.Close = refl
solid-letter letter.Push = refl
solid-letter letter.Jolt = refl
solid-letter letter.Again = refl
solid-letter letter.Drop = refl

pub solid-word : (w : Word) → Solid (word_text w)
solid-word word.Rig = refl
solid-word word.Set = refl
solid-word (word.Call l) = solid-letter l

solid-operands : (k : Call ℕ ℤ) → CallFits k → AllByRecursion Solid (operands k)
solid-operands call.Open u = tt
solid-operands (call.Read c) u = (solid-decimal c u, tt)
solid-operands (call.Write c z) (u, v) = (solid-decimal c u, (solid-signed z v, tt))
solid-operands call.Close u = tt
solid-operands call.Push u = tt
solid-operands call.Jolt u = tt
solid-operands call.Again u = tt
solid-operands call.Drop u = tt

pub solid-values : (e : Entry) → Fits e → AllByRecursion Solid (values e)
solid-values (entry.Rig r) (u, v) = (solid-decimal r.heads u, (solid-decimal r.cells v, (solid-board r.board, (solid-policy r.policy, tt))))
solid-values (entry.Set s) (u, v) = (solid-decimal s.cell u, (solid-signed s.amount v, tt))
solid-values (entry.Call k) (u, v) = (solid-decimal k.head u, solid-operands k.call v)

pub solid-short : (e : Entry) (fs : List (List ℕ)) → Fits e → ShortValues e fs → AllByRecursion Solid fs
solid-short (entry.Rig r) fs (u, v) (p, e) = rw e (solid-decimal r.heads u, (solid-decimal r.cells v, (solid-board r.board, tt)))
solid-short (entry.Set s) fs u e = absurd e
solid-short (entry.Call k) fs u e = absurd e

-- fields joined by tabs hold no newline
without-append : (b : ℕ) (xs ys : List ℕ) → Without b xs → Without b ys → Without b (xs ++ ys)
without-append b [] ys h k = k
without-append b (x ∷ xs) ys (h, r) k = (h, without-append b xs ys r k)

pub joined-without : (fs : List (List ℕ)) → AllByRecursion Solid fs → Without NEWLINE (join_with_byte TAB fs)
joined-without [] h = tt
joined-without (f ∷ []) (h, r) = solid-without NEWLINE f (omega arith) h
joined-without (f ∷ g ∷ fs) (h, r) = without-append NEWLINE f (TAB ∷ join_with_byte TAB (g ∷ fs)) (solid-without NEWLINE f (omega arith) h) (λ e. omega arith, joined-without (g ∷ fs) r)
