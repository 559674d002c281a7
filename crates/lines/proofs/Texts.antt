-- What a line that says something looks like: its fields, and that nothing is wrong with it.
use Rattle.std.proofs.Common.{◌≡◌, ℕ, zero, suc, ◌<◌, List, [], ◌∷◌, length, ℤ, Some, sym, refl, ap, ◌∙◌, subst, inl, inr, ⊎_elim, arith, length-append}
use Rattle.std.specs.Option.{option_map}
use Rattle.std.specs.List.{slice_get, AllByRecursion, join_with_byte}
use Rattle.std.proofs.lemmas.Option.{same_Some, slice_get-map}
use Rattle.faults.specs.declared.types.Place.{Place}
use Rattle.faults.specs.declared.texts.TheConstants.{NEWLINE, TAB}
use Rattle.fields.specs.Parts.{Piece, split, bytes_of, after_field, fields_from, fields_at, Without}
use Rattle.fields.proofs.Joins.{split-joined, join-split, bytes-of-fields}
use Rattle.parts.specs.declared.calls.Call.{Call}
use Rattle.parts.specs.declared.calls.Call.TheVariants as call
use Rattle.entries.specs.declared.types.Entry.{Entry}
use Rattle.entries.specs.declared.types.Entry.TheVariants as entry
use Rattle.entries.specs.declared.types.Letter.{Letter}
use Rattle.entries.specs.declared.types.Letter.TheVariants as letter
use Rattle.entries.specs.declared.types.Word.{Word}
use Rattle.entries.specs.declared.types.Word.TheVariants as word
use Rattle.lines.specs.declared.types.LineParts.{LineParts}
use Rattle.lines.specs.declared.types.Stage.{Stage}
use Rattle.faults.specs.declared.types.LineFault.{LineFault}
use Rattle.entries.specs.Rendering.{word_text, letter_text, word_of, letter_of, operands, values, ShortValues, CallFits, Fits, joined, Says}
use Rattle.lines.specs.Faults.{Kind, kinds, operand_kinds, Counted, Placed, Good, Trouble, unknown, misplaced, miscounted, bad, Wrong, Refused}
use Rattle.lines.specs.Steps.{line_parts, line_word, Valued, Values, MadeOf, Troubled}
use Rattle.lines.proofs.Solid.{Solid, solid-word, solid-values, solid-short, all_without, joined-without}
use Rattle.lines.proofs.Firsts.{one_word, is-here, is-counted}

solid-fields : (e : Entry) (fs : List (List ℕ)) → Fits e → Values e fs → AllByRecursion Solid (word_text (word_of e) ∷ fs)
solid-fields e fs u (inl h) = (solid-word (word_of e), rw h (solid-values e u))
solid-fields e fs u (inr h) = (solid-word (word_of e), solid-short e fs u h)

-- a line that says something holds no newline, and is not empty
letter-some : (l : Letter) → 0 < length (letter_text l)
letter-some letter.Open = omega arith
letter-some letter.Read = omega arith
letter-some letter.Write = omega arith
letter-some letter.Close = omega arith
letter-some letter.Push = omega arith
letter-some letter.Jolt = omega arith
letter-some letter.Again = omega arith
letter-some letter.Drop = omega arith

word_some : (w : Word) → 0 < length (word_text w)
word_some word.Rig = omega arith
word_some word.Set = omega arith
word_some (word.Call l) = letter-some l

joined-some : (w : Word) (fs : List (List ℕ)) → 0 < length (joined w fs)
joined-some w [] = word_some w
joined-some w (f ∷ fs) = omega (arith, word_some w, length-append (word_text w) (TAB ∷ join_with_byte TAB (f ∷ fs)))

pub says-line : (bytes : List ℕ) (e : Entry) → Says bytes e → Without NEWLINE bytes × (0 < length bytes)
says-line bytes e (u, inl h) = rw h (joined-without (word_text (word_of e) ∷ values e) (solid-fields e (values e) u (inl refl)), joined-some (word_of e) (values e))
says-line bytes e (u, inr (fs, s, h)) = rw h (joined-without (word_text (word_of e) ∷ fs) (solid-fields e fs u (inr s)), joined-some (word_of e) fs)

-- a line that says something, split at its tabs
pub says-fields : (bytes : List ℕ) (e : Entry) → Says bytes e → (fs : List (List ℕ)) × (split TAB bytes ≡ word_text (word_of e) ∷ fs) × Values e fs
says-fields bytes e (u, inl h) =
    (values e, ap (split TAB) h ∙ split-joined TAB (word_text (word_of e) ∷ values e) (omega arith) (all_without TAB (word_text (word_of e) ∷ values e) (omega arith) (solid-fields e (values e) u (inl refl))), inl refl)
says-fields bytes e (u, inr (fs, s, h)) =
    (fs, ap (split TAB) h ∙ split-joined TAB (word_text (word_of e) ∷ fs) (omega arith) (all_without TAB (word_text (word_of e) ∷ fs) (omega arith) (solid-fields e fs u (inr s))), inr s)

-- the fields of a line, and what they say
pub fields-said : (at : Piece) (l : LineParts) (e : Entry) → MadeOf at l → word_of e ≡ line_word l → Valued e (line_parts l) → Says at.1 e
fields-said (p, bytes) l e (f, fields, leads) word (u, h) =
    let fs : List (List ℕ) = bytes_of (line_parts l) in
    let parts : split TAB bytes ≡ word_text (word_of e) ∷ fs = sym (bytes-of-fields p (split TAB bytes)) ∙ ap bytes_of fields ∙ ap (λ x. x ∷ fs) (leads ∙ ap word_text (sym word)) in
    let whole : bytes ≡ joined (word_of e) fs = sym (join-split TAB bytes) ∙ ap (join_with_byte TAB) parts in
    (u, ⊎_elim (λ (k : fs ≡ values e). inl (whole ∙ ap (joined (word_of e)) k)) (λ (k : ShortValues e fs). inr (fs, k, whole)) h)

-- Nothing is wrong with a line that says something.

abbrev EachGood : List Kind → List (List ℕ) → Type 0
EachGood [] fs = Unit {0}
EachGood (k ∷ ks) [] = Unit {0}
EachGood (k ∷ ks) (f ∷ fs) = Good k f × EachGood ks fs

good-at : (ks : List Kind) (fs : List (List ℕ)) (j : ℕ) (k : Kind) (f : List ℕ) → EachGood ks fs → slice_get ks j ≡ Some k → slice_get fs j ≡ Some f → Good k f
good-at [] fs j k f a p q = absurd cc
good-at (l ∷ ks) [] j k f a p q = absurd cc
good-at (l ∷ ks) (g ∷ fs) zero k f (a, r) p q = let P : Kind → Type 0 = λ x. Good x f in let Q : List ℕ → Type 0 = λ x. Good l x in subst P (same_Some l k p) (subst Q (same_Some g f q) a)
good-at (l ∷ ks) (g ∷ fs) (suc j) k f (a, r) p q = good-at ks fs j k f r p q

operands-good : (k : Call ℕ ℤ) → CallFits k → EachGood (operand_kinds (letter_of k)) (operands k)
operands-good call.Open u = tt
operands-good (call.Read c) u = ((c, (refl, u)), tt)
operands-good (call.Write c z) (u, v) = ((c, (refl, u)), ((z, (refl, v)), tt))
operands-good call.Close u = tt
operands-good call.Push u = tt
operands-good call.Jolt u = tt
operands-good call.Again u = tt
operands-good call.Drop u = tt

operands-many : (k : Call ℕ ℤ) → length (operands k) ≡ length (operand_kinds (letter_of k))
operands-many call.Open = refl
operands-many (call.Read c) = refl
operands-many (call.Write c z) = refl
operands-many call.Close = refl
operands-many call.Push = refl
operands-many call.Jolt = refl
operands-many call.Again = refl
operands-many call.Drop = refl

values-good : (e : Entry) (fs : List (List ℕ)) → Fits e → Values e fs → EachGood (kinds (word_of e)) fs
values-good (entry.Rig r) fs (u, v) (inl h) = rw h ((r.heads, (refl, u)), ((r.cells, (refl, v)), ((r.board, refl), ((r.policy, refl), tt))))
values-good (entry.Rig r) fs (u, v) (inr (p, h)) = rw h ((r.heads, (refl, u)), ((r.cells, (refl, v)), ((r.board, refl), tt)))
values-good (entry.Set s) fs (u, v) (inl h) = rw h ((s.cell, (refl, u)), ((s.amount, (refl, v)), tt))
values-good (entry.Set s) fs u (inr h) = absurd h
values-good (entry.Call k) fs (u, v) (inl h) = rw h ((k.head, (refl, u)), operands-good k.call v)
values-good (entry.Call k) fs u (inr h) = absurd h

values-counted : (e : Entry) (fs : List (List ℕ)) → Values e fs → Counted (word_of e) (length fs)
values-counted (entry.Rig r) fs (inl h) = let n = ap length h in (omega arith, omega arith)
values-counted (entry.Rig r) fs (inr (p, h)) = let n = ap length h in (omega arith, omega arith)
values-counted (entry.Set s) fs (inl h) = let n = ap length h in (omega arith, omega arith)
values-counted (entry.Set s) fs (inr h) = absurd h
values-counted (entry.Call k) fs (inl h) = let n = ap length h in let m = operands-many k.call in (omega arith, omega arith)
values-counted (entry.Call k) fs (inr h) = absurd h

nth-bytes : (ps : List Piece) (k : ℕ) (f : Piece) → slice_get ps k ≡ Some f → slice_get (bytes_of ps) k ≡ Some f.1
nth-bytes ps k f e = slice_get-map (λ (p : Piece). p.1) ps k ∙ ap (option_map (λ (p : Piece). p.1)) e

length_fields : (p : Place) (fs : List (List ℕ)) → length (fields_from p fs) ≡ length fs
length_fields p [] = refl
length_fields p (f ∷ fs) = ap suc (length_fields (after_field p f) fs)

pub said-or-wrong : (s : Stage) (l : Piece) (e : Entry) (t : Trouble) → Says l.1 e → Placed s (word_of e) → Wrong s (fields_at l) t → ⊥
said-or-wrong s (p, bytes) e t said here wrong =
    let g = says-fields bytes e said in
    let w : List ℕ = word_text (word_of e) in
    let P : List (List ℕ) → Type 0 = λ x. Wrong s (fields_from p x) t in
    none g.0 g.2 t (subst P g.1 wrong)
  where
    none : (fs : List (List ℕ)) → Values e fs → (t : Trouble) → Wrong s (fields_from p (word_text (word_of e) ∷ fs)) t → ⊥
    none fs v unknown x = x (word_of e) refl
    none fs v misplaced (w, l, off) = is-here s (p, word_text (word_of e)) (fields_from (after_field p (word_text (word_of e))) fs) (word_of e) refl here w l off
    none fs v miscounted (w, l, off) =
        let gs : List Piece = fields_from (after_field p (word_text (word_of e))) fs in
        let C : ℕ → Type 0 = λ n. Counted (word_of e) n in
        is-counted s (p, word_text (word_of e)) gs (word_of e) refl here (subst C (sym (length_fields (after_field p (word_text (word_of e))) fs)) (values-counted e fs v)) w l off
    none fs v (bad k j f) (w, l, r, q, off) =
        let gs : List Piece = fields_from (after_field p (word_text (word_of e))) fs in
        let K : Word → Type 0 = λ x. slice_get (kinds x) j ≡ Some k in
        let N : List (List ℕ) → Type 0 = λ x. slice_get x j ≡ Some f.1 in
        off (good-at (kinds (word_of e)) fs j k f.1 (values-good e fs said.0 v)
        (subst K (one_word s (p, word_text (word_of e)) gs (word_of e) refl w l) r)
        (subst N (bytes-of-fields (after_field p (word_text (word_of e))) fs) (nth-bytes gs j f q)))

-- what a line is read as

pub refused : (s : Stage) (l : Piece) (f : LineFault) → Troubled s l f → Refused s l f
refused s l f (t, first, is) = record { trouble = t; first = first; is = is; nothing = λ e said here. said-or-wrong s l e t said here first.wrong }

pub line-said : (s : Stage) (at : Piece) (l : LineParts) (e : Entry) → MadeOf at l × Placed s (line_word l) → (word_of e ≡ line_word l) × Valued e (line_parts l) → Says at.1 e × Placed s (word_of e)
line-said s at l e (fields, here) (word, valued) = let P : Word → Type 0 = λ w. Placed s w in (fields-said at l e fields word valued, subst P (sym word) here)
