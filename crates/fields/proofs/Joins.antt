-- The parts of a text, and the text again.
use Rattle.std.proofs.Common.{◌≡◌, ℕ, suc, ◌+◌, ◌-◌, ◌<◌, ◌≤◌, true, false, eqb, ◌⊎◌, List, [], ◌∷◌, ◌++◌, length, take, drop, sym, refl, ap, ◌∙◌, subst, inl, inr, ⊎_elim, append_assoc, append-nil, arith, length-append, Option, Some, None}
use Rattle.std.specs.Borrow.{Bor}
use Rattle.std.specs.List.{AllByRecursion, join_with_byte}
use Rattle.std.specs.Option.{unwrap_or}
use Rattle.std.proofs.lemmas.List.{nil_from_length, drop_all, drop-drop, drop-append-le, take_at, take-append-le}
use Rattle.std.proofs.lemmas.Bool.{cond-true, cond-false, cond_both, cases_Bool, cases_lt, eqb-true, eqb-false, eq-eqb, ne_eqb}
use Rattle.faults.specs.declared.texts.TheConstants.{NEWLINE, TAB}
use Rattle.faults.specs.declared.types.Place.{Place}
use Rattle.fields.specs.Parts.{split, onto, lines_of, after_line, lines_from, lines_at, after_field, fields_from, fields_at, bytes_of, Piece, ended, Without, InRow, LiesIn, Lined, FieldsOfLine, text_start, CutAt}

-- fields

split-some : (b : ℕ) (bs : List ℕ) → 0 < length (split b bs)
split-some b [] = omega arith
split-some b (x ∷ xs) =
    let P : List (List ℕ) → Type 0 = λ l. 0 < length l in
    cond_both (eqb x b) ([] ∷ split b xs) (onto x (split b xs)) P (λ _. omega arith) (λ _. onto-some (split b xs))
  where
    onto-some : (ps : List (List ℕ)) → 0 < length (onto x ps)
    onto-some [] = omega arith
    onto-some (p ∷ ps) = omega arith

join-empty : (b : ℕ) (ps : List (List ℕ)) → 0 < length ps → join_with_byte b ([] ∷ ps) ≡ b ∷ join_with_byte b ps
join-empty b [] h = absurd (omega arith)
join-empty b (p ∷ ps) h = refl

join-onto : (b x : ℕ) (ps : List (List ℕ)) → 0 < length ps → join_with_byte b (onto x ps) ≡ x ∷ join_with_byte b ps
join-onto b x [] h = absurd (omega arith)
join-onto b x (p ∷ []) h = refl
join-onto b x (p ∷ q ∷ ps) h = refl

pub join-split : (b : ℕ) (xs : List ℕ) → join_with_byte b (split b xs) ≡ xs
join-split b [] = refl
join-split b (x ∷ xs) =
    let some = split-some b xs in
    ⊎_elim
    (λ (e : eqb x b ≡ true). ap (join_with_byte b) (cond-true (eqb x b) ([] ∷ split b xs) (onto x (split b xs)) e) ∙ join-empty b (split b xs) some ∙ ap (λ l. b ∷ l) (join-split b xs) ∙ ap (λ y. y ∷ xs) (sym (eqb-true x b e)))
    (λ (e : eqb x b ≡ false). ap (join_with_byte b) (cond-false (eqb x b) ([] ∷ split b xs) (onto x (split b xs)) e) ∙ join-onto b x (split b xs) some ∙ ap (λ l. x ∷ l) (join-split b xs))
    (cases_Bool (eqb x b))

onto-without : (b x : ℕ) (ps : List (List ℕ)) → (x ≡ b → ⊥) → AllByRecursion (Without b) ps → AllByRecursion (Without b) (onto x ps)
onto-without b x [] h a = ((h, tt), tt)
onto-without b x (p ∷ ps) h (a, r) = ((h, a), r)

split-without : (b : ℕ) (xs : List ℕ) → AllByRecursion (Without b) (split b xs)
split-without b [] = (tt, tt)
split-without b (x ∷ xs) =
    cond_both (eqb x b) ([] ∷ split b xs) (onto x (split b xs)) (AllByRecursion (Without b)) (λ _. (tt, split-without b xs)) (λ e. onto-without b x (split b xs) (eqb-false x b e) (split-without b xs))

-- parts without the byte b, joined by it and split again, are as they were
pub split-last : (b : ℕ) (p : List ℕ) → Without b p → split b p ≡ p ∷ []
split-last b [] a = refl
split-last b (x ∷ p) (h, a) = cond-false (eqb x b) ([] ∷ split b p) (onto x (split b p)) (ne_eqb x b h) ∙ ap (onto x) (split-last b p a)

pub split-next : (b : ℕ) (p rest : List ℕ) → Without b p → split b (p ++ (b ∷ rest)) ≡ p ∷ split b rest
split-next b [] rest a = cond-true (eqb b b) ([] ∷ split b rest) (onto b (split b rest)) (eq-eqb b b refl)
split-next b (x ∷ p) rest (h, a) = cond-false (eqb x b) ([] ∷ split b (p ++ (b ∷ rest))) (onto x (split b (p ++ (b ∷ rest)))) (ne_eqb x b h) ∙ ap (onto x) (split-next b p rest a)

pub split-joined : (b : ℕ) (parts : List (List ℕ)) → 0 < length parts → AllByRecursion (Without b) parts → split b (join_with_byte b parts) ≡ parts
split-joined b [] h a = absurd (omega arith)
split-joined b (p ∷ []) h (a, r) = split-last b p a
split-joined b (p ∷ q ∷ ps) h (a, r) = split-next b p (join_with_byte b (q ∷ ps)) a ∙ ap (λ l. p ∷ l) (split-joined b (q ∷ ps) (omega arith) r)

-- lines

-- lines without a newline, put together and parted again, are as they were
lines_next : (l rest : List ℕ) → Without NEWLINE l → lines_of (l ++ (NEWLINE ∷ rest)) ≡ l ∷ lines_of rest
lines_next [] rest a = refl
lines_next (x ∷ l) rest (h, a) = cond-false (eqb x NEWLINE) ([] ∷ lines_of (l ++ (NEWLINE ∷ rest))) (onto x (lines_of (l ++ (NEWLINE ∷ rest)))) (ne_eqb x NEWLINE h) ∙ ap (onto x) (lines_next l rest a)

pub lines-ended : (lines : List (List ℕ)) → AllByRecursion (Without NEWLINE) lines → lines_of (ended NEWLINE lines) ≡ lines
lines-ended [] a = refl
lines-ended (l ∷ ls) (a, r) = lines_next l (ended NEWLINE ls) a ∙ ap (λ x. l ∷ x) (lines-ended ls r)

line-last : (l : List ℕ) → 0 < length l → Without NEWLINE l → lines_of l ≡ l ∷ []
line-last [] some a = absurd (omega arith)
line-last (x ∷ []) some (h, a) = cond-false (eqb x NEWLINE) ([] ∷ []) ((x ∷ []) ∷ []) (ne_eqb x NEWLINE h)
line-last (x ∷ y ∷ ys) some (h, a) = cond-false (eqb x NEWLINE) ([] ∷ lines_of (y ∷ ys)) (onto x (lines_of (y ∷ ys))) (ne_eqb x NEWLINE h) ∙ ap (onto x) (line-last (y ∷ ys) (omega arith) a)

pub lines-rejoined : (lines : List (List ℕ)) → 0 < length lines → AllByRecursion (λ (l : List ℕ). Without NEWLINE l × (0 < length l)) lines → lines_of (join_with_byte NEWLINE lines) ≡ lines
lines-rejoined [] some a = absurd (omega arith)
lines-rejoined (l ∷ []) some ((a, h), r) = line-last l h a
lines-rejoined (l ∷ m ∷ ls) some ((a, h), r) = lines_next l (join_with_byte NEWLINE (m ∷ ls)) a ∙ ap (λ x. l ∷ x) (lines-rejoined (m ∷ ls) (omega arith) r)

-- the lines of a text, each with a newline, are the text with its last newline
abbrev Ends : List (List ℕ) → List ℕ → Type 0
Ends ls text = (ended NEWLINE ls ≡ text) ⊎ (ended NEWLINE ls ≡ text ++ (NEWLINE ∷ []))

ends_next : (ls : List (List ℕ)) (xs : List ℕ) (x : ℕ) → x ≡ NEWLINE → Ends ls xs → Ends ([] ∷ ls) (x ∷ xs)
ends_next ls xs x e (inl h) = inl (ap (λ y. y ∷ ended NEWLINE ls) (sym e) ∙ ap (λ l. x ∷ l) h)
ends_next ls xs x e (inr h) = inr (ap (λ y. y ∷ ended NEWLINE ls) (sym e) ∙ ap (λ l. x ∷ l) h)

ends-onto : (ls : List (List ℕ)) (xs : List ℕ) (x : ℕ) → Ends ls xs → Ends (onto x ls) (x ∷ xs)
ends-onto [] xs x (inl h) = inr (ap (λ l. x ∷ (l ++ (NEWLINE ∷ []))) h)
ends-onto [] xs x (inr h) = absurd (omega (arith, ap length h, length-append xs (NEWLINE ∷ [])))
ends-onto (l ∷ ls) xs x (inl h) = inl (ap (λ l. x ∷ l) h)
ends-onto (l ∷ ls) xs x (inr h) = inr (ap (λ l. x ∷ l) h)

pub lines-joined : (text : List ℕ) → Ends (lines_of text) text
lines-joined [] = inl refl
lines-joined (x ∷ xs) =
    let P : List (List ℕ) → Type 0 = λ ls. Ends ls (x ∷ xs) in
    cond_both (eqb x NEWLINE) ([] ∷ lines_of xs) (onto x (lines_of xs)) P (λ e. ends_next (lines_of xs) xs x (eqb-true x NEWLINE e) (lines-joined xs)) (λ e. ends-onto (lines_of xs) xs x (lines-joined xs))

pub lines-without : (text : List ℕ) → AllByRecursion (Without NEWLINE) (lines_of text)
lines-without [] = tt
lines-without (x ∷ xs) =
    cond_both (eqb x NEWLINE) ([] ∷ lines_of xs) (onto x (lines_of xs)) (AllByRecursion (Without NEWLINE)) (λ _. (tt, lines-without xs)) (λ e. onto-without NEWLINE x (lines_of xs) (eqb-false x NEWLINE e) (lines-without xs))

-- places

-- the parts lie in the text one after another, from this byte on, with one byte between two
abbrev Lie : ℕ → List ℕ → ℕ → List (List ℕ) → Type 0
Lie a text byte [] = Unit {0}
Lie a text byte (p ∷ ps) = (take (length p) (drop (byte - a) text) ≡ p) × Lie a text (suc (byte + length p)) ps

after-part : (p : List ℕ) (b : ℕ) (rest : List ℕ) → drop (suc (length p)) (p ++ (b ∷ rest)) ≡ rest
after-part [] b rest = refl
after-part (x ∷ p) b rest = after-part p b rest

lie : (b a : ℕ) (text : List ℕ) (byte : ℕ) (ps : List (List ℕ)) (t : List ℕ) → a ≤ byte → length t ≤ 1 → drop (byte - a) text ++ t ≡ ended b ps → Lie a text byte ps
lie b a text byte [] t low short e = tt
lie b a text byte (p ∷ ps) t low short e =
    let rest : List ℕ = drop (byte - a) text in
    let sizes : length rest + length t ≡ length p + suc (length (ended b ps)) = sym (length-append rest t) ∙ ap length e ∙ length-append p (b ∷ ended b ps) in
    let next : drop (suc (length p)) rest ≡ drop (suc (byte + length p) - a) text = drop-drop (suc (length p)) (byte - a) text ∙ ap (λ n. drop n text) (let q : (byte - a) + suc (length p) ≡ suc (byte + length p) - a = omega arith in q) in (
      sym (take-append-le (length p) rest t (omega arith)) ∙ ap (take (length p)) e ∙ take_at p (b ∷ ended b ps) (length p) refl,
      ⊎_elim
          (λ (h : length p < length rest).
          lie b a text (suc (byte + length p)) ps t (omega arith) short
          (ap (λ l. l ++ t) (sym next) ∙ sym (drop-append-le (suc (length p)) rest t (omega arith)) ∙ ap (drop (suc (length p))) e ∙ after-part p b (ended b ps)))
          (λ (h : length rest ≤ length p).
          lie b a text (suc (byte + length p)) ps [] (omega arith) (omega arith)
          (ap (λ l. l ++ []) (sym next ∙ drop_all (suc (length p)) rest (omega arith)) ∙ sym (nil_from_length (ended b ps) (omega arith))))
          (cases_lt (length p) (length rest)),
    )

pub ended-joined : (b : ℕ) (ps : List (List ℕ)) → 0 < length ps → join_with_byte b ps ++ (b ∷ []) ≡ ended b ps
ended-joined b [] h = absurd (omega arith)
ended-joined b (p ∷ []) h = refl
ended-joined b (p ∷ q ∷ ps) h = append_assoc p (b ∷ join_with_byte b (q ∷ ps)) (b ∷ []) ∙ ap (λ l. p ++ (b ∷ l)) (ended-joined b (q ∷ ps) (omega arith))

-- what holds of the parts holds of the pieces

bytes-of-lines : (p : Place) (ls : List (List ℕ)) → bytes_of (lines_from p ls) ≡ ls
bytes-of-lines p [] = refl
bytes-of-lines p (l ∷ ls) = ap (λ x. l ∷ x) (bytes-of-lines (after_line p l) ls)

lines-all : (P : List ℕ → Type 0) (p : Place) (ls : List (List ℕ)) → AllByRecursion P ls → AllByRecursion (λ (l : Piece). P l.1) (lines_from p ls)
lines-all P p [] a = tt
lines-all P p (l ∷ ls) (a, r) = (a, lines-all P (after_line p l) ls r)

InRow-lines_from : (p : Place) (ls : List (List ℕ)) → InRow p.line (lines_from p ls)
InRow-lines_from p [] = tt
InRow-lines_from p (l ∷ ls) = (refl, InRow-lines_from (after_line p l) ls)

lines-lie : (a : ℕ) (text : List ℕ) (p : Place) (ls : List (List ℕ)) → Lie a text p.byte ls → AllByRecursion (LiesIn a text) (lines_from p ls)
lines-lie a text p [] h = tt
lines-lie a text p (l ∷ ls) (h, r) = (h, lines-lie a text (after_line p l) ls r)

pub bytes-of-fields : (p : Place) (fs : List (List ℕ)) → bytes_of (fields_from p fs) ≡ fs
bytes-of-fields p [] = refl
bytes-of-fields p (f ∷ fs) = ap (λ x. f ∷ x) (bytes-of-fields (after_field p f) fs)

fields-all : (P : List ℕ → Type 0) (p : Place) (fs : List (List ℕ)) → AllByRecursion P fs → AllByRecursion (λ (f : Piece). P f.1) (fields_from p fs)
fields-all P p [] a = tt
fields-all P p (f ∷ fs) (a, r) = (a, fields-all P (after_field p f) fs r)

fields-same-line : (n : ℕ) (p : Place) (fs : List (List ℕ)) → p.line ≡ n → AllByRecursion (λ (f : Piece). f.0.line ≡ n) (fields_from p fs)
fields-same-line n p [] e = tt
fields-same-line n p (f ∷ fs) e = (e, fields-same-line n (after_field p f) fs e)

fields_lie : (a : ℕ) (text : List ℕ) (p : Place) (fs : List (List ℕ)) → Lie a text p.byte fs → AllByRecursion (LiesIn a text) (fields_from p fs)
fields_lie a text p [] h = tt
fields_lie a text p (f ∷ fs) (h, r) = (h, fields_lie a text (after_field p f) fs r)

pub lined : (text : List ℕ) → Lined text (lines_at text_start text)
lined text =
    let P : List (List ℕ) → Type 0 = λ l. Ends l text in
    record {
      joined = subst P (sym (bytes-of-lines text_start (lines_of text))) (lines-joined text);
      apart = lines-all (Without NEWLINE) text_start (lines_of text) (lines-without text);
      numbered = InRow-lines_from text_start (lines_of text);
      placed = lines-lie 0 text text_start (lines_of text) (⊎_elim
          (λ (e : ended NEWLINE (lines_of text) ≡ text). lie NEWLINE 0 text 0 (lines_of text) [] (omega arith) (omega arith) (append-nil (drop 0 text) ∙ all text ∙ sym e))
          (λ (e : ended NEWLINE (lines_of text) ≡ text ++ (NEWLINE ∷ [])). lie NEWLINE 0 text 0 (lines_of text) (NEWLINE ∷ []) (omega arith) (omega arith) (ap (λ l. l ++ (NEWLINE ∷ [])) (all text) ∙ sym e))
          (lines-joined text));
    }
  where
    all : (xs : List ℕ) → drop 0 xs ≡ xs
    all [] = refl
    all (x ∷ xs) = refl

pub fielded_at : (l : Piece) → FieldsOfLine l (fields_at l)
fielded_at (p, bytes) =
    record {
      joined = ap (join_with_byte TAB) (bytes-of-fields p (split TAB bytes)) ∙ join-split TAB bytes;
      apart = fields-all (Without TAB) p (split TAB bytes) (split-without TAB bytes);
      same_line = fields-same-line p.line p (split TAB bytes) refl;
      placed = fields_lie p.byte bytes p (split TAB bytes)
          (lie TAB p.byte bytes p.byte (split TAB bytes) (TAB ∷ []) (omega arith) (omega arith)
          (ap (λ (l : List ℕ). l ++ (TAB ∷ [])) (all p.byte bytes ∙ sym (join-split TAB bytes)) ∙ ended-joined TAB (split TAB bytes) (split-some TAB bytes)));
    }
  where
    all : (a : ℕ) (xs : List ℕ) → drop (a - a) xs ≡ xs
    all a [] = drop_all (a - a) [] (omega arith)
    all a (x ∷ xs) = ap (λ n. drop n (x ∷ xs)) (let e : a - a ≡ 0 = omega arith in e)

-- the first of what is left

pub last-field : (p : Place) (bs f : List ℕ) → (bs ≡ f) × Without TAB f → fields_at (p, bs) ≡ (p, f) ∷ []
last-field p bs f (e, w) = ap (λ (l : List ℕ). fields_from p (split TAB l)) e ∙ ap (fields_from p) (split-last TAB f w)

pub next-field : (p : Place) (bs f rest : List ℕ) → (bs ≡ f ++ (TAB ∷ rest)) × Without TAB f → fields_at (p, bs) ≡ (p, f) ∷ fields_at (record { line = p.line; byte = p.byte + length f + 1 }, rest)
next-field p bs f rest (e, w) =
    let k : suc (p.byte + length f) ≡ p.byte + length f + 1 = omega arith in
    ap (λ (l : List ℕ). fields_from p (split TAB l)) e ∙ ap (fields_from p) (split-next TAB f rest w)
    ∙ ap (λ n. (p, f) ∷ fields_from (record { line = p.line; byte = n }) (split TAB rest)) k

next-line : (p : Place) (bs f rest : List ℕ) → (bs ≡ f ++ (NEWLINE ∷ rest)) × Without NEWLINE f
    → lines_at p bs ≡ (p, f) ∷ lines_at (record { line = p.line + 1; byte = p.byte + (length bs - length rest) }) rest
next-line p bs f rest (e, w) =
    let l : suc p.line ≡ p.line + 1 = omega arith in
    let k : suc (p.byte + length f) ≡ p.byte + (length bs - length rest) = omega (arith, ap length e, length-append f (NEWLINE ∷ rest)) in
    ap (λ (t : List ℕ). lines_from p (lines_of t)) e ∙ ap (lines_from p) (lines_next f rest w)
    ∙ ap (λ n. (p, f) ∷ lines_from (record { line = n; byte = suc (p.byte + length f) }) (lines_of rest)) l
    ∙ ap (λ n. (p, f) ∷ lines_from (record { line = p.line + 1; byte = n }) (lines_of rest)) k

last-line : (p : Place) (bs f : List ℕ) → 0 < length bs → (bs ≡ f) × Without NEWLINE f → lines_at p bs ≡ (p, f) ∷ []
last-line p bs f some (e, w) = ap (λ (t : List ℕ). lines_from p (lines_of t)) e ∙ ap (lines_from p) (line-last f (omega (arith, ap length e)) w)

-- nothing is left after a last line that lacks its newline
pub first-line : (p : Place) (bs f : List ℕ) (r : Option (Bor (List ℕ))) (rest none : Bor (List ℕ)) → 0 < length bs → CutAt NEWLINE bs f r → rest ≡ unwrap_or r none → none.now ≡ []
    → lines_at p bs ≡ (p, f) ∷ lines_at (record { line = p.line + 1; byte = p.byte + (length bs - length rest.now) }) rest.now
first-line p bs f (Some r) rest none some cut e d = rw e (next-line p bs f r.now cut)
first-line p bs f None rest none some cut e d = rw (e, d) (last-line p bs f some cut)
