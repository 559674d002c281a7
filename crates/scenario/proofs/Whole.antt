-- A text says a scenario to its end exactly when it is a text of that scenario.
use Rattle.std.proofs.Common.{◌≡◌, ℕ, suc, ◌<◌, ◌≤◌, eqb, ◌⊎◌, List, [], ◌∷◌, ◌++◌, map, length, None, Ok, Option, Result, sym, refl, ap, ◌∙◌, subst, inl, inr, ⊎_elim, arith, length-append}
use Rattle.std.specs.List.{AllByRecursion, join_with_byte}
use Rattle.std.proofs.lemmas.List.{append_cancel_right}
use Rattle.std.proofs.lemmas.Bool.{cond_both}
use Rattle.faults.specs.declared.texts.TheConstants.{NEWLINE, LONGEST}
use Rattle.faults.specs.declared.types.Place.{Place}
use Rattle.fields.specs.Parts.{Piece, lines_of, onto, after_line, lines_from, text_start, ended, Without}
use Rattle.fields.proofs.Joins.{lines-joined, lines-ended, lines-rejoined, ended-joined}
use Rattle.entries.specs.declared.types.Entry.{Entry}
use Rattle.lines.specs.declared.types.Stage.{Stage}
use Rattle.entries.specs.Rendering.{line_text}
use Rattle.lines.specs.Faults.{stage_after}
use Rattle.lines.proofs.Texts.{says-line}
use Rattle.faults.specs.declared.types.RigFault.{RigFault}
use Rattle.scenario.proofs.Onward.{lines-many}
use Rattle.scenario.specs.declared.types.ReadError.{ReadError}
use Rattle.scenario.specs.Texts.{LinesRead, start, TextSays, long, empty, lined}
use Rattle.scenario.specs.Holdings.{Read}
use Rattle.scenario.specs.Laws.{scenario_text, Lawful, LinesSay, Whole, SaysExactly, RenderedSays}

-- how many lines and entries there are

entries-many : (s : Stage) (p : Place) (ls : List (List ℕ)) (es : List Entry) (fault : Option RigFault) → LinesRead s (lines_from p ls) es fault → length es ≤ length ls
entries-many s p [] [] fault h = omega arith
entries-many s p [] (e ∷ es) fault h = absurd h
entries-many s p (l ∷ ls) [] fault h = omega arith
entries-many s p (l ∷ ls) (e ∷ es) fault (h, t) = omega (arith, entries-many (stage_after s e) (after_line p l) ls es fault t)

pub few-entries : (text : List ℕ) (es : List Entry) (fault : Option RigFault) → TextSays text es fault → length es ≤ LONGEST
few-entries text _ _ (long h) = omega arith
few-entries text _ _ (empty h) = omega arith
few-entries text _ _ (lined es fault some short h) = omega (arith, entries-many start text_start (lines_of text) es fault h, lines-many text)

-- lines, and what they say

read-lawful : (s : Stage) (p : Place) (ls : List (List ℕ)) (es : List Entry) → LinesRead s (lines_from p ls) es None → Lawful s es × LinesSay es ls
read-lawful s p [] [] h = (tt, tt)
read-lawful s p [] (e ∷ es) h = absurd h
read-lawful s p (l ∷ ls) [] h = absurd h
read-lawful s p (l ∷ ls) (e ∷ es) (((said, here), allowed), t) =
    let r = read-lawful (stage_after s e) (after_line p l) ls es t in ((said.0, here, allowed, r.0), (said, r.1))

lawful-read : (s : Stage) (p : Place) (ls : List (List ℕ)) (es : List Entry) → Lawful s es → LinesSay es ls → LinesRead s (lines_from p ls) es None
lawful-read s p [] [] a b = tt
lawful-read s p [] (e ∷ es) a b = absurd b
lawful-read s p (l ∷ ls) [] a b = absurd b
lawful-read s p (l ∷ ls) (e ∷ es) (fits, here, allowed, a) (said, b) = (((said, here), allowed), lawful-read (stage_after s e) (after_line p l) ls es a b)

lines-apart : (es : List Entry) (ls : List (List ℕ)) → LinesSay es ls → AllByRecursion (λ (l : List ℕ). Without NEWLINE l × (0 < length l)) ls
lines-apart [] [] h = tt
lines-apart [] (l ∷ ls) h = absurd h
lines-apart (e ∷ es) [] h = absurd h
lines-apart (e ∷ es) (l ∷ ls) (said, h) = (says-line l e said, lines-apart es ls h)

lines-without : (ls : List (List ℕ)) → AllByRecursion (λ (l : List ℕ). Without NEWLINE l × (0 < length l)) ls → AllByRecursion (Without NEWLINE) ls
lines-without [] h = tt
lines-without (l ∷ ls) ((a, b), h) = (a, lines-without ls h)

say-many : (es : List Entry) (ls : List (List ℕ)) → LinesSay es ls → length ls ≡ length es
say-many [] [] h = refl
say-many [] (l ∷ ls) h = absurd h
say-many (e ∷ es) [] h = absurd h
say-many (e ∷ es) (l ∷ ls) (said, h) = ap suc (say-many es ls h)

-- a text of these lines has these lines

text-lines : (text : List ℕ) (es : List Entry) (ls : List (List ℕ)) → 0 < length es → LinesSay es ls → ((text ≡ ended NEWLINE ls) ⊎ (text ≡ join_with_byte NEWLINE ls)) → lines_of text ≡ ls
text-lines text es ls some say (inl e) = ap lines_of e ∙ lines-ended ls (lines-without ls (lines-apart es ls say))
text-lines text es ls some say (inr e) = ap lines_of e ∙ lines-rejoined ls (omega (arith, say-many es ls say)) (lines-apart es ls say)

lines-text : (text : List ℕ) → 0 < length text → (text ≡ ended NEWLINE (lines_of text)) ⊎ (text ≡ join_with_byte NEWLINE (lines_of text))
lines-text text some =
    ⊎_elim (λ (e : ended NEWLINE (lines_of text) ≡ text). inl (sym e))
    (λ (e : ended NEWLINE (lines_of text) ≡ text ++ (NEWLINE ∷ [])). inr (cut (lines_of text) e))
    (lines-joined text)
  where
    cut : (ls : List (List ℕ)) → ended NEWLINE ls ≡ text ++ (NEWLINE ∷ []) → text ≡ join_with_byte NEWLINE ls
    cut [] e = absurd (omega (arith, ap length e, length-append text (NEWLINE ∷ [])))
    cut (l ∷ ls) e = append_cancel_right text (join_with_byte NEWLINE (l ∷ ls)) (NEWLINE ∷ []) (sym e ∙ sym (ended-joined NEWLINE (l ∷ ls) (omega arith)))

-- the law

some-entry : (s : Stage) (ls : List Piece) (es : List Entry) → 0 < length ls → LinesRead s ls es None → 0 < length es
some-entry s [] es some h = absurd (omega arith)
some-entry s (l ∷ ls) [] some h = absurd h
some-entry s (l ∷ ls) (e ∷ es) some h = omega arith

some-line : (text : List ℕ) → 0 < length text → 0 < length (lines_from text_start (lines_of text))
some-line [] some = absurd (omega arith)
some-line (x ∷ xs) some =
    let P : List (List ℕ) → Type 0 = λ l. 0 < length (lines_from text_start l) in
    cond_both (eqb x NEWLINE) ([] ∷ lines_of xs) (onto x (lines_of xs)) P (λ _. omega arith) (λ _. onto-some (lines_of xs))
  where
    onto-some : (ls : List (List ℕ)) → 0 < length (lines_from text_start (onto x ls))
    onto-some [] = omega arith
    onto-some (l ∷ ls) = omega arith

said-whole : (text : List ℕ) (es : List Entry) (fault : Option RigFault) → fault ≡ None → TextSays text es fault → Whole text es
said-whole text _ _ e (long h) = absurd (cc)
said-whole text _ _ e (empty h) = absurd (cc)
said-whole text _ _ e (lined es fault some short h) =
    let P : Option RigFault → Type 0 = λ x. LinesRead start (lines_from text_start (lines_of text)) es x in
    let g : P None = subst P e h in
    let r = read-lawful start text_start (lines_of text) es g in
    record { some = some-entry start (lines_from text_start (lines_of text)) es (some-line text some) g; short = short; lawful = r.0; made = (lines_of text, r.1, lines-text text some) }

whole-said : (text : List ℕ) (es : List Entry) → Whole text es → TextSays text es None
whole-said text es w =
    let ls : List (List ℕ) = w.made.0 in
    let say : LinesSay es ls = w.made.1 in
    let are : lines_of text ≡ ls = text-lines text es ls w.some say w.made.2 in
    let P : List (List ℕ) → Type 0 = λ x. LinesRead start (lines_from text_start x) es None in
    let many : 0 < length text = omega (arith, lines-many text, ap length are, say-many es ls say, w.some) in
    lined es None many w.short (subst P (sym are) (lawful-read start text_start ls es w.lawful say))

pub says-exactly : SaysExactly
says-exactly text es = (said-whole text es None refl, whole-said text es)

each-says : (s : Stage) (es : List Entry) → Lawful s es → LinesSay es (map line_text es)
each-says s [] h = tt
each-says s (e ∷ es) (fits, here, allowed, h) = ((fits, inl refl), each-says (stage_after s e) es h)

pub rendered-says : RenderedSays
rendered-says es some lawful short = whole-said (scenario_text es) es (record { some = some; short = short; lawful = lawful; made = (map line_text es, each-says start es lawful, inl refl) })

-- a reading to the end holds no more entries than a text has bytes

pub few-held : (text : List ℕ) (es : List Entry) (end : Result (Unit {0}) ReadError) → Read text es end → end ≡ Ok tt → length es ≤ LONGEST
few-held text es end h e = let P : Result (Unit {0}) ReadError → Type 0 = λ x. Read text es x in few-entries text es None (subst P e h)
