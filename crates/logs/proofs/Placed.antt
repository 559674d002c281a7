-- Adding to a log at the cell's place.
use Rattle.std.proofs.Common.{◌≡◌, ℕ, zero, suc, ◌+◌, ◌≤◌, ◌<◌, max, false, Bool, cond, not, ◌&&◌, eqb, leb, List, [], ◌∷◌, ◌++◌, length, take, drop, set, sym, refl, ap, ◌∙◌, arith, Ok, Err, Some, None, take-append-drop}
use Rattle.std.specs.List.{position}
use Rattle.std.proofs.lemmas.List.{length-take-le, drop-set-lt}
use Rattle.std.proofs.Math.Seq.{take-set-lt}
use Rattle.std.proofs.lemmas.Bool.{leb-false, or_parts}
use Rattle.rules.specs.declared.types.Slot.{Slot}
use Rattle.rules.specs.declared.types.Refusal.TheVariants as refuse
use Rattle.rules.specs.Logs.{slot, names, put, note}
use Rattle.rules.proofs.Basics.{by-test}
use Rattle.logs.specs.Growth.{room_in, laid, Grown, grown, pushed}
use Rattle.logs.proofs.Lookups.{place_or_end, found, found_none, named, not_named}

-- a slot replaced among the first of the part
pub replaced : {X : Type 0} (n i : ℕ) (x : X) (part new : List X) → i < n → new ≡ set (take n part) i x → new ++ drop n part ≡ set part i x
replaced n i x part new lt e =
    ap (λ xs. xs ++ drop n part) (e ∙ sym (take-set-lt n part i x lt)) ∙ ap (λ ys. take n (set part i x) ++ ys) (sym (drop-set-lt n part i x lt))
    ∙ take-append-drop n (set part i x)

module _ {W : Type 0} (c : ℕ) (w : W) where
  place-within : (log : List (Slot W)) → place_or_end c log ≤ length log
  place-within [] = omega arith
  place-within (s ∷ log) =
      by-test (eqb c s.cell) (λ b. cond b 0 (suc (place_or_end c log)) ≤ suc (length log)) (λ _. omega arith) (λ _. let h = place-within log in omega arith)

  whole : (n : ℕ) (xs : List (Slot W)) → n ≤ length xs → laid (take n xs) xs ≡ xs
  whole n xs le = ap (λ i. take n xs ++ drop i xs) (length-take-le n xs le) ∙ take-append-drop n xs

  -- a log that is put into has the cell's slot at its place
  laid_put : (part : List (Slot W)) (n : ℕ) → n ≤ length part → place_or_end c (take n part) < length part
      → laid (put c w (take n part)) part ≡ set part (place_or_end c (take n part)) (slot c w)
  laid_put [] n le lt = absurd (omega arith)
  laid_put (s ∷ part) zero le lt = refl
  laid_put (s ∷ part) (suc n) le lt =
      by-test (eqb c s.cell)
      (λ b. cond b 0 (suc (place_or_end c (take n part))) < suc (length part)
      → laid (cond b (slot c w ∷ take n part) (s ∷ put c w (take n part))) (s ∷ part) ≡ set (s ∷ part) (cond b 0 (suc (place_or_end c (take n part)))) (slot c w))
      (λ _ _. ap (λ xs. slot c w ∷ xs) (whole n part (omega arith)))
      (λ _ h. ap (λ xs. s ∷ xs) (laid_put part n (omega arith) (omega arith))) lt

  length_put : (part : List (Slot W)) (n : ℕ) → n ≤ length part → length (put c w (take n part)) ≡ max n (place_or_end c (take n part) + 1)
  length_put [] zero le = refl
  length_put [] (suc n) le = absurd (omega arith)
  length_put (s ∷ part) zero le = refl
  length_put (s ∷ part) (suc n) le =
      by-test (eqb c s.cell)
      (λ b. length (cond b (slot c w ∷ take n part) (s ∷ put c w (take n part))) ≡ max (suc n) (cond b 0 (suc (place_or_end c (take n part))) + 1))
      (λ _. let e = length-take-le n part (omega arith) in omega arith)
      (λ _. let e = length_put part n (omega arith) in omega arith)

  -- where no slot of the log names the cell, to note is to put
  note-put : (log : List (Slot W)) → names c log ≡ false → put c w log ≡ note c w log
  note-put log e = rw e (new log e)
    where
      new : (log : List (Slot W)) → names c log ≡ false → put c w log ≡ log ++ (slot c w ∷ [])
      new [] e = refl
      new (s ∷ log) e =
          let parts = or_parts (eqb c s.cell) (names c log) e in
          rw parts.0 (ap (λ xs. s ∷ xs) (new log parts.1))

  module _ (part : List (Slot W)) (n : ℕ) (le : n ≤ room_in part) where
    abbrev log : List (Slot W)
    log = take n part

    within : n ≤ length part
    within = omega arith

    length_log : length log ≡ n
    length_log = length-take-le n part within

    -- what the part and the count come to, by whether the log names the cell and has room
    abbrev result : List (Slot W) → Bool → Bool → Grown W
    result new there full =
        cond (not there && full) (record { answer = Err refuse.Full; part = part; count = length log }) (record { answer = Ok tt; part = laid new part; count = length new })

    pub put_found : (i m : ℕ) (xs : List (Slot W)) → xs ≡ set part i (slot c w) → m ≡ n → position (λ (s : Slot W). eqb c s.cell) log ≡ Some i
        → ◌≡◌ {A = Grown W} (record { answer = Ok tt; part = xs; count = m }) (grown c (put c w log) log part)
    put_found i m xs ex em e =
        let h = found c log i e in
        let q = length_log in
        let near : place_or_end c log < length part = omega arith in
        let same : max n (place_or_end c log + 1) ≡ n = omega arith in
        ap (λ ys. record { answer = Ok tt; part = ys; count = m }) (ex ∙ ap (λ j. set part j (slot c w)) (sym h.1) ∙ sym (laid_put part n within near))
        ∙ ap (λ k. record { answer = Ok tt; part = laid (put c w log) part; count = k }) (em ∙ sym (length_put part n within ∙ same))
        ∙ ap (λ t. result (put c w log) t (leb (room_in part) (length log))) (sym (named c log (omega arith)))

    pub put_new : position (λ (s : Slot W). eqb c s.cell) log ≡ None → pushed (slot c w) part n ≡ grown c (put c w log) log part
    put_new e =
        let q = length_log in
        let far = found_none c log e in
        let last : place_or_end c log ≡ n = let h = place-within log in omega arith in
        let gone : names c log ≡ false = not_named c log far in
        by-test (leb (room_in part) n)
        (λ t. ◌≡◌ {A = Grown W} (cond t (record { answer = Err refuse.Full; part = part; count = n }) (record { answer = Ok tt; part = set part n (slot c w); count = n + 1 })) (result (put c w log) false t))
        (λ _. ap (λ m. record { answer = Err refuse.Full; part = part; count = m }) (sym length_log))
        (λ t. let room = leb-false (room_in part) n t in
        let near : place_or_end c log < length part = omega arith in
        let more : max n (place_or_end c log + 1) ≡ n + 1 = omega arith in
        ap (λ j. record { answer = Ok tt; part = set part j (slot c w); count = n + 1 }) (sym last)
        ∙ ap (λ xs. record { answer = Ok tt; part = xs; count = n + 1 }) (sym (laid_put part n within near))
        ∙ ap (λ m. record { answer = Ok tt; part = laid (put c w log) part; count = m }) (sym (length_put part n within ∙ more)))
        ∙ ap (λ t. result (put c w log) t (leb (room_in part) n)) (sym gone)
        ∙ ap (λ m. result (put c w log) (names c log) (leb (room_in part) m)) (sym length_log)

    pub note_found : (i : ℕ) → position (λ (s : Slot W). eqb c s.cell) log ≡ Some i → ◌≡◌ {A = Grown W} (record { answer = Ok tt; part = part; count = n }) (grown c (note c w log) log part)
    note_found i e =
        let h = found c log i e in
        rw (named c log (omega arith), whole n part within, length_log) refl

    pub note_new : position (λ (s : Slot W). eqb c s.cell) log ≡ None → pushed (slot c w) part n ≡ grown c (note c w log) log part
    note_new e =
        put_new e ∙ ap (λ l. grown c l log part) (note-put log (not_named c log (found_none c log e)))
