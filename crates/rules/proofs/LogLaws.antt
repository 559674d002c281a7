-- Laws of logs: what a write or a read leaves in one, and what putting one into the cells does.
use Rattle.std.proofs.lemmas.List.Folds.{list_any-append}
use Rattle.std.proofs.Common.{◌≡◌, ℕ, suc, ◌+◌, ◌≤◌, true, false, cond, not, ◌&&◌, ◌||◌, eqb, leb, List, [], ◌∷◌, ◌++◌, length, set, Some, None, Option, sym, refl, ap, ◌∙◌, subst, ⊎_elim, arith, All, ◌*◌, drop}
use Rattle.std.specs.List.{slice_get, list_all}
use Rattle.std.proofs.lemmas.Bool.{eqb-true, eqb-false, or_parts, or_cases, and_parts, and_from, leb-false, ne_eqb}
use Rattle.std.proofs.lemmas.List.{set-set, set_comm, length-append, reverse-append, length-take}
use Rattle.std.proofs.lemmas.List.Elements.{All-append, All-nil, All-cons, All-head, All-tail}
use Rattle.rules.specs.declared.limits.TheConstants.{SLOTS}
use Rattle.rules.specs.declared.types.Slot.{Slot}
use Rattle.rules.specs.Logs.{slot, is_empty, names, word_for, put, note, lacks_room_for, put_in, log_of, holds, holds_same}
use Rattle.rules.specs.Kit.{Kit}
use Rattle.rules.proofs.Lawful.{Lawful}
use Rattle.rules.specs.RunLaws.{Agrees}
use Rattle.rules.proofs.Seats.{meets}
use Rattle.rules.proofs.Basics.{eqb-flip, by-test, by-option, wrong, nth-set-other, any_none, all-append-left, all-append-right, all_both}
use Rattle.rules.specs.History.{last_written}

-- no two slots name one cell
abbrev pub Distinct : {W : Type 0} → List (Slot W) → Type 0
Distinct [] = Unit {0}
Distinct (s ∷ log) = (names s.cell log ≡ false) × Distinct log

pub length-log : {W : Type 0} (k n : ℕ) (slots : List (Slot W)) → length (log_of k n slots) ≤ n
length-log k n slots = let e = length-take n (drop (SLOTS * k) slots) in omega arith

module _ {W : Type 0} where
  pub put-in-append : (a b : List (Slot W)) (xs : List W) → put_in (a ++ b) xs ≡ put_in b (put_in a xs)
  put-in-append [] b xs = refl
  put-in-append (s ∷ a) b xs = put-in-append a b (set xs s.cell s.word)

  pub put-in-apart : (c : ℕ) (w : W) (log : List (Slot W)) (xs : List W) → names c log ≡ false → put_in log (set xs c w) ≡ set (put_in log xs) c w
  put-in-apart c w [] xs e = refl
  put-in-apart c w (s ∷ log) xs e =
      let parts = or_parts (eqb c s.cell) (names c log) e in
      let ne : c ≡ s.cell → ⊥ = eqb-false c s.cell parts.0 in
      ap (put_in log) (set_comm xs c s.cell w s.word ne) ∙ put-in-apart c w log (set xs s.cell s.word) parts.1

  -- a write to the log is a write after it
  pub put-in-put : (c : ℕ) (w : W) (log : List (Slot W)) (xs : List W) → Distinct log → put_in (put c w log) xs ≡ set (put_in log xs) c w
  put-in-put c w [] xs d = refl
  put-in-put c w (s ∷ log) xs d =
      by-test (eqb c s.cell) (λ b. put_in (cond b (slot c w ∷ log) (s ∷ put c w log)) xs ≡ set (put_in log (set xs s.cell s.word)) c w)
      (λ e. let same : c ≡ s.cell = eqb-true c s.cell e in
      let gone : names c log ≡ false = subst (λ i. names i log ≡ false) (sym same) d.0 in
      ap (put_in log) (sym (set-set xs c s.word w)) ∙ put-in-apart c w log (set xs c s.word) gone
      ∙ ap (λ i. set (put_in log (set xs i s.word)) c w) same)
      (λ _. put-in-put c w log (set xs s.cell s.word) d.1)

  pub names-put : (d c : ℕ) (w : W) (log : List (Slot W)) → names d (put c w log) ≡ (names d log || eqb d c)
  names-put d c w [] = by-test (eqb d c) (λ b. (b || false) ≡ b) (λ _. refl) (λ _. refl)
  names-put d c w (s ∷ log) =
      by-test (eqb c s.cell) (λ b. names d (cond b (slot c w ∷ log) (s ∷ put c w log)) ≡ ((eqb d s.cell || names d log) || eqb d c))
      (λ e. let same : c ≡ s.cell = eqb-true c s.cell e in
      subst (λ i. (eqb d c || names d log) ≡ ((eqb d i || names d log) || eqb d c)) same
      (by-test (eqb d c) (λ b. (b || names d log) ≡ ((b || names d log) || b)) (λ _. refl)
      (λ _. by-test (names d log) (λ t. t ≡ (t || false)) (λ _. refl) (λ _. refl))))
      (λ _. by-test (eqb d s.cell) (λ b. (b || names d (put c w log)) ≡ ((b || names d log) || eqb d c)) (λ _. refl) (λ _. names-put d c w log))

  pub names-push : (d c : ℕ) (w : W) (log : List (Slot W)) → names d (log ++ (slot c w ∷ [])) ≡ (names d log || eqb d c)
  names-push d c w log =
      list_any-append (λ s. eqb d s.cell) log (slot c w ∷ []) ∙ ap (λ b. names d log || b) (by-test (eqb d c) (λ b. (b || false) ≡ b) (λ _. refl) (λ _. refl))

  pub distinct-put : (c : ℕ) (w : W) (log : List (Slot W)) → Distinct log → Distinct (put c w log)
  distinct-put c w [] d = (refl, tt)
  distinct-put c w (s ∷ log) d =
      by-test (eqb c s.cell) (λ b. Distinct (cond b (slot c w ∷ log) (s ∷ put c w log)))
      (λ e. let same : c ≡ s.cell = eqb-true c s.cell e in
      (subst (λ i. names i log ≡ false) (sym same) d.0, d.1))
      (λ e. let ne : eqb s.cell c ≡ false = eqb-flip c s.cell e in
      (names-put s.cell c w log ∙ rw (d.0, ne), distinct-put c w log d.1))

  pub some-put : (c : ℕ) (w : W) (log : List (Slot W)) → is_empty (put c w log) ≡ false
  some-put c w [] = refl
  some-put c w (s ∷ log) = by-test (eqb c s.cell) (λ b. is_empty (cond b (slot c w ∷ log) (s ∷ put c w log)) ≡ false) (λ _. refl) (λ _. refl)

  pub some-push : (s : Slot W) (log : List (Slot W)) → is_empty (log ++ (s ∷ [])) ≡ false
  some-push s [] = refl
  some-push s (x ∷ log) = refl

  pub all-put : (P : Slot W → Type 0) (c : ℕ) (w : W) (log : List (Slot W)) → P (slot c w) → All P log → All P (put c w log)
  all-put P c w [] p h = All-cons P (slot c w) [] p h
  all-put P c w (s ∷ log) p h =
      by-test (eqb c s.cell) (λ b. All P (cond b (slot c w ∷ log) (s ∷ put c w log))) (λ _. All-cons P (slot c w) log p (All-tail P s log h)) (λ _. All-cons P s (put c w log) (All-head P s log h) (all-put P c w log p (All-tail P s log h)))

  pub word_none : (c : ℕ) (log : List (Slot W)) → word_for c log ≡ None → names c log ≡ false
  word_none c [] e = refl
  word_none c (s ∷ log) q =
      by-test (eqb c s.cell) (λ b. cond b (Some s.word) (word_for c log) ≡ None → (b || names c log) ≡ false)
      (λ _ e. cc) (λ _ e. word_none c log e) q

  pub word_some : (c : ℕ) (w : W) (log : List (Slot W)) → word_for c log ≡ Some w → names c log ≡ true
  word_some c w [] e = cc
  word_some c w (s ∷ log) q =
      by-test (eqb c s.cell) (λ b. cond b (Some s.word) (word_for c log) ≡ Some w → (b || names c log) ≡ true)
      (λ _ e. refl) (λ _ e. word_some c w log e) q

  -- the word of a cell after a write
  pub word_for-put : (d c : ℕ) (w : W) (log : List (Slot W)) → word_for d (put c w log) ≡ cond (eqb d c) (Some w) (word_for d log)
  word_for-put d c w [] = refl
  word_for-put d c w (s ∷ log) =
      by-test (eqb c s.cell) (λ b. word_for d (cond b (slot c w ∷ log) (s ∷ put c w log)) ≡ cond (eqb d c) (Some w) (cond (eqb d s.cell) (Some s.word) (word_for d log)))
      (λ e. subst (λ i. cond (eqb d c) (Some w) (word_for d log) ≡ cond (eqb d c) (Some w) (cond (eqb d i) (Some s.word) (word_for d log))) (eqb-true c s.cell e)
      (by-test (eqb d c) (λ t. cond t (Some w) (word_for d log) ≡ cond t (Some w) (cond t (Some s.word) (word_for d log))) (λ _. refl) (λ _. refl)))
      (λ e. by-test (eqb d s.cell)
      (λ t. eqb d s.cell ≡ t → cond t (Some s.word) (word_for d (put c w log)) ≡ cond (eqb d c) (Some w) (cond t (Some s.word) (word_for d log)))
      (λ _ f. ap (λ t. cond t (Some w) (Some s.word)) (sym (ne_eqb d c (λ q. eqb-false c s.cell e (sym q ∙ eqb-true d s.cell f)))))
      (λ _ _. word_for-put d c w log) refl)

  pub last_written-push : (d c : ℕ) (w : W) (ws : List (Slot W)) → last_written d (ws ++ (slot c w ∷ [])) ≡ cond (eqb d c) (Some w) (last_written d ws)
  last_written-push d c w ws = ap (word_for d) (reverse-append ws (slot c w ∷ []))

  -- the slot's cell has the slot's word
  abbrev pub AgreesAt : List W → Slot W → Type 0
  AgreesAt xs s = slice_get xs s.cell ≡ Some s.word

  -- two lists of cells that agree with a log have one word where it names a cell
  pub agrees_at : (c : ℕ) (log : List (Slot W)) (xs ys : List W) → names c log ≡ true → Agrees xs log → Agrees ys log → slice_get ys c ≡ slice_get xs c
  agrees_at c [] xs ys e p q = wrong e
  agrees_at c (s ∷ log) xs ys e p q =
      ⊎_elim
      (λ (h : eqb c s.cell ≡ true). let same : c ≡ s.cell = eqb-true c s.cell h in
      subst (λ i. slice_get ys i ≡ slice_get xs i) (sym same) (All-head (AgreesAt ys) s log q ∙ sym (All-head (AgreesAt xs) s log p)))
      (λ (h : names c log ≡ true). agrees_at c log xs ys h (All-tail (AgreesAt xs) s log p) (All-tail (AgreesAt ys) s log q))
      (or_cases (eqb c s.cell) (names c log) e)

  -- one slot
  agrees-one : (c : ℕ) (w : W) (xs : List W) → slice_get xs c ≡ Some w → Agrees xs (slot c w ∷ [])
  agrees-one c w xs here = All-cons (AgreesAt xs) (slot c w) [] here (All-nil (AgreesAt xs))

  pub agrees-noted : (c : ℕ) (w : W) (log : List (Slot W)) (xs : List W) → slice_get xs c ≡ Some w → Agrees xs log → Agrees xs (note c w log)
  agrees-noted c w log xs here h =
      by-test (names c log) (λ b. Agrees xs (cond b log (log ++ (slot c w ∷ [])))) (λ _. h)
      (λ _. All-append (AgreesAt xs) log (slot c w ∷ []) h (agrees-one c w xs here))

  -- what agrees with the log and the word note agrees with a record of what was read
  pub noted-reads : (c : ℕ) (w : W) (log rs : List (Slot W)) (cells : List W) → slice_get cells c ≡ Some w → Agrees cells log
      → ((xs : List W) → Agrees xs log → Agrees xs rs) → (xs : List W) → Agrees xs (note c w log) → Agrees xs (rs ++ (slot c w ∷ []))
  noted-reads c w log rs cells here now old xs =
      by-test (names c log) (λ b. Agrees xs (cond b log (log ++ (slot c w ∷ []))) → Agrees xs (rs ++ (slot c w ∷ [])))
      (λ e h. All-append (AgreesAt xs) rs (slot c w ∷ []) (old xs h) (agrees-one c w xs (agrees_at c log cells xs e now h ∙ here)))
      (λ e h. All-append (AgreesAt xs) rs (slot c w ∷ [])
      (old xs (all-append-left (AgreesAt xs) log (slot c w ∷ []) h))
      (all-append-right (AgreesAt xs) log (slot c w ∷ []) h))

  -- a word that has a slot or finds one free leaves at most 32
  pub few-noted : (c : ℕ) (w : W) (log : List (Slot W)) → length log ≤ SLOTS → lacks_room_for c log ≡ false → length (note c w log) ≤ SLOTS
  few-noted c w log le room =
      by-test (names c log) (λ b. (not b && leb SLOTS (length log)) ≡ false → length (cond b log (log ++ (slot c w ∷ []))) ≤ SLOTS) (λ _ _. le)
      (λ _ e. let lt = leb-false SLOTS (length log) e in let n = length-append log (slot c w ∷ []) in omega arith) room

  length-put : (c : ℕ) (w : W) (log : List (Slot W)) → length (put c w log) ≡ cond (names c log) (length log) (length log + 1)
  length-put c w [] = refl
  length-put c w (s ∷ log) =
      by-test (eqb c s.cell) (λ b. length (cond b (slot c w ∷ log) (s ∷ put c w log)) ≡ cond (b || names c log) (suc (length log)) (suc (length log) + 1)) (λ _. refl)
      (λ _. ap suc (length-put c w log) ∙ by-test (names c log) (λ b. suc (cond b (length log) (length log + 1)) ≡ cond b (suc (length log)) (suc (length log) + 1)) (λ _. refl) (λ _. omega arith))

  pub few-put : (c : ℕ) (w : W) (log : List (Slot W)) → length log ≤ SLOTS → lacks_room_for c log ≡ false → length (put c w log) ≤ SLOTS
  few-put c w log le room =
      subst (λ n. n ≤ SLOTS) (sym (length-put c w log))
      (by-test (names c log) (λ b. (not b && leb SLOTS (length log)) ≡ false → cond b (length log) (length log + 1) ≤ SLOTS) (λ _ _. le)
      (λ _ e. let lt = leb-false SLOTS (length log) e in omega arith) room)

module _ {W : Type 0} (kit : Kit W) where
  pub meets-noted : (x c : ℕ) (w : W) (log : List (Slot W)) → meets kit x log ≡ false → eqb (kit.memory.line x) (kit.memory.line c) ≡ false → meets kit x (note c w log) ≡ false
  meets-noted x c w log h e =
      by-test (names c log) (λ b. meets kit x (cond b log (log ++ (slot c w ∷ []))) ≡ false) (λ _. h)
      (λ _. list_any-append (λ s. eqb (kit.memory.line x) (kit.memory.line s.cell)) log (slot c w ∷ []) ∙ rw (h, e))

  -- a write to a line that a log does not touch leaves what the log agrees with
  pub agrees-set : (c : ℕ) (w : W) (log : List (Slot W)) (xs : List W) → meets kit c log ≡ false → Agrees xs log → Agrees (set xs c w) log
  agrees-set c w log xs e h =
      all_both (λ s. eqb (kit.memory.line c) (kit.memory.line s.cell) ≡ false) (AgreesAt xs) (λ s. slice_get (set xs c w) s.cell ≡ Some s.word)
      (λ s apart at. nth-set-other xs c s.cell w (λ q. eqb-false (kit.memory.line c) (kit.memory.line s.cell) apart (ap kit.memory.line q)) ∙ at)
      log (any_none (λ s. eqb (kit.memory.line c) (kit.memory.line s.cell)) log e) h

  pub agrees-put-in : (ws log : List (Slot W)) (xs : List W) → All (λ s. meets kit s.cell log ≡ false) ws → Agrees xs log → Agrees (put_in ws xs) log
  agrees-put-in [] log xs a h = h
  agrees-put-in (s ∷ ws) log xs a h = agrees-put-in ws log (set xs s.cell s.word) (All-tail (λ s. meets kit s.cell log ≡ false) s ws a) (agrees-set s.cell s.word log xs (All-head (λ s. meets kit s.cell log ≡ false) s ws a) h)

  -- validation decides agreement
  module _ (law : Lawful kit) (cells : List W) where
    pub check-agrees : (log : List (Slot W)) → list_all (holds kit.memory.same cells) log ≡ true → Agrees cells log
    check-agrees [] e = All-nil (AgreesAt cells)
    check-agrees (s ∷ log) e =
        let parts = and_parts (holds kit.memory.same cells s) (list_all (holds kit.memory.same cells) log) e in
        let at : slice_get cells s.cell ≡ Some s.word =
        by-option (slice_get cells s.cell) (λ o. holds_same kit.memory.same s.word o ≡ true → o ≡ Some s.word)
        (λ _ h. wrong h) (λ w _ h. ap Some ((law.exact w s.word).0 h)) parts.0 in
        All-cons (AgreesAt cells) s log at (check-agrees log parts.1)

    pub agrees-check : (log : List (Slot W)) → Agrees cells log → list_all (holds kit.memory.same cells) log ≡ true
    agrees-check [] h = refl
    agrees-check (s ∷ log) h =
        and_from (holds kit.memory.same cells s) (list_all (holds kit.memory.same cells) log)
        (ap (λ (o : Option W). holds_same kit.memory.same s.word o) (All-head (AgreesAt cells) s log h) ∙ (law.exact s.word s.word).1 refl)
        (agrees-check log (All-tail (AgreesAt cells) s log h))
