-- Looking into a log: what the place of the lowest slot that names a cell tells.
use Rattle.std.proofs.Common.{◌≡◌, ℕ, suc, ◌+◌, ◌<◌, ◌≤◌, true, false, cond, not, ◌||◌, eqb, leb, ltb, List, [], ◌∷◌, length, get_or, Some, None, arith, refl, sym, ap, ◌∙◌}
use Rattle.std.specs.List.{position, position_or_len}
use Rattle.std.proofs.lemmas.Bool.{ltb-true, ltb-false}
use Rattle.rules.specs.declared.limits.TheConstants.{SLOTS}
use Rattle.rules.specs.declared.types.Slot.{Slot}
use Rattle.rules.specs.Logs.{names, word_for, lacks_room_for}
use Rattle.rules.proofs.Basics.{by-test}

module _ {W : Type 0} (c : ℕ) where
  -- the lowest slot's place, or the log's end
  abbrev pub place_or_end : List (Slot W) → ℕ
  place_or_end [] = 0
  place_or_end (s ∷ log) = cond (eqb c s.cell) 0 (suc (place_or_end log))

  counted : (log : List (Slot W)) → position_or_len (λ (s : Slot W). eqb c s.cell) log ≡ place_or_end log
  counted [] = refl
  counted (s ∷ log) =
      by-test (eqb c s.cell) (λ b. cond (not b) (1 + position_or_len (λ (s : Slot W). eqb c s.cell) log) 0 ≡ cond b 0 (suc (place_or_end log)))
      (λ _. refl) (λ _. let h = counted log in omega arith)

  -- a place that is found, or none
  pub found : (log : List (Slot W)) (i : ℕ) → position (λ (s : Slot W). eqb c s.cell) log ≡ Some i → (i < length log) × (place_or_end log ≡ i)
  found log i e =
      let at = position_or_len (λ (s : Slot W). eqb c s.cell) log in
      by-test (ltb at (length log)) (λ b. cond b (Some at) None ≡ Some i → (i < length log) × (place_or_end log ≡ i))
      (λ t q. let same : at ≡ i = cc in let near = ltb-true at (length log) t in (omega arith, sym (counted log) ∙ same)) (λ _ q. cc) e

  pub found_none : (log : List (Slot W)) → position (λ (s : Slot W). eqb c s.cell) log ≡ None → length log ≤ place_or_end log
  found_none log e =
      let at = position_or_len (λ (s : Slot W). eqb c s.cell) log in
      by-test (ltb at (length log)) (λ b. cond b (Some at) None ≡ None → length log ≤ place_or_end log)
      (λ _ q. cc) (λ t _. let far = ltb-false at (length log) t in let h = counted log in omega arith) e

  word-at : (log : List (Slot W)) (d : Slot W) → place_or_end log < length log → Some (get_or log (place_or_end log) d).word ≡ word_for c log
  word-at [] d lt = absurd (omega arith)
  word-at (s ∷ log) d lt =
      by-test (eqb c s.cell) (λ b. cond b 0 (suc (place_or_end log)) < suc (length log) → Some (get_or (s ∷ log) (cond b 0 (suc (place_or_end log))) d).word ≡ cond b (Some s.word) (word_for c log))
      (λ _ _. refl) (λ _ h. word-at log d (omega arith)) lt

  word-none : (log : List (Slot W)) → length log ≤ place_or_end log → None ≡ word_for c log
  word-none [] le = refl
  word-none (s ∷ log) le =
      by-test (eqb c s.cell) (λ b. suc (length log) ≤ cond b 0 (suc (place_or_end log)) → None ≡ cond b (Some s.word) (word_for c log))
      (λ _ h. absurd (omega arith)) (λ _ h. word-none log (omega arith)) le

  -- the word of the slot that is found
  pub word_found : (log : List (Slot W)) (i : ℕ) (d : Slot W) → position (λ (s : Slot W). eqb c s.cell) log ≡ Some i → Some (get_or log i d).word ≡ word_for c log
  word_found log i d e =
      let h = found log i e in
      ap (λ j. Some (get_or log j d).word) (sym h.1) ∙ word-at log d (omega arith)

  pub word_not_found : (log : List (Slot W)) → position (λ (s : Slot W). eqb c s.cell) log ≡ None → None ≡ word_for c log
  word_not_found log e = word-none log (found_none log e)

  -- whether the log names the cell
  pub named : (log : List (Slot W)) → place_or_end log < length log → names c log ≡ true
  named [] lt = absurd (omega arith)
  named (s ∷ log) lt =
      by-test (eqb c s.cell) (λ b. cond b 0 (suc (place_or_end log)) < suc (length log) → (b || names c log) ≡ true)
      (λ _ _. refl) (λ _ h. named log (omega arith)) lt

  pub not_named : (log : List (Slot W)) → length log ≤ place_or_end log → names c log ≡ false
  not_named [] le = refl
  not_named (s ∷ log) le =
      by-test (eqb c s.cell) (λ b. suc (length log) ≤ cond b 0 (suc (place_or_end log)) → (b || names c log) ≡ false)
      (λ _ h. absurd (omega arith)) (λ _ h. not_named log (omega arith)) le

  -- what a look-up tells of the room for the cell
  pub room_found : (log : List (Slot W)) (i : ℕ) → position (λ (s : Slot W). eqb c s.cell) log ≡ Some i → false ≡ lacks_room_for c log
  room_found log i e = let h = found log i e in sym (rw (named log (omega arith)) refl)

  pub room_not_found : (log : List (Slot W)) → position (λ (s : Slot W). eqb c s.cell) log ≡ None → leb SLOTS (length log) ≡ lacks_room_for c log
  room_not_found log e = sym (rw (not_named log (found_none log e)) refl)
