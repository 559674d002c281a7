-- Slots with a log laid over them: their length, and each head's log.
use Rattle.std.proofs.Common.{◌≡◌, ℕ, ◌+◌, ◌-◌, ◌*◌, ◌<◌, ◌≤◌, List, ◌++◌, length, take, drop, sym, refl, ap, ◌∙◌, ⊎_elim, arith, take-append-drop}
use Rattle.std.proofs.lemmas.List.{length-drop, length-append, length-take-le, drop_at, take-append-le, drop-append-le, drop-drop}
use Rattle.std.proofs.lemmas.Bool.{cases_order}
use Rattle.rules.specs.declared.limits.TheConstants.{SLOTS}
use Rattle.rules.specs.declared.types.Slot.{Slot}
use Rattle.rules.specs.Logs.{log_of, slots_with}

drop-append-add : {X : Type 0} (xs ys : List X) (n : ℕ) → drop (length xs + n) (xs ++ ys) ≡ drop n ys
drop-append-add xs ys n = sym (drop-drop n (length xs) (xs ++ ys)) ∙ ap (drop n) (drop_at xs ys (length xs) refl)

module _ {W : Type 0} (k : ℕ) (log slots : List (Slot W)) (few : length log ≤ SLOTS) (room : SLOTS * k + SLOTS ≤ length slots) where
  length_front : length (take (SLOTS * k) slots) ≡ SLOTS * k
  length_front = length-take-le (SLOTS * k) slots (omega arith)

  pub length-laid : length (slots_with k log slots) ≡ length slots
  length-laid =
      let a = length-append (take (SLOTS * k) slots) (log ++ drop (SLOTS * k + length log) slots) in
      let b = length-append log (drop (SLOTS * k + length log) slots) in
      let c = length-drop (SLOTS * k + length log) slots in
      let d = length_front in
      omega arith

  -- the head's own log, as far as it was slots_with
  pub log-laid-own : (n : ℕ) → n ≤ length log → log_of k n (slots_with k log slots) ≡ take n log
  log-laid-own n le =
      ap (take n) (drop_at (take (SLOTS * k) slots) (log ++ drop (SLOTS * k + length log) slots) (SLOTS * k) length_front)
      ∙ take-append-le n log (drop (SLOTS * k + length log) slots) le

  -- another's
  pub log-laid-other : (j n : ℕ) → (j ≡ k → ⊥) → n ≤ SLOTS → log_of j n (slots_with k log slots) ≡ log_of j n slots
  log-laid-other j n ne le = ⊎_elim (λ (e : j ≡ k). absurd (ne e)) (⊎_elim below above) (cases_order j k)
    where
      front : List (Slot W)
      front = take (SLOTS * k) slots

      back : List (Slot W)
      back = log ++ drop (SLOTS * k + length log) slots

      -- as far as the front goes the slots are as they were
      below : j < k → log_of j n (slots_with k log slots) ≡ log_of j n slots
      below lt =
          let lf = length_front in
          let a : drop (SLOTS * j) (front ++ back) ≡ drop (SLOTS * j) front ++ back = drop-append-le (SLOTS * j) front back (omega arith) in
          let within : n ≤ length (drop (SLOTS * j) front) = let q = length-drop (SLOTS * j) front in omega arith in
          let whole : drop (SLOTS * j) slots ≡ drop (SLOTS * j) front ++ drop (SLOTS * k) slots =
          ap (drop (SLOTS * j)) (sym (take-append-drop (SLOTS * k) slots)) ∙ drop-append-le (SLOTS * j) front (drop (SLOTS * k) slots) (omega arith) in
          ap (take n) a ∙ take-append-le n (drop (SLOTS * j) front) back within
          ∙ sym (ap (take n) whole ∙ take-append-le n (drop (SLOTS * j) front) (drop (SLOTS * k) slots) within)

      above : k < j → log_of j n (slots_with k log slots) ≡ log_of j n slots
      above lt =
          let lf = length_front in
          let past = SLOTS * j - SLOTS * k in
          let rest = past - length log in
          let a : SLOTS * j ≡ length front + past = omega arith in
          let b : past ≡ length log + rest = omega arith in
          let c : (SLOTS * k + length log) + rest ≡ SLOTS * j = omega arith in
          ap (take n)
          (ap (λ x. drop x (front ++ back)) a ∙ drop-append-add front back past ∙ ap (λ x. drop x back) b
          ∙ drop-append-add log (drop (SLOTS * k + length log) slots) rest ∙ drop-drop rest (SLOTS * k + length log) slots ∙ ap (λ x. drop x slots) c)
