-- A head's part of the slots, with a log laid over it, put back among the slots.
use Rattle.std.proofs.Common.{◌≡◌, ℕ, ◌+◌, ◌-◌, ◌*◌, ◌≤◌, false, List, ◌++◌, length, take, drop, sym, ap, ◌∙◌, arith, take-append-drop}
use Rattle.std.proofs.lemmas.List.{append_assoc, length-drop, length-take, take-take, drop-append-le, drop-drop}
use borrow.Rule.Slice.PartMut.{put_mid}
use Rattle.rules.specs.declared.types.Slot.{Slot}
use Rattle.rules.specs.Logs.{lacks_room_for, log_of, note, put, slots_with}
use Rattle.rules.proofs.LogLaws.{length-log, few-noted, few-put}
use Rattle.logs.specs.Growth.{laid}

module _ {W : Type 0} (k : ℕ) (slots : List (Slot W)) (within : 32 * k + 32 ≤ length slots) where
  abbrev part : List (Slot W)
  part = take (32 * k + 32 - 32 * k) (drop (32 * k) slots)

  length_part : length part ≡ 32
  length_part =
      let a = length-take (32 * k + 32 - 32 * k) (drop (32 * k) slots) in
      let b = length-drop (32 * k) slots in
      omega arith

  -- the head's log is the first slots of its part
  own_log : (count : ℕ) → count ≤ 32 → take count part ≡ log_of k count slots
  own_log count le = take-take count (32 * k + 32 - 32 * k) (drop (32 * k) slots) (omega arith)

  laid_back : (log : List (Slot W)) → length log ≤ 32 → put_mid (32 * k) (32 * k + 32 - 32 * k) slots (laid log part) ≡ slots_with k log slots
  laid_back log le =
      let rest : drop (length log) part ++ drop (32 * k + 32 - 32 * k) (drop (32 * k) slots) ≡ drop (32 * k + length log) slots =
      (let q = length_part in
      sym (drop-append-le (length log) part (drop (32 * k + 32 - 32 * k) (drop (32 * k) slots)) (omega arith))
      ∙ ap (drop (length log)) (take-append-drop (32 * k + 32 - 32 * k) (drop (32 * k) slots))
      ∙ drop-drop (length log) (32 * k) slots) in
      ap (λ zs. take (32 * k) slots ++ zs) (append_assoc log (drop (length log) part) (drop (32 * k + 32 - 32 * k) (drop (32 * k) slots)) ∙ ap (λ zs. log ++ zs) rest)

  by_log : (f : List (Slot W) → List (Slot W)) (count : ℕ) (p : List (Slot W)) → count ≤ 32 → length (f (log_of k count slots)) ≤ 32 → p ≡ laid (f (take count part)) part
      → put_mid (32 * k) (32 * k + 32 - 32 * k) slots p ≡ slots_with k (f (log_of k count slots)) slots
  by_log f count p le few e =
      ap (put_mid (32 * k) (32 * k + 32 - 32 * k) slots) (e ∙ ap (λ l. laid (f l) part) (own_log count le)) ∙ laid_back (f (log_of k count slots)) few

  short : (count : ℕ) → count ≤ 32 → length (log_of k count slots) ≤ 32
  short count le = let h = length-log k count slots in omega arith

  pub note_back : (c count : ℕ) (w : W) (p : List (Slot W)) → count ≤ 32 → lacks_room_for c (log_of k count slots) ≡ false → p ≡ laid (note c w (take count part)) part
      → put_mid (32 * k) (32 * k + 32 - 32 * k) slots p ≡ slots_with k (note c w (log_of k count slots)) slots
  note_back c count w p le room e = by_log (note c w) count p le (few-noted c w (log_of k count slots) (short count le) room) e

  pub put_back : (c count : ℕ) (w : W) (p : List (Slot W)) → count ≤ 32 → lacks_room_for c (log_of k count slots) ≡ false → p ≡ laid (put c w (take count part)) part
      → put_mid (32 * k) (32 * k + 32 - 32 * k) slots p ≡ slots_with k (put c w (log_of k count slots)) slots
  put_back c count w p le room e = by_log (put c w) count p le (few-put c w (log_of k count slots) (short count le) room) e
