-- A read that is admitted, by the rows that are left.
use Rattle.std.proofs.Common.{◌≡◌, ℕ, Bool, true, false, cond, not, ◌&&◌, List, [], ◌∷◌, length, Some, None, Ok, Err, Option, sym, refl, ap, ◌∙◌, ◌<◌, ◌≤◌, get_or, ⊎_elim, arith}
use Rattle.std.specs.List.{slice_get}
use Rattle.std.proofs.lemmas.Bool.{leb-false}
use Rattle.std.proofs.lemmas.Option.{slice_get_cases}
use Rattle.parts.specs.declared.calls.Call.TheVariants.{Read}
use Rattle.rules.specs.declared.types.Caller.{Caller}
use Rattle.rules.specs.declared.types.Head.{Head}
use Rattle.rules.specs.declared.types.Refusal.{Refusal}
use Rattle.rules.specs.declared.types.Refusal.TheVariants as refuse
use Rattle.rules.specs.declared.types.Slot.{Slot}
use Rattle.rules.specs.Kit.{Memory}
use Rattle.rules.specs.Logs.{names, word_for, lacks_room_for, log_of}
use Rattle.rules.specs.Heads.{is_hardware, is_software}
use Rattle.rules.specs.Bench.{Bench, head_at, is_odd}
use Rattle.rules.specs.Refusals.{when, first_found}
use Rattle.rules.specs.Calls.{Outcome, outcome, unless, leaves, with_word, logged_or, hardware_read, software_read, read_of}
use Rattle.rules.proofs.Basics.{by-test, by-option, wrong}
use Rattle.rules.proofs.LogLaws.{word_none, word_some}
use Rattle.rig.specs.Admission.{Admits}

module _ {W : Type 0} (memory : Memory W) (b : Bench W) (who : Caller) (c : ℕ) (me : Head) (adm : Admits b who (Read c) me) where
  abbrev k : ℕ
  k = who.head

  abbrev wlog : Head → List (Slot W)
  wlog x = log_of k x.write_count b.writes

  abbrev rlog : Head → List (Slot W)
  rlog x = log_of k x.read_count b.reads

  abbrev odd : Bool
  odd = is_odd b.table.sequence

  abbrev left : Head → Option Refusal
  left x =
      first_found
      (when ((is_software x.state && not (names c (wlog x))) && odd) refuse.Busy
      ∷ when (not (names c (wlog x)) && lacks_room_for c (rlog x)) refuse.Full
      ∷ when false refuse.OutOfTransactions
      ∷ when false refuse.OutOfAttempts
      ∷ [])

  abbrev loading : Head → W → Outcome W W
  loading x w = cond (is_hardware x.state) (hardware_read memory b k c w) (software_read memory b k c w)

  abbrev granted : Head → Outcome W W
  granted x = logged_or (word_for c (wlog x)) (λ w. leaves b (Ok w) b.table) (with_word (slice_get b.cells c) b (loading x))

  read-is : read_of memory b who c ≡ unless (left me) b (granted me)
  read-is = ap (λ o. unless o b (granted (head_at b k))) adm.rows ∙ ap (λ x. unless (left x) b (granted x)) (sym adm.own)

  pub read_logged : (w : W) → word_for c (wlog me) ≡ Some w → outcome (Ok w) b ≡ read_of memory b who c
  read_logged w e =
      sym (read-is ∙ rw (word_some c w (wlog me) e, e)
      (by-test (is_software me.state) (λ t. unless (first_found (when ((t && false) && odd) refuse.Busy ∷ when false refuse.Full ∷ when false refuse.OutOfTransactions ∷ when false refuse.OutOfAttempts ∷ [])) b (leaves b (Ok w) b.table) ≡ outcome (Ok w) b)
      (λ _. refl) (λ _. refl)))

  pub read_busy : word_for c (wlog me) ≡ None → (is_software me.state && odd) ≡ true → outcome (Err refuse.Busy) b ≡ read_of memory b who c
  read_busy e waits =
      sym (read-is ∙ rw (word_none c (wlog me) e, e)
      (by-test (is_software me.state) (λ t. (t && odd) ≡ true → unless (first_found (when ((t && true) && odd) refuse.Busy ∷ when (true && lacks_room_for c (rlog me)) refuse.Full ∷ when false refuse.OutOfTransactions ∷ when false refuse.OutOfAttempts ∷ [])) b (with_word (slice_get b.cells c) b (loading me)) ≡ outcome (Err refuse.Busy) b)
      (λ _ h. rw h refl) (λ _ h. wrong h) waits))

  -- without a word of its own, and not waiting
  free : word_for c (wlog me) ≡ None → (is_software me.state && odd) ≡ false
      → read_of memory b who c ≡ unless (first_found (when (lacks_room_for c (rlog me)) refuse.Full ∷ when false refuse.OutOfTransactions ∷ when false refuse.OutOfAttempts ∷ [])) b (with_word (slice_get b.cells c) b (loading me))
  free e go =
      read-is ∙ rw (word_none c (wlog me) e, e)
      (by-test (is_software me.state) (λ t. (t && odd) ≡ false → unless (first_found (when ((t && true) && odd) refuse.Busy ∷ when (true && lacks_room_for c (rlog me)) refuse.Full ∷ when false refuse.OutOfTransactions ∷ when false refuse.OutOfAttempts ∷ [])) b (with_word (slice_get b.cells c) b (loading me)) ≡ unless (first_found (when (lacks_room_for c (rlog me)) refuse.Full ∷ when false refuse.OutOfTransactions ∷ when false refuse.OutOfAttempts ∷ [])) b (with_word (slice_get b.cells c) b (loading me)))
      (λ _ h. rw h refl) (λ _ _. refl) go)

  pub read_full : word_for c (wlog me) ≡ None → (is_software me.state && odd) ≡ false → lacks_room_for c (rlog me) ≡ true → outcome (Err refuse.Full) b ≡ read_of memory b who c
  read_full e go full = sym (free e go ∙ rw full refl)

  -- the rig has the cell
  nothing : slice_get b.cells c ≡ None → ⊥
  nothing e =
      let beyond = leb-false b.table.cell_count c adm.cell in
      let size = adm.cells in
      ⊎_elim
      (λ (s : (x : W) × (c < length b.cells) × (slice_get b.cells c ≡ Some x) × (get_or b.cells c x ≡ x)). let at = s.1 in cc)
      (λ (s : (length b.cells ≤ c) × (slice_get b.cells c ≡ None)). omega (arith, s.0)) (slice_get_cases b.cells c).1

  there : (P : Option W → Type 0) → ((w : W) → slice_get b.cells c ≡ Some w → P (Some w)) → P (slice_get b.cells c)
  there P some = by-option (slice_get b.cells c) P (λ e. absurd (nothing e)) (λ w e. some w e)

  pub read_hardware : (o : Outcome W W) → word_for c (wlog me) ≡ None → (is_software me.state && odd) ≡ false → lacks_room_for c (rlog me) ≡ false → is_hardware me.state ≡ true
      → ((w : W) → slice_get b.cells c ≡ Some w → o ≡ hardware_read memory b k c w) → o ≡ read_of memory b who c
  read_hardware o e go room hard each =
      sym (free e go ∙ rw room (there (λ (x : Option W). with_word x b (loading me) ≡ o) (λ w at. rw hard (sym (each w at)))))

  pub read_software : (o : Outcome W W) → word_for c (wlog me) ≡ None → (is_software me.state && odd) ≡ false → lacks_room_for c (rlog me) ≡ false → is_hardware me.state ≡ false
      → ((w : W) → slice_get b.cells c ≡ Some w → o ≡ software_read memory b k c w) → o ≡ read_of memory b who c
  read_software o e go room soft each =
      sym (free e go ∙ rw room (there (λ (x : Option W). with_word x b (loading me) ≡ o) (λ w at. rw soft (sym (each w at)))))
