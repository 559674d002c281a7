-- A close, put together from its steps.
use Rattle.std.proofs.Common.{◌≡◌, ℕ, ◌+◌, Bool, true, false, cond, not, ◌&&◌, List, [], ◌∷◌, ◌++◌, map, set, Ok, Err, Option, sym, refl, ap, ◌∙◌}
use Rattle.std.proofs.lemmas.List.{append-nil}
use Rattle.parts.specs.declared.types.Cause.TheVariants.{Changed}
use Rattle.parts.specs.declared.calls.Call.TheVariants.{Close}
use Rattle.rules.specs.declared.types.Caller.{Caller}
use Rattle.rules.specs.declared.types.Closing.{Closing}
use Rattle.rules.specs.declared.types.Closing.TheVariants as closing
use Rattle.rules.specs.declared.types.Head.{Head}
use Rattle.rules.specs.declared.types.Refusal.{Refusal}
use Rattle.rules.specs.declared.types.Refusal.TheVariants as refuse
use Rattle.rules.specs.declared.types.Slot.{Slot}
use Rattle.rules.specs.declared.types.Snapshot.{Snapshot}
use Rattle.rules.specs.declared.types.State.TheVariants.{Idle, WritingBack}
use Rattle.rules.specs.Kit.{Memory}
use Rattle.rules.specs.Logs.{is_empty, log_of}
use Rattle.rules.specs.Heads.{abort, is_hardware, is_software}
use Rattle.rules.specs.Bench.{Bench, bench, head_at, after_loads, lock_out, is_valid, cells_validated, present_snapshot, is_odd}
use Rattle.rules.specs.Refusals.{when, first_found}
use Rattle.rules.specs.Calls.{Outcome, outcome, unless, aborts_in, becomes, start_write_back, hardware_close, software_close, close_of}
use Rattle.rules.proofs.Basics.{by-test}
use Rattle.rig.proofs.Changed.{changed}
use Rattle.rig.specs.Admission.{Admits}

module _ {W : Type 0} (memory : Memory W) (b : Bench W) (k : ℕ) (me : Head) (own : me ≡ head_at b k) where
  abbrev loads : List Head
  loads = after_loads memory b k (cells_validated memory b k)

  valid-is : (t : Bool) → is_valid memory b k ≡ t → software_close memory b k ≡ cond t (start_write_back memory b k) (aborts_in b k loads Changed (head_at b k))
  valid-is t e = ap (λ x. cond x (start_write_back memory b k) (aborts_in b k loads Changed (head_at b k))) e

  pub closed_changed : (ys : List Head) (h : Head) (loaded : List ℕ) → h ≡ abort Changed me → is_valid memory b k ≡ false → loaded ≡ cells_validated memory b k
      → ys ≡ after_loads memory b k (loaded ++ []) → outcome (Err (refuse.Aborted Changed)) (bench (record b.table { heads = set ys k h }) b.cells b.reads b.writes) ≡ software_close memory b k
  closed_changed ys h loaded eh valid el es = changed memory b k me own ys h loaded eh el es ∙ sym (valid-is false valid)

  pub closed_locked : (ys zs : List Head) (s : Snapshot) (loaded : List ℕ) → s ≡ present_snapshot b.table → is_valid memory b k ≡ true → loaded ≡ cells_validated memory b k
      → ys ≡ after_loads memory b k (loaded ++ []) → zs ≡ map lock_out ys
      → outcome (Ok (closing.WritingBack me.attempts))
      (bench (record b.table { heads = set zs k (record me { state = WritingBack; written = 0; snapshot = s }); sequence = b.table.sequence + 1 }) b.cells b.reads b.writes) ≡ software_close memory b k
  closed_locked ys zs s loaded eq valid el es ez =
      ap (λ (x : Head). out zs x s) own ∙ ap (out zs (head_at b k)) eq
      ∙ ap (λ xs. out xs (head_at b k) (present_snapshot b.table)) (ez ∙ ap (map lock_out) (es ∙ ap (after_loads memory b k) (append-nil loaded ∙ el)))
      ∙ sym (valid-is true valid)
    where
      out : List Head → Head → Snapshot → Outcome Closing W
      out xs x s =
          outcome (Ok (closing.WritingBack x.attempts))
          (bench (record b.table { heads = set xs k (record x { state = WritingBack; written = 0; snapshot = s }); sequence = b.table.sequence + 1 }) b.cells b.reads b.writes)

-- the rows that are left of a close's
module _ {W : Type 0} (memory : Memory W) (b : Bench W) (who : Caller) (me : Head) (adm : Admits b who Close me) where
  abbrev k : ℕ
  k = who.head

  abbrev wlog : Head → List (Slot W)
  wlog x = log_of k x.write_count b.writes

  abbrev odd : Bool
  odd = is_odd b.table.sequence

  abbrev left : Head → Option Refusal
  left x =
      first_found
      (when ((is_software x.state && not (is_empty (wlog x))) && odd) refuse.Busy
      ∷ when false refuse.Full
      ∷ when false refuse.OutOfTransactions
      ∷ when false refuse.OutOfAttempts
      ∷ [])

  abbrev granted : Head → Outcome Closing W
  granted x =
      cond (is_hardware x.state) (hardware_close memory b k)
      (cond (is_empty (wlog x)) (becomes b k (Ok (closing.Complete (head_at b k).attempts)) (record (head_at b k) { state = Idle })) (software_close memory b k))

  close-is : close_of memory b who ≡ unless (left me) b (granted me)
  close-is = ap (λ o. unless o b (granted (head_at b k))) adm.rows ∙ ap (λ x. unless (left x) b (granted x)) (sym adm.own)

  pub close_software : (o : Outcome Closing W) → is_hardware me.state ≡ false → is_empty (wlog me) ≡ false → odd ≡ false → o ≡ software_close memory b k → o ≡ close_of memory b who
  close_software o soft some even q =
      q ∙ sym (close-is ∙ rw (soft, some, even)
      (by-test (is_software me.state) (λ t. unless (first_found (when ((t && true) && false) refuse.Busy ∷ when false refuse.Full ∷ when false refuse.OutOfTransactions ∷ when false refuse.OutOfAttempts ∷ [])) b (software_close memory b k) ≡ software_close memory b k) (λ _. refl) (λ _. refl)))
