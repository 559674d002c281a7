-- A call taken apart: what holds of all that it can come to holds of what it comes to.
use Rattle.std.proofs.Common.{◌≡◌, ℕ, true, false, cond, List, [], ◌∷◌, ◌++◌, length, Some, None, Ok, Err, Option, refl}
use Rattle.std.specs.List.{slice_get}
use Rattle.std.proofs.lemmas.Bool.{cond_both}
use Rattle.parts.specs.declared.types.Cause.{Cause}
use Rattle.parts.specs.declared.types.Cause.TheVariants.{Capacity, Changed}
use Rattle.parts.specs.declared.calls.Call.{Call}
use Rattle.parts.specs.declared.calls.Call.TheVariants.{Open, Read, Write, Close, Push, Jolt, Again, Drop}
use Rattle.rules.specs.declared.types.Caller.{Caller}
use Rattle.rules.specs.declared.types.Closing.{Closing}
use Rattle.rules.specs.declared.types.Closing.TheVariants as closing
use Rattle.rules.specs.declared.types.Granted.{Granted}
use Rattle.rules.specs.declared.types.Granted.TheVariants as granted
use Rattle.rules.specs.declared.types.Head.{Head}
use Rattle.rules.specs.declared.types.Refusal.{Refusal}
use Rattle.rules.specs.declared.types.Refusal.TheVariants as refuse
use Rattle.rules.specs.declared.types.Slot.{Slot}
use Rattle.rules.specs.declared.types.Snapshot.{Snapshot}
use Rattle.rules.specs.declared.types.State.TheVariants.{Idle}
use Rattle.rules.specs.Kit.{Kit}
use Rattle.rules.specs.Logs.{is_empty, word_for, put}
use Rattle.rules.specs.Heads.{is_hardware, abort}
use Rattle.rules.specs.Bench.{Bench, head_at, write_log, present_snapshot, after_loads, after_store, is_valid, cells_validated}
use Rattle.rules.specs.Refusals.{refusal}
use Rattle.rules.specs.Calls.{Outcome, refuses, unless, with_word, logged_or, leaves, becomes, aborts_in, admitted_open, admitted_push, admitted_jolt, admitted_drop, admitted_again, admitted_read, admitted_write, admitted_close, notes_word, fits_read, hardware_read, software_read, puts_word, fits_write, hardware_write, hardware_close, start_write_back, software_close}
use Rattle.rules.specs.Answers.{Answer, with_answer, call_of}
use Rattle.rules.proofs.Records.{become, resnap, wrote_more}
use Rattle.rules.proofs.Basics.{by-option}
use Rattle.rules.proofs.Sweeps.{Swept, swept_none, swept-loads, swept-store}

-- a call that nothing refuses
abbrev pub admitted_of : {W : Type 0} → Kit W → Bench W → ℕ → Call ℕ W → Answer W × Bench W
admitted_of kit b k Open = with_answer granted.Begun (admitted_open b k)
admitted_of kit b k (Read c) = with_answer granted.Word (admitted_read kit.memory b k c)
admitted_of kit b k (Write c w) = with_answer (λ _. granted.Done) (admitted_write kit.memory b k c w)
admitted_of kit b k Close = with_answer granted.Closed (admitted_close kit.memory b k)
admitted_of kit b k Push = with_answer granted.SlotsLeft (admitted_push b k)
admitted_of kit b k Jolt = with_answer (λ _. granted.Done) (admitted_jolt b k)
admitted_of kit b k Again = with_answer granted.Begun (admitted_again kit.policy b k)
admitted_of kit b k Drop = with_answer (λ _. granted.Done) (admitted_drop b k)

by-refusal : {A W : Type 0} (give : A → Granted W) (o : Option Refusal) (b : Bench W) (r : Outcome A W) (P : Answer W × Bench W → Type 0)
    → ((e : Refusal) → o ≡ Some e → P (Err e, b)) → (o ≡ None → P (with_answer give r)) → P (with_answer give (unless o b r))
by-refusal give None b r P no' yes' = yes' refl
by-refusal give (Some e) b r P no' yes' = no' e refl

pub by_call : {W : Type 0} (kit : Kit W) (b : Bench W) (who : Caller) (call : Call ℕ W) (P : Answer W × Bench W → Type 0)
    → ((e : Refusal) → refusal b who call ≡ Some e → P (Err e, b))
    → (refusal b who call ≡ None → P (admitted_of kit b who.head call)) → P (call_of kit b who call)
by_call kit b who Open P = by-refusal granted.Begun (refusal b who Open) b (admitted_open b who.head) P
by_call kit b who (Read c) P = by-refusal granted.Word (refusal b who (Read c)) b (admitted_read kit.memory b who.head c) P
by_call kit b who (Write c w) P = by-refusal (λ _. granted.Done) (refusal b who (Write c w)) b (admitted_write kit.memory b who.head c w) P
by_call kit b who Close P = by-refusal granted.Closed (refusal b who Close) b (admitted_close kit.memory b who.head) P
by_call kit b who Push P = by-refusal granted.SlotsLeft (refusal b who Push) b (admitted_push b who.head) P
by_call kit b who Jolt P = by-refusal (λ _. granted.Done) (refusal b who Jolt) b (admitted_jolt b who.head) P
by_call kit b who Again P = by-refusal granted.Begun (refusal b who Again) b (admitted_again kit.policy b who.head) P
by_call kit b who Drop P = by-refusal (λ _. granted.Done) (refusal b who Drop) b (admitted_drop b who.head) P

module _ {W : Type 0} (kit : Kit W) (b : Bench W) (k : ℕ) where
  -- a read is with_answer by the write log or note, or the attempt aborts; only where the cell is not there it is refuses
  pub by_read : (c : ℕ) (P : Outcome W W → Type 0) → ((w : W) → P (leaves b (Ok w) b.table)) → P (refuses b refuse.NoCell)
      → (word_for c (write_log b k) ≡ None → (ys : List Head) → Swept b.table.heads ys → (s : Snapshot) (w : W) → P (notes_word kit.memory b k ys (resnap s (head_at b k)) c w))
      → ((ys : List Head) → Swept b.table.heads ys → (cause : Cause) → P (aborts_in b k ys cause (head_at b k)))
      → P (admitted_read kit.memory b k c)
  by_read c P logged none notes aborts =
      by-option (word_for c (write_log b k)) (λ (o : Option W). P (logged_or o (λ w. leaves b (Ok w) b.table) (with_word (slice_get b.cells c) b loading)))
      (λ e. by-option (slice_get b.cells c) (λ (o : Option W). P (with_word o b loading)) (λ _. none) (λ w _. loaded e w))
      (λ w _. logged w)
    where
      loading : W → Outcome W W
      loading w = cond (is_hardware (head_at b k).state) (hardware_read kit.memory b k c w) (software_read kit.memory b k c w)

      loaded : word_for c (write_log b k) ≡ None → (w : W) → P (loading w)
      loaded e w =
          cond_both (is_hardware (head_at b k).state) (hardware_read kit.memory b k c w) (software_read kit.memory b k c w) P
          (λ _. cond_both (fits_read kit.memory b k c) _ _ P
          (λ _. notes e (after_loads kit.memory b k (c ∷ [])) (swept-loads kit b k (c ∷ [])) (head_at b k).snapshot w)
          (λ _. aborts b.table.heads (swept_none b.table.heads) Capacity))
          (λ _. cond_both (is_valid kit.memory b k) _ _ P
          (λ _. notes e (after_loads kit.memory b k (cells_validated kit.memory b k ++ (c ∷ []))) (swept-loads kit b k (cells_validated kit.memory b k ++ (c ∷ []))) (present_snapshot b.table) w)
          (λ _. aborts (after_loads kit.memory b k (cells_validated kit.memory b k)) (swept-loads kit b k (cells_validated kit.memory b k)) Changed))

  -- a write goes into the log, and the attempt may abort
  pub by-write : (c : ℕ) (w : W) (P : Outcome (Unit {0}) W → Type 0)
      → ((ys : List Head) → Swept b.table.heads ys → P (puts_word kit.memory b k (Ok tt) (put c w (write_log b k)) ys (wrote_more (length (put c w (write_log b k))) (head_at b k))))
      → P (puts_word kit.memory b k (Err (refuse.Aborted Capacity)) (put c w (write_log b k)) b.table.heads (abort Capacity (wrote_more (length (put c w (write_log b k))) (head_at b k))))
      → P (admitted_write kit.memory b k c w)
  by-write c w P stores aborts =
      cond_both (is_hardware (head_at b k).state) (hardware_write kit.memory b k c log h) _ P
      (λ _. cond_both (fits_write kit.memory b k log h) _ _ P (λ _. stores (after_store kit.memory b k c) (swept-store kit b k c)) (λ _. aborts))
      (λ _. stores b.table.heads (swept_none b.table.heads))
    where
      log : List (Slot W)
      log = put c w (write_log b k)

      h : Head
      h = wrote_more (length log) (head_at b k)

  -- a close ends the transaction, or begins to write back, or the attempt aborts
  pub by-close : (P : Outcome Closing W → Type 0) → (is_hardware (head_at b k).state ≡ true → P (hardware_close kit.memory b k))
      → P (becomes b k (Ok (closing.Complete (head_at b k).attempts)) (become Idle (head_at b k)))
      → (is_hardware (head_at b k).state ≡ false → is_empty (write_log b k) ≡ false → P (start_write_back kit.memory b k))
      → ((ys : List Head) → Swept b.table.heads ys → P (aborts_in b k ys Changed (head_at b k)))
      → P (admitted_close kit.memory b k)
  by-close P hardware empty starts aborts =
      cond_both (is_hardware (head_at b k).state) _ _ P hardware
      (λ f. cond_both (is_empty (write_log b k)) _ (software_close kit.memory b k) P (λ _. empty)
      (λ some. cond_both (is_valid kit.memory b k) (start_write_back kit.memory b k) _ P (λ _. starts f some)
      (λ _. aborts (after_loads kit.memory b k (cells_validated kit.memory b k)) (swept-loads kit b k (cells_validated kit.memory b k)))))
