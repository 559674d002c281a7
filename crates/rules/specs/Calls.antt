-- The rule book: what each call answers, and the table and lists that it leaves.
use Rattle.std.specs.Prelude.{ℕ, ◌+◌, ◌-◌, Bool, List, [], ◌∷◌, ◌++◌, map, length, take, drop, replicate, Some, None, Ok, Err, Option, Result, nat_le, if◌then◌else◌}
use Rattle.std.specs.List.{slice_get}
use Rattle.parts.specs.declared.types.Cause.{Cause}
use Rattle.parts.specs.declared.types.Cause.TheVariants.{Capacity, Other, Changed}
use Rattle.parts.specs.declared.types.Mode.{Mode}
use Rattle.parts.specs.declared.types.Mode.TheVariants as mode
use Rattle.parts.specs.declared.calls.Call.TheVariants.{Open, Read, Write, Close, Push, Jolt, Again, Drop}
use Rattle.parts.specs.Sizes.{in_range}
use Rattle.rules.specs.declared.limits.TheConstants.{RECORDS}
use Rattle.rules.specs.declared.types.Caller.{Caller}
use Rattle.rules.specs.declared.types.Closing.{Closing}
use Rattle.rules.specs.declared.types.Closing.TheVariants as closing
use Rattle.rules.specs.declared.types.Refusal.{Refusal}
use Rattle.rules.specs.declared.types.Refusal.TheVariants as refuse
use Rattle.rules.specs.declared.types.Head.{Head}
use Rattle.rules.specs.declared.types.Slot.{Slot}
use Rattle.rules.specs.declared.types.State.TheVariants.{Idle, WritingBack}
use Rattle.rules.specs.declared.types.Table.{Table}
use Rattle.rules.specs.Kit.{Memory, Retries}
use Rattle.rules.specs.Logs.{is_empty, word_for, put, note, lines_touched, lines_touched_with, put_in, slots_with}
use Rattle.rules.specs.Heads.{new_head, is_hardware, empty_logs, abort, with_transaction, begin, next_mode, stores_after}
use Rattle.rules.specs.Bench.{BenchOf, Bench, head_at, read_log, write_log, table_with, present_snapshot, after_loads, after_store, lock_out, is_valid, cells_validated}
use Rattle.rules.specs.Refusals.{refusal}

-- what a call answers and leaves, on a rig that keeps a table of any kind (T)
pub record OutcomeOf (T A W : Type 0) : Type 0 where
  pub answer : Result A Refusal
  pub left : BenchOf T W

abbrev pub Outcome : Type 0 → Type 0 → Type 0
Outcome A W = OutcomeOf Table A W

-- an outcome of these two parts
abbrev pub outcome : {T A W : Type 0} → Result A Refusal → BenchOf T W → OutcomeOf T A W
outcome answer b = record { answer = answer; left = b }

-- set-up, of a size that a rig may have: every head is idle, every number 0, and nothing is written into a list
abbrev pub new_table : ℕ → ℕ → Table
new_table heads cells = record {
  heads = replicate RECORDS new_head;
  head_count = heads;
  cell_count = cells;
  sequence = 0;
  commits = 0;
  opened = 0;
}

abbrev pub set_up : ℕ → ℕ → Result Table Refusal
set_up heads cells = if in_range heads cells then Ok (new_table heads cells) else Err refuse.OutOfRange

-- a refusal that is found before the call is carried out changes nothing
abbrev pub refuses : {T A W : Type 0} → BenchOf T W → Refusal → OutcomeOf T A W
refuses b e = outcome (Err e) b

abbrev pub unless : {T A W : Type 0} → Option Refusal → BenchOf T W → OutcomeOf T A W → OutcomeOf T A W
unless None b granted = granted
unless (Some e) b granted = refuses b e

-- with the word of a cell; whether there is such a cell has been looked for before
abbrev pub with_word : {T A W : Type 0} → Option W → BenchOf T W → (W → OutcomeOf T A W) → OutcomeOf T A W
with_word None b granted = refuses b refuse.NoCell
with_word (Some w) b granted = granted w

-- by the log's word, or else by the cell's
abbrev pub logged_or : {T A W : Type 0} → Option W → (W → OutcomeOf T A W) → OutcomeOf T A W → OutcomeOf T A W
logged_or None logged loaded = loaded
logged_or (Some w) logged loaded = logged w

-- another table, and the lists as they are
abbrev pub leaves : {T A W : Type 0} → BenchOf T W → Result A Refusal → T → OutcomeOf T A W
leaves b answer t = record { answer = answer; left = record b { table = t } }

module _ {W : Type 0} (b : Bench W) (k : ℕ) where
  -- the head k becomes h, and nothing else changes
  abbrev pub becomes : {A : Type 0} → Result A Refusal → Head → Outcome A W
  becomes answer h = leaves b answer (table_with b k b.table.heads h)

  -- the head k aborts in this call
  abbrev pub aborts_in : {A : Type 0} → List Head → Cause → Head → Outcome A W
  aborts_in heads cause h = leaves b (Err (refuse.Aborted cause)) (table_with b k heads (abort cause h))

  -- open: one transaction more, and its first attempt begins in hardware
  abbrev pub admitted_open : Outcome Mode W
  admitted_open =
      let n = b.table.opened + 1 in
      let h = begin mode.Hardware (present_snapshot b.table) (with_transaction n (head_at b k)) in
      leaves b (Ok mode.Hardware) (record (table_with b k b.table.heads h) { opened = n })

  -- push: the next slot goes into its cell; the last one frees the lock
  abbrev pub is_last : Bool
  is_last = nat_le (length (write_log b k)) ((head_at b k).written + 1)

  abbrev pub admitted_push : Outcome ℕ W
  admitted_push =
      let n = (head_at b k).written + 1 in
      let h = record (head_at b k) { state = if is_last then Idle else WritingBack; written = n } in
      record {
        answer = Ok (length (write_log b k) - n);
        left = record b {
          table = record (table_with b k b.table.heads h) { sequence = if is_last then b.table.sequence + 1 else b.table.sequence };
          cells = put_in (take 1 (drop (head_at b k).written (write_log b k))) b.cells;
        };
      }

  -- jolt: the head aborts by an interrupt
  abbrev pub admitted_jolt : Outcome (Unit {0}) W
  admitted_jolt = aborts_in b.table.heads Other (head_at b k)

  -- drop: the transaction is given up
  abbrev pub admitted_drop : Outcome (Unit {0}) W
  admitted_drop = becomes (Ok tt) (record (empty_logs (head_at b k)) { state = Idle })

module _ {W : Type 0} (policy : Retries) (b : Bench W) (k : ℕ) where
  -- again: the next attempt
  abbrev pub again_mode : Mode
  again_mode = next_mode policy.next (head_at b k).hardware_aborts (head_at b k).state

  abbrev pub admitted_again : Outcome Mode W
  admitted_again = becomes b k (Ok again_mode) (begin again_mode (present_snapshot b.table) (head_at b k))

module _ {W : Type 0} (memory : Memory W) (b : Bench W) (k : ℕ) where
  -- the head that calls
  abbrev me : Head
  me = head_at b k

  -- read, of a cell that holds w: the word is noted in the read log
  abbrev pub notes_word : List Head → Head → ℕ → W → Outcome W W
  notes_word heads h c w =
      let log = note c w (read_log b k) in
      record {
        answer = Ok w;
        left = record b {
          table = table_with b k heads (record h { read_count = length log });
          reads = slots_with k log b.reads;
        };
      }

  -- in hardware the attempt must fit with that cell's line touched
  abbrev pub fits_read : ℕ → Bool
  fits_read c =
      memory.fits me.stores (lines_touched_with memory.line c (read_log b k) (write_log b k))

  abbrev pub hardware_read : ℕ → W → Outcome W W
  hardware_read c w =
      if fits_read c
      then notes_word (after_loads memory b k (c ∷ [])) me c w
      else aborts_in b k b.table.heads Capacity me

  -- in software what was read before must still be valid
  abbrev pub software_read : ℕ → W → Outcome W W
  software_read c w =
      let loaded = cells_validated memory b k in
      if is_valid memory b k
      then notes_word (after_loads memory b k (loaded ++ (c ∷ []))) (record me { snapshot = present_snapshot b.table }) c w
      else aborts_in b k (after_loads memory b k loaded) Changed me

  abbrev pub admitted_read : ℕ → Outcome W W
  admitted_read c =
      logged_or (word_for c (write_log b k)) (λ w. leaves b (Ok w) b.table)
      (with_word (slice_get b.cells c) b (λ w. if is_hardware me.state then hardware_read c w else software_read c w))

  -- write: the slot is put first, and stays in the list even if the attempt then aborts
  abbrev pub puts_word : {A : Type 0} → Result A Refusal → List (Slot W) → List Head → Head → Outcome A W
  puts_word answer log heads h =
      record { answer = answer; left = record b { table = table_with b k heads h; writes = slots_with k log b.writes } }

  abbrev pub fits_write : List (Slot W) → Head → Bool
  fits_write log h = memory.fits h.stores (lines_touched memory.line (read_log b k) log)

  abbrev pub hardware_write : ℕ → List (Slot W) → Head → Outcome (Unit {0}) W
  hardware_write c log h =
      if fits_write log h
      then puts_word (Ok tt) log (after_store memory b k c) h
      else puts_word (Err (refuse.Aborted Capacity)) log b.table.heads (abort Capacity h)

  abbrev pub admitted_write : ℕ → W → Outcome (Unit {0}) W
  admitted_write c w =
      let log = put c w (write_log b k) in
      let h = record me { stores = stores_after me.state me.stores; write_count = length log } in
      if is_hardware me.state then hardware_write c log h else puts_word (Ok tt) log b.table.heads h

  -- close: in hardware the write log goes into the cells at once
  abbrev pub hardware_close : Outcome Closing W
  hardware_close = record {
    answer = Ok (closing.Complete me.attempts);
    left = record b {
      table = record (table_with b k b.table.heads (record me { state = Idle })) { commits = b.table.commits + 1 };
      cells = put_in (write_log b k) b.cells;
    };
  }

  -- in software the sequence lock is taken, which aborts every hardware head, and the log is pushed slot by slot
  abbrev pub start_write_back : Outcome Closing W
  start_write_back =
      let heads = map lock_out (after_loads memory b k (cells_validated memory b k)) in
      let h = record me { state = WritingBack; written = 0; snapshot = present_snapshot b.table } in
      leaves b (Ok (closing.WritingBack h.attempts)) (record (table_with b k heads h) { sequence = b.table.sequence + 1 })

  abbrev pub software_close : Outcome Closing W
  software_close =
      if is_valid memory b k
      then start_write_back
      else aborts_in b k (after_loads memory b k (cells_validated memory b k)) Changed me

  abbrev pub admitted_close : Outcome Closing W
  admitted_close =
      if is_hardware me.state
      then hardware_close
      else
      (if is_empty (write_log b k)
      then becomes b k (Ok (closing.Complete me.attempts)) (record me { state = Idle })
      else software_close)

-- the eight calls, each by a caller; these ask neither board nor policy, and test no word
module _ {W : Type 0} (b : Bench W) (who : Caller) where
  abbrev pub open_of : Outcome Mode W
  open_of = unless (refusal b who Open) b (admitted_open b who.head)

  abbrev pub push_of : Outcome ℕ W
  push_of = unless (refusal b who Push) b (admitted_push b who.head)

  abbrev pub jolt_of : Outcome (Unit {0}) W
  jolt_of = unless (refusal b who Jolt) b (admitted_jolt b who.head)

  abbrev pub drop_of : Outcome (Unit {0}) W
  drop_of = unless (refusal b who Drop) b (admitted_drop b who.head)

module _ {W : Type 0} (memory : Memory W) (b : Bench W) (who : Caller) where
  abbrev pub read_of : ℕ → Outcome W W
  read_of c = unless (refusal b who (Read c)) b (admitted_read memory b who.head c)

  abbrev pub write_of : ℕ → W → Outcome (Unit {0}) W
  write_of c w = unless (refusal b who (Write c w)) b (admitted_write memory b who.head c w)

  abbrev pub close_of : Outcome Closing W
  close_of = unless (refusal b who Close) b (admitted_close memory b who.head)

module _ {W : Type 0} (policy : Retries) (b : Bench W) (who : Caller) where
  abbrev pub again_of : Outcome Mode W
  again_of = unless (refusal b who Again) b (admitted_again policy b who.head)
