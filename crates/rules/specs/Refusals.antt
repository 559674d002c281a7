-- When a call is refused, and with what.
use Rattle.std.specs.Prelude.{ℕ, ◌*◌, Bool, true, false, not, ◌&&◌, ◌||◌, List, [], ◌∷◌, length, Some, None, Option, ◌==◌, nat_le}
use Rattle.parts.specs.declared.calls.Call.{Call}
use Rattle.parts.specs.declared.calls.Call.TheVariants.{Open, Read, Write, Close, Push, Jolt, Again, Drop}
use Rattle.rules.specs.declared.limits.TheConstants.{SLOTS, MOST_TRANSACTIONS, MOST_ATTEMPTS}
use Rattle.rules.specs.declared.types.Caller.{Caller}
use Rattle.rules.specs.declared.types.Refusal.{Refusal}
use Rattle.rules.specs.declared.types.Refusal.TheVariants as refuse
use Rattle.rules.specs.declared.types.Head.{Head}
use Rattle.rules.specs.declared.types.State.{State}
use Rattle.rules.specs.declared.types.State.TheVariants.{Aborted}
use Rattle.rules.specs.Logs.{names, is_empty, lacks_room_for}
use Rattle.rules.specs.Heads.{is_idle, is_hardware, is_software, is_aborted, is_writing_back}
use Rattle.rules.specs.Bench.{Bench, head_at, read_log, write_log, is_odd}

-- who calls: a head by its number, or a handle of its transaction n
abbrev pub by_number : ℕ → Caller
by_number k = record { head = k; transaction = None }

abbrev pub by_handle : ℕ → ℕ → Caller
by_handle k n = record { head = k; transaction = Some n }

-- a list must have a word for each cell, or a log's slots for each head
abbrev pub lengths_match : {W : Type 0} → Bench W → Bool
lengths_match b =
    (length b.cells == b.table.cell_count)
    && (length b.reads == SLOTS * b.table.head_count && length b.writes == SLOTS * b.table.head_count)

-- a handle is stale if its transaction is not its head's
abbrev pub is_stale : Option ℕ → Head → Bool
is_stale None h = false
is_stale (Some n) h = not (n == h.transaction)

-- whether the call names a cell beyond these
abbrev pub is_beyond : {W : Type 0} → ℕ → Call ℕ W → Bool
is_beyond cells (Read c) = nat_le cells c
is_beyond cells (Write c w) = nat_le cells c
is_beyond cells call = false

-- which states take each call
abbrev pub takes : {W : Type 0} → Call ℕ W → State → Bool
takes Open s = is_idle s
takes (Read c) s = is_hardware s || is_software s
takes (Write c w) s = is_hardware s || is_software s
takes Close s = is_hardware s || is_software s
takes Push s = is_writing_back s
takes Jolt s = is_hardware s
takes Again s = is_aborted s
takes Drop s = is_hardware s || (is_software s || is_aborted s)

-- why a state does not take a call: to read, write and close an aborted head tells its cause
abbrev pub why_not : {W : Type 0} → Call ℕ W → State → Refusal
why_not (Read c) (Aborted cause) = refuse.Aborted cause
why_not (Write c w) (Aborted cause) = refuse.Aborted cause
why_not Close (Aborted cause) = refuse.Aborted cause
why_not call s = refuse.NotTaken

module _ {W : Type 0} (b : Bench W) (k : ℕ) where
  -- calls that wait while a software commit writes back: a read that the write log answers does not, nor a close without writes
  abbrev pub waits : Call ℕ W → Bool
  waits Open = true
  waits (Read c) = is_software (head_at b k).state && not (names c (write_log b k))
  waits Close = is_software (head_at b k).state && not (is_empty (write_log b k))
  waits Again = true
  waits call = false

  -- calls that need a slot where there is none left
  abbrev pub lacks_slot : Call ℕ W → Bool
  lacks_slot (Read c) = not (names c (write_log b k)) && lacks_room_for c (read_log b k)
  lacks_slot (Write c w) = lacks_room_for c (write_log b k)
  lacks_slot call = false

  abbrev pub lacks_transaction : Call ℕ W → Bool
  lacks_transaction Open = nat_le MOST_TRANSACTIONS b.table.opened
  lacks_transaction call = false

  abbrev pub lacks_attempt : Call ℕ W → Bool
  lacks_attempt Again = nat_le MOST_ATTEMPTS (head_at b k).attempts
  lacks_attempt call = false

abbrev pub when : Bool → Refusal → Option Refusal
when true e = Some e
when false e = None

-- the first refusal of a list counts
abbrev pub first_found : List (Option Refusal) → Option Refusal
first_found [] = None
first_found (None ∷ rows) = first_found rows
first_found (Some e ∷ rows) = Some e

-- all that can refuse a call, in the order in which it is looked for; an abort made in the call itself comes after all of these
module _ {W : Type 0} (b : Bench W) (who : Caller) (call : Call ℕ W) where
  abbrev pub refusals : List (Option Refusal)
  refusals =
      when (not (lengths_match b)) refuse.Lists
      ∷ when (nat_le b.table.head_count who.head) refuse.NoHead
      ∷ when (is_stale who.transaction (head_at b who.head)) refuse.StaleHandle
      ∷ when (is_beyond b.table.cell_count call) refuse.NoCell
      ∷ when (not (takes call (head_at b who.head).state)) (why_not call (head_at b who.head).state)
      ∷ when (waits b who.head call && is_odd b.table.sequence) refuse.Busy
      ∷ when (lacks_slot b who.head call) refuse.Full
      ∷ when (lacks_transaction b who.head call) refuse.OutOfTransactions
      ∷ when (lacks_attempt b who.head call) refuse.OutOfAttempts
      ∷ []

  abbrev pub refusal : Option Refusal
  refusal = first_found refusals
