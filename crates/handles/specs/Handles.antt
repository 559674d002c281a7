-- Calls by handle: what each gives for the rule book's answer, and which handle comes back.
use Rattle.std.specs.Prelude.{◌≡◌, ◌+◌, ◌≤◌, drop, ℕ, zero, suc, Bool, true, false, List, Some, None, Ok, Err, Option, Result, ◌==◌, if◌then◌else◌}
use Rattle.parts.specs.declared.types.Mode.{Mode}
use Rattle.rules.specs.declared.types.Caller.{Caller}
use Rattle.rules.specs.declared.types.Closing.{Closing}
use Rattle.rules.specs.declared.types.Closing.TheVariants as closing
use Rattle.rules.specs.declared.types.Head.{Head}
use Rattle.rules.specs.declared.types.Refusal.{Refusal}
use Rattle.rules.specs.declared.types.Refusal.TheVariants.{NoHead, NotTaken, StaleHandle}
use Rattle.rules.specs.declared.types.Slot.{Slot}
use Rattle.rules.specs.declared.types.State.{State}
use Rattle.rules.specs.declared.types.State.TheVariants.{Idle}
use Rattle.rules.specs.Heads.{is_aborted}
use Rattle.rules.specs.Logs.{put_in}
use Rattle.rules.specs.Bench.{Bench, head_at, write_log}
use Rattle.rules.specs.Refusals.{by_handle, is_stale}
use Rattle.rules.specs.Calls.{push_of}
use Rattle.handles.specs.declared.attempts.Running.{Running}
use Rattle.handles.specs.declared.attempts.Aborted.{Aborted}
use Rattle.handles.specs.declared.attempts.Begun.{Begun}
use Rattle.handles.specs.declared.attempts.Closed.{Closed}
use Rattle.handles.specs.declared.attempts.Closed.TheVariants as closed
use Rattle.handles.specs.declared.commits.WritingBack.{WritingBack}
use Rattle.handles.specs.declared.commits.Pushed.{Pushed}
use Rattle.handles.specs.declared.commits.Pushed.TheVariants as pushed
use Rattle.handles.specs.declared.refusals.Refused.{Refused}
use Rattle.handles.specs.declared.transaction.Transaction.{Transaction}

-- who calls by a handle: the head of its transaction, with that transaction's number
abbrev pub caller_of : Transaction → Caller
caller_of t = by_handle t.head t.number

abbrev pub running_caller : Running → Caller
running_caller h = caller_of h.transaction

abbrev pub aborted_caller : Aborted → Caller
aborted_caller h = caller_of h.transaction

abbrev pub writing_back_caller : WritingBack → Caller
writing_back_caller h = caller_of h.transaction

-- the number that the next transaction takes
abbrev pub next_number : {W : Type 0} → Bench W → ℕ
next_number b = b.table.opened + 1

-- the caller's transaction is its head's, and has a number from 1 on
pub record IsNumbered {W : Type 0} (b : Bench W) (who : Caller) : Type 0 where
  pub own : who.transaction ≡ Some (head_at b who.head).transaction
  pub from_1 : 1 ≤ (head_at b who.head).transaction

-- not granted: why, and the handle that comes back
abbrev pub refused : {H : Type 0} → H → Refusal → Refused H
refused h e = record { refusal = e; handle = h }

-- drop, and the exchange: the handle is used up, unless it comes back with a refusal
abbrev pub or_given_back : {A H : Type 0} → H → Result A Refusal → Result A (Refused H)
or_given_back h (Ok x) = Ok x
or_given_back h (Err e) = Err (refused h e)

-- the running handle of an attempt that has begun
abbrev pub begun : Transaction → Mode → Begun
begun t m = record { handle = record { transaction = t }; mode = m }

-- open: a granted one gives a running handle of the head k and of the number n that its transaction takes
abbrev pub after_open : ℕ → ℕ → Result Mode Refusal → Result Begun Refusal
after_open k n (Ok m) = Ok (begun (record { head = k; number = n }) m)
after_open k n (Err e) = Err e

-- again: a granted one gives a running handle for the aborted one
abbrev pub after_again : Aborted → Result Mode Refusal → Result Begun (Refused Aborted)
after_again h (Ok m) = Ok (begun h.transaction m)
after_again h (Err e) = Err (refused h e)

-- close: a granted one uses the handle up; if the head is then writing back, there is a handle for that
abbrev pub after_close : Running → Result Closing Refusal → Result Closed (Refused Running)
after_close h (Ok (closing.Complete n)) = Ok (closed.Complete n)
after_close h (Ok (closing.WritingBack n)) = Ok (closed.WritingBack (record { transaction = h.transaction }) n)
after_close h (Err e) = Err (refused h e)

-- a writing-back handle is used up by 3, 5 and 12: its head does not write back for it
abbrev pub uses_up : Refusal → Bool
uses_up NoHead = true
uses_up NotTaken = true
uses_up StaleHandle = true
uses_up e = false

-- a push that is not granted: why, and the handle, if it comes back
abbrev pub not_pushed : WritingBack → Refusal → Refused (Option WritingBack)
not_pushed h e = refused (if uses_up e then None else Some h) e

-- push: the handle serves until no slot is left
abbrev pub after_push : WritingBack → Result ℕ Refusal → Result Pushed (Refused (Option WritingBack))
after_push h (Ok n) = Ok (if n == 0 then pushed.Done else pushed.Left h n)
after_push h (Err e) = Err (not_pushed h e)

-- so many pushes by one caller
abbrev pub left_by_pushes : {W : Type 0} → ℕ → Bench W → Caller → Bench W
left_by_pushes zero b who = b
left_by_pushes (suc n) b who = left_by_pushes n (push_of b who).left who

-- the slots that a push leaves
abbrev pub slots_left : Result ℕ Refusal → ℕ
slots_left (Ok n) = n
slots_left (Err e) = 0

-- pushing until no slot is left: a push, and one for each slot that it leaves
abbrev pub pushes_of : {W : Type 0} → Bench W → Caller → Bench W
pushes_of b who = left_by_pushes (slots_left (push_of b who).answer) (push_of b who).left who

-- a granted one tells how many pushes it took
abbrev pub after_pushes : WritingBack → Result ℕ Refusal → Result ℕ (Refused (Option WritingBack))
after_pushes h (Ok n) = Ok (1 + n)
after_pushes h (Err e) = Err (not_pushed h e)

module _ {W : Type 0} (b : Bench W) where
  -- what is still to be written back of the write log of the head k
  abbrev pub left_to_push : ℕ → List (Slot W)
  left_to_push k = drop (head_at b k).written (write_log b k)

  -- what the head k is doing, and the sequence number
  abbrev pub state_at : ℕ → State
  state_at k = (head_at b k).state

  abbrev pub sequence_of : ℕ
  sequence_of = b.table.sequence

-- what is left once the head k has no slot left to push: what was still to be written back is in the cells, in order, the head
-- is idle, and the sequence number is one higher
pub record WrittenBack {W : Type 0} (before after : Bench W) (k : ℕ) : Type 0 where
  pub cells : after.cells ≡ put_in (left_to_push before k) before.cells
  pub idle : state_at after k ≡ Idle
  pub sequence : sequence_of after ≡ sequence_of before + 1

-- why a caller's running handle is not exchanged for an aborted one, by what the rig keeps of its head: 3 where there is no such
-- head, then 12, and then 5 where the head has not aborted
abbrev pub why_not_exchanged : Caller → Option Head → Option Refusal
why_not_exchanged who None = Some NoHead
why_not_exchanged who (Some head) =
    if is_stale who.transaction head
    then Some StaleHandle
    else (if is_aborted head.state then None else Some NotTaken)

-- this, unless there is a refusal
abbrev pub unless_refused : {A : Type 0} → A → Option Refusal → Result A Refusal
unless_refused x None = Ok x
unless_refused x (Some e) = Err e

-- the exchange is no call: it asks for no lists, and changes nothing
abbrev pub exchange_of : Running → Option Head → Result Aborted Refusal
exchange_of h found = unless_refused (record { transaction = h.transaction }) (why_not_exchanged (running_caller h) found)
