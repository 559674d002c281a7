-- Laws of single calls that can be told at a glance.
use Rattle.std.specs.Prelude.{◌≡◌, ℕ, ◌+◌, ◌<◌, ◌≤◌, Bool, true, false, ◌&&◌, ◌⊎◌, List, [], ◌∷◌, length, Ok, Err, ◌≢◌, is_ok, All}
use Rattle.parts.specs.declared.types.Cause.{Cause}
use Rattle.parts.specs.declared.calls.Call.{Call}
use Rattle.parts.specs.declared.calls.Call.TheVariants.{Open, Close, Push}
use Rattle.rules.specs.declared.limits.TheConstants.{SLOTS}
use Rattle.rules.specs.declared.types.Caller.{Caller}
use Rattle.rules.specs.declared.types.Granted.{Granted}
use Rattle.rules.specs.declared.types.Refusal.{Refusal}
use Rattle.rules.specs.declared.types.Refusal.TheVariants as refuse
use Rattle.rules.specs.declared.types.Slot.{Slot}
use Rattle.rules.specs.declared.types.State.TheVariants.{Aborted}
use Rattle.rules.specs.Kit.{Kit}
use Rattle.rules.specs.Heads.{is_hardware, is_aborted, abort}
use Rattle.rules.specs.Logs.{put_in, log_of, holds, cells_loaded}
use Rattle.rules.specs.Bench.{Bench, head_at}
use Rattle.rules.specs.Bounds.{InBounds}
use Rattle.rules.specs.Refusals.{by_handle, by_number, lengths_match}
use Rattle.rules.specs.Answers.{Answer, call_of}

-- only a hardware close and a push put words into the cells
abbrev pub may_write : {W : Type 0} → Bench W → ℕ → Call ℕ W → Bool
may_write b k Close = is_hardware (head_at b k).state
may_write b k Push = true
may_write b k call = false

abbrev pub is_open : {W : Type 0} → Call ℕ W → Bool
is_open Open = true
is_open call = false

module _ {W : Type 0} (kit : Kit W) where
  -- what a call answers, and what it leaves
  abbrev answer : Bench W → Caller → Call ℕ W → Answer W
  answer b who call = (call_of kit b who call).0

  abbrev left : Bench W → Caller → Call ℕ W → Bench W
  left b who call = (call_of kit b who call).1

  -- a refusal changes nothing, but for an abort that the call itself makes
  abbrev pub RefusalsChangeNothing : Type 0
  RefusalsChangeNothing =
      (b : Bench W) (who : Caller) (call : Call ℕ W) (e : Refusal) → answer b who call ≡ Err e
      → ((cause : Cause) → e ≢ refuse.Aborted cause) ⊎ (is_aborted (head_at b who.head).state ≡ true) → left b who call ≡ b

  -- 6 tells the cause of the abort: the head has aborted by it
  abbrev pub AbortsTellTheirCause : Type 0
  AbortsTellTheirCause =
      (b : Bench W) (who : Caller) (call : Call ℕ W) (cause : Cause) → InBounds b.table → answer b who call ≡ Err (refuse.Aborted cause)
      → (head_at (left b who call) who.head).state ≡ Aborted cause

  -- a call with a list of wrong length is refused with 2, whatever else is wrong with it
  abbrev pub WrongListsRefused : Type 0
  WrongListsRefused =
      (b : Bench W) (who : Caller) (call : Call ℕ W) → lengths_match b ≡ false → call_of kit b who call ≡ (Err refuse.Lists, b)

  -- the cells change only in a granted hardware close or push
  abbrev pub CellsChangeByCommits : Type 0
  CellsChangeByCommits =
      (b : Bench W) (who : Caller) (call : Call ℕ W) → (is_ok (answer b who call) && may_write b who.head call) ≡ false
      → (left b who call).cells ≡ b.cells

  -- a call changes another head's record only by aborting it in hardware
  abbrev pub OthersOnlyAbort : Type 0
  OthersOnlyAbort =
      (b : Bench W) (who : Caller) (call : Call ℕ W) (j : ℕ) → j ≢ who.head
      → (head_at (left b who call) j ≡ head_at b j)
      ⊎ ((is_hardware (head_at b j).state ≡ true)
      × ((cause : Cause) × (head_at (left b who call) j ≡ abort cause (head_at b j))))

  -- it writes into no slots of another head
  abbrev pub OthersSlotsStay : Type 0
  OthersSlotsStay =
      (b : Bench W) (who : Caller) (call : Call ℕ W) (j : ℕ) → InBounds b.table → j ≢ who.head
      → (log_of j SLOTS (left b who call).reads ≡ log_of j SLOTS b.reads)
      × (log_of j SLOTS (left b who call).writes ≡ log_of j SLOTS b.writes)

  -- a handle calls as its head does, as long as its transaction is its head's
  abbrev pub HandlesCallAsHeads : Type 0
  HandlesCallAsHeads =
      (b : Bench W) (k n : ℕ) (call : Call ℕ W) → n ≡ (head_at b k).transaction
      → call_of kit b (by_handle k n) call ≡ call_of kit b (by_number k) call

  -- else it is refused with 12, where there is such a head
  abbrev pub StaleHandlesRefused : Type 0
  StaleHandlesRefused =
      (b : Bench W) (k n : ℕ) (call : Call ℕ W) → lengths_match b ≡ true → k < b.table.head_count → n ≢ (head_at b k).transaction
      → call_of kit b (by_handle k n) call ≡ (Err refuse.StaleHandle, b)

  -- a granted open gives its head a new number, the next after all that were given
  abbrev pub OpenTakesNextNumber : Type 0
  OpenTakesNextNumber =
      (b : Bench W) (who : Caller) (g : Granted W) → InBounds b.table → answer b who Open ≡ Ok g
      → ((head_at (left b who Open) who.head).transaction ≡ b.table.opened + 1)
      × ((left b who Open).table.opened ≡ b.table.opened + 1)

  -- nothing but a granted open changes a head's number, or how many were given
  abbrev pub NumbersStay : Type 0
  NumbersStay =
      (b : Bench W) (who : Caller) (call : Call ℕ W) → (is_ok (answer b who call) && is_open call) ≡ false
      → ((j : ℕ) → (head_at (left b who call) j).transaction ≡ (head_at b j).transaction)
      × ((left b who call).table.opened ≡ b.table.opened)

  -- a slot may name a cell that the rig does not have. Validation takes it as different and does not load it; putting a
  -- log into the cells, as a close and a push do, writes nothing for it
  pub record StrayCells : Type 0 where
    pub differs : (cells : List W) (s : Slot W) → length cells ≤ s.cell → holds kit.memory.same cells s ≡ false
    pub not_loaded : (cells : List W) (log : List (Slot W)) → All (λ c. c < length cells) (cells_loaded kit.memory.same cells log)
    pub not_written : (s : Slot W) (cells : List W) → length cells ≤ s.cell → put_in (s ∷ []) cells ≡ cells

  pub record CallLaws : Type 0 where
    pub refusals : RefusalsChangeNothing
    pub causes : AbortsTellTheirCause
    pub lists : WrongListsRefused
    pub cells : CellsChangeByCommits
    pub others : OthersOnlyAbort
    pub slots : OthersSlotsStay
    pub handles : HandlesCallAsHeads
    pub stale : StaleHandlesRefused
    pub opens : OpenTakesNextNumber
    pub numbers : NumbersStay
    pub stray : StrayCells
