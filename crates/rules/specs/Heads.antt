-- What becomes of a head's record.
use Rattle.std.specs.Prelude.{ℕ, ◌+◌, Bool, true, false, if◌then◌else◌}
use Rattle.parts.specs.declared.types.Cause.{Cause}
use Rattle.parts.specs.declared.types.Cause.TheVariants.{Changed}
use Rattle.parts.specs.declared.types.Mode.{Mode}
use Rattle.parts.specs.declared.types.Mode.TheVariants as mode
use Rattle.parts.specs.Boards.{held_count}
use Rattle.rules.specs.declared.types.Head.{Head}
use Rattle.rules.specs.declared.types.Snapshot.{Snapshot}
use Rattle.rules.specs.declared.types.State.{State}
use Rattle.rules.specs.declared.types.State.TheVariants.{Idle, Hardware, Software, Aborted, WritingBack}

abbrev pub is_idle : State → Bool
is_idle Idle = true
is_idle s = false

abbrev pub is_hardware : State → Bool
is_hardware Hardware = true
is_hardware s = false

abbrev pub is_software : State → Bool
is_software Software = true
is_software s = false

abbrev pub is_aborted : State → Bool
is_aborted (Aborted cause) = true
is_aborted s = false

abbrev pub is_writing_back : State → Bool
is_writing_back WritingBack = true
is_writing_back s = false

-- a head at set-up
abbrev pub new_head : Head
new_head = record {
  state = Idle;
  transaction = 0;
  attempts = 0;
  hardware_aborts = 0;
  stores = 0;
  read_count = 0;
  write_count = 0;
  written = 0;
  snapshot = record { sequence = 0; commits = 0 };
}

-- with both logs emptied: their counts become 0
abbrev pub empty_logs : Head → Head
empty_logs h = record h { read_count = 0; write_count = 0 }

-- to abort: the cause is kept and both logs are emptied; an abort in hardware is counted
abbrev pub abort : Cause → Head → Head
abort cause h = record (empty_logs h) {
  state = Aborted cause;
  hardware_aborts = if is_hardware h.state then h.hardware_aborts + 1 else h.hardware_aborts;
}

-- a new transaction, the n-th
abbrev pub with_transaction : ℕ → Head → Head
with_transaction n h = record h { transaction = n; attempts = 0; hardware_aborts = 0 }

abbrev pub state_in : Mode → State
state_in mode.Hardware = Hardware
state_in mode.Software = Software

-- only a software attempt takes the snapshot
abbrev pub snapshot_in : Mode → Snapshot → Snapshot → Snapshot
snapshot_in mode.Hardware present old = old
snapshot_in mode.Software present old = present

-- to begin an attempt: both logs are emptied
abbrev pub begin : Mode → Snapshot → Head → Head
begin m present h = record (empty_logs h) {
  state = state_in m;
  attempts = h.attempts + 1;
  stores = 0;
  snapshot = snapshot_in m present h.snapshot;
}

-- how the next attempt runs: as the policy says after a hardware attempt, and in software after a software one,
-- which only a change aborts
abbrev pub next_mode : (Cause → ℕ → Mode) → ℕ → State → Mode
next_mode next aborts (Aborted Changed) = mode.Software
next_mode next aborts (Aborted cause) = next cause aborts
next_mode next aborts s = mode.Software

-- the stores after a write, of which only a hardware attempt's are counted, up to 65,535
abbrev pub stores_after : State → ℕ → ℕ
stores_after s n = if is_hardware s then held_count (n + 1) else n
