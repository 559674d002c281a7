-- How large the numbers get that a rig counts, whatever the lists hold: none of them ever runs over.
use Rattle.std.specs.Prelude.{◌≡◌, ℕ, ◌+◌, ◌/◌, ◌≤◌, List, [], ◌∷◌, length, Ok, if◌then◌else◌, All}
use Rattle.parts.specs.declared.calls.Call.{Call}
use Rattle.parts.specs.declared.sizes.TheConstants.{MOST_HEADS, MOST_CELLS}
use Rattle.rules.specs.declared.limits.TheConstants.{RECORDS, SLOTS, MOST_TRANSACTIONS, MOST_ATTEMPTS}
use Rattle.rules.specs.declared.types.Caller.{Caller}
use Rattle.rules.specs.declared.types.Head.{Head}
use Rattle.rules.specs.declared.types.Table.{Table}
use Rattle.rules.specs.Kit.{Kit}
use Rattle.rules.specs.Heads.{is_idle, is_hardware, is_writing_back}
use Rattle.rules.specs.Bench.{Bench}
use Rattle.rules.specs.Calls.{set_up}
use Rattle.rules.specs.Answers.{call_of}

-- both logs are in their slots, each hardware abort was an attempt, and a head that writes back has a slot left to push
pub record HeadBounds (h : Head) : Type 0 where
  pub reads : h.read_count ≤ SLOTS
  pub writes : h.write_count ≤ SLOTS
  pub hardware_aborts : h.hardware_aborts + (if is_hardware h.state then 1 else 0) ≤ h.attempts
  pub attempts : h.attempts ≤ MOST_ATTEMPTS
  pub stores : h.stores ≤ 65_535
  pub written : h.written ≤ SLOTS
  pub unfinished : (if is_writing_back h.state then h.written + 1 else 0) ≤ h.write_count

-- how many heads have a transaction
abbrev pub active_heads : List Head → ℕ
active_heads [] = 0
active_heads (h ∷ heads) = (if is_idle h.state then 0 else 1) + active_heads heads

-- each transaction under way and each commit counted has used up one that was opened
pub record InBounds (t : Table) : Type 0 where
  pub heads : All HeadBounds t.heads
  pub records : length t.heads ≡ RECORDS
  pub few_heads : t.head_count ≤ MOST_HEADS
  pub few_cells : t.cell_count ≤ MOST_CELLS
  -- so empty lists are too short for every rig
  pub some_cells : 1 ≤ t.cell_count
  pub opened : t.opened ≤ MOST_TRANSACTIONS
  pub numbered : All (λ (h : Head). h.transaction ≤ t.opened) t.heads
  pub used : active_heads t.heads + (t.commits + t.sequence / 2) ≤ t.opened

-- the rig keeps its heads and cells, and the lists their lengths
pub record SameSizes {W : Type 0} (old new : Bench W) : Type 0 where
  pub head_count : new.table.head_count ≡ old.table.head_count
  pub cell_count : new.table.cell_count ≡ old.table.cell_count
  pub cells : length new.cells ≡ length old.cells
  pub reads : length new.reads ≡ length old.reads
  pub writes : length new.writes ≡ length old.writes

abbrev pub BoundsAtSetUp : Type 0
BoundsAtSetUp = (heads cells : ℕ) (t : Table) → set_up heads cells ≡ Ok t → InBounds t

abbrev pub BoundsKept : {W : Type 0} → Kit W → Type 0
BoundsKept {W} kit =
    (b : Bench W) (who : Caller) (call : Call ℕ W) → InBounds b.table
    → InBounds (call_of kit b who call).1.table × SameSizes b (call_of kit b who call).1
