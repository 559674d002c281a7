-- A rig on the bench: its table and the three lists, what its heads do to one another, and validation.
use Rattle.std.specs.Prelude.{ℕ, ◌+◌, ◌%◌, Bool, not, ◌&&◌, ◌||◌, List, [], ◌∷◌, ◌==◌, slice_index_or, slice_set, if◌then◌else◌, nat_lt, Some, None, Option}
use Rattle.std.specs.List.{list_any, list_all}
use Rattle.parts.specs.declared.types.Cause.TheVariants.{Conflict, Lock}
use Rattle.rules.specs.declared.types.Head.{Head}
use Rattle.rules.specs.declared.types.Lists.{Lists}
use Rattle.rules.specs.declared.types.Slot.{Slot}
use Rattle.rules.specs.declared.types.Snapshot.{Snapshot}
use Rattle.rules.specs.declared.types.State.{State}
use Rattle.rules.specs.declared.types.Table.{Table}
use Rattle.rules.specs.Kit.{Memory}
use Rattle.rules.specs.Logs.{touches, log_of, holds, cells_loaded}
use Rattle.rules.specs.Heads.{new_head, is_hardware, abort}

-- of a rig that keeps a table of any kind (T)
pub record BenchOf (T W : Type 0) : Type 0 where
  pub table : T
  pub cells : List W
  pub reads : List (Slot W)
  pub writes : List (Slot W)

abbrev pub Bench : Type 0 → Type 0
Bench W = BenchOf Table W

abbrev pub is_odd : ℕ → Bool
is_odd n = n % 2 == 1

-- the snapshot that an attempt takes now
abbrev pub present_snapshot : Table → Snapshot
present_snapshot t = record { sequence = t.sequence; commits = t.commits }

-- each element by its place, from k on
abbrev pub map_at : {X : Type 0} → (ℕ → X → X) → ℕ → List X → List X
map_at f k [] = []
map_at f k (x ∷ xs) = f k x ∷ map_at f (k + 1) xs

-- the bench of a table and three lists
abbrev pub bench : {T W : Type 0} → T → List W → List (Slot W) → List (Slot W) → BenchOf T W
bench t cells reads writes = record { table = t; cells = cells; reads = reads; writes = writes }

-- and of three lists that are only looked into
abbrev pub bench_with : {T W : Type 0} → T → Lists W → BenchOf T W
bench_with t lists = bench t lists.cells.now lists.reads.now lists.writes.now

-- the record of the head k, if there is such a head
abbrev pub head_of : Table → ℕ → Option Head
head_of t k = if nat_lt k t.head_count then Some (slice_index_or t.heads k new_head) else None

module _ {W : Type 0} (b : Bench W) (k : ℕ) where
  -- the record of the head k, and its two logs
  abbrev pub head_at : Head
  head_at = slice_index_or b.table.heads k new_head

  abbrev pub read_log : List (Slot W)
  read_log = log_of k head_at.read_count b.reads

  abbrev pub write_log : List (Slot W)
  write_log = log_of k head_at.write_count b.writes

  -- the table with these heads, and another record for the head k
  abbrev pub table_with : List Head → Head → Table
  table_with heads h = record b.table { heads = slice_set heads k h }

module _ {W : Type 0} (line : ℕ → ℕ) where
  -- which logs of another head a load of one of these cells runs into: a write log with a cell of its line
  abbrev pub hit_by_loads : List ℕ → List (Slot W) → List (Slot W) → Bool
  hit_by_loads cs reads writes = list_any (λ c. touches line (line c) writes) cs

  -- and a hardware store to a cell: either log
  abbrev pub hit_by_store : ℕ → List (Slot W) → List (Slot W) → Bool
  hit_by_store c reads writes = touches line (line c) reads || touches line (line c) writes

module _ {W : Type 0} (b : Bench W) (k : ℕ) where
  -- another head than k, in hardware, whose logs are hit aborts by conflict
  abbrev pub abort_if_hit : (List (Slot W) → List (Slot W) → Bool) → ℕ → Head → Head
  abort_if_hit hit j x =
      if not (j == k) && (is_hardware x.state && hit (log_of j x.read_count b.reads) (log_of j x.write_count b.writes))
      then abort Conflict x
      else x

module _ {W : Type 0} (memory : Memory W) (b : Bench W) (k : ℕ) where
  -- the heads after the head k has loaded these cells, and after a hardware store of it to a cell
  abbrev pub after_loads : List ℕ → List Head
  after_loads cs = map_at (abort_if_hit b k (hit_by_loads memory.line cs)) 0 b.table.heads

  abbrev pub after_store : ℕ → List Head
  after_store c = map_at (abort_if_hit b k (hit_by_store memory.line c)) 0 b.table.heads

  -- whether the snapshot of the head k is the present one
  abbrev pub is_current : Bool
  is_current =
      ((head_at b k).snapshot.sequence == b.table.sequence) && (head_at b k).snapshot.commits == b.table.commits

  -- validation is skipped while the snapshot is current: whether the head k goes on, and the cells that it has loaded for it
  abbrev pub is_valid : Bool
  is_valid = is_current || list_all (holds memory.same b.cells) (read_log b k)

  abbrev pub cells_validated : List ℕ
  cells_validated = if is_current then [] else cells_loaded memory.same b.cells (read_log b k)

-- when the sequence lock is taken, every head in hardware aborts
abbrev pub is_locked_out : State → Bool
is_locked_out s = is_hardware s

abbrev pub lock_out : Head → Head
lock_out x = if is_locked_out x.state then abort Lock x else x
