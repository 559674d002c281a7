-- A hardware store whose word is in the head's write log already.
use Rattle.std.specs.Prelude.{ℕ, Ok, Err, if◌then◌else◌}
use Rattle.parts.specs.declared.types.Cause.TheVariants.{Capacity}
use Rattle.rules.specs.declared.types.Head.{Head}
use Rattle.rules.specs.declared.types.Refusal.TheVariants as refuse
use Rattle.rules.specs.Kit.{Memory}
use Rattle.rules.specs.Logs.{lines_touched, log_of}
use Rattle.rules.specs.Heads.{abort}
use Rattle.rules.specs.Bench.{Bench, after_store, table_with}
use Rattle.rules.specs.Calls.{Outcome, leaves}

-- a store of the head k, whose record with the new slot is h: if that fits, every other head in hardware that has a cell
-- of the line aborts; if not, k does
abbrev pub stored : {W : Type 0} → Memory W → Bench W → ℕ → Head → ℕ → Outcome (Unit {0}) W
stored memory b k h c =
    if memory.fits h.stores (lines_touched memory.line (log_of k h.read_count b.reads) (log_of k h.write_count b.writes))
    then leaves b (Ok tt) (table_with b k (after_store memory b k c) h)
    else leaves b (Err (refuse.Aborted Capacity)) (table_with b k b.table.heads (abort Capacity h))
