-- What is known of a head that is admitted: lists, head, handle and cell are right, and its state takes the call.
use Rattle.std.specs.Prelude.{◌≡◌, ℕ, ◌*◌, ◌<◌, ◌≤◌, true, false, length, drop}
use Rattle.parts.specs.declared.calls.Call.{Call}
use Rattle.parts.specs.declared.sizes.TheConstants.{MOST_HEADS}
use Rattle.rules.specs.declared.limits.TheConstants.{SLOTS}
use Rattle.rules.specs.declared.types.Caller.{Caller}
use Rattle.rules.specs.declared.types.Head.{Head}
use Rattle.rules.specs.Bench.{Bench, head_at}
use Rattle.rules.specs.Bounds.{HeadBounds}
use Rattle.rules.specs.Refusals.{first_found, refusal, refusals, takes, is_beyond}

pub record Admits {W : Type 0} (b : Bench W) (who : Caller) (call : Call ℕ W) (h : Head) : Type 0 where
  pub own : h ≡ head_at b who.head
  pub bounds : HeadBounds h
  pub head : who.head < b.table.head_count
  pub few : b.table.head_count ≤ MOST_HEADS
  pub cells : length b.cells ≡ b.table.cell_count
  pub reads : length b.reads ≡ SLOTS * b.table.head_count
  pub writes : length b.writes ≡ SLOTS * b.table.head_count
  pub cell : is_beyond b.table.cell_count call ≡ false
  pub taken : takes call h.state ≡ true
  -- the rows that are left decide
  pub rows : refusal b who call ≡ first_found (drop 5 (refusals b who call))
