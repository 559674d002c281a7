-- What is known of a head whose state takes the call.
use Rattle.std.proofs.Common.{◌≡◌, ℕ, ◌*◌, ◌<◌, leb, arith, length, true, false, refl}
use Rattle.parts.specs.declared.calls.Call.{Call}
use Rattle.rules.specs.declared.limits.TheConstants.{SLOTS}
use Rattle.rules.specs.Refusals.{takes, lengths_match, is_stale, is_beyond}
use Rattle.std.proofs.lemmas.Bool.{lt-leb}
use Rattle.rules.specs.declared.types.Caller.{Caller}
use Rattle.rules.specs.declared.types.Head.{Head}
use Rattle.rules.specs.Bench.{Bench, head_at}
use Rattle.rules.specs.Bounds.{InBounds}
use Rattle.rig.specs.Admission.{Admits}

module _ {W : Type 0} (b : Bench W) (who : Caller) (call : Call ℕ W) where
  abbrev me : Head
  me = head_at b who.head

  pub admits : InBounds b.table → lengths_match b ≡ true → who.head < b.table.head_count
      → length b.cells ≡ b.table.cell_count → length b.reads ≡ SLOTS * b.table.head_count → length b.writes ≡ SLOTS * b.table.head_count
      → is_stale who.transaction me ≡ false → is_beyond b.table.cell_count call ≡ false → takes call me.state ≡ true → Admits b who call me
  admits bounds match lt cells reads writes fresh near take =
      let few = bounds.few_heads in
      let eight = bounds.records in
      let there : leb b.table.head_count who.head ≡ false = lt-leb b.table.head_count who.head lt in
      record {
        own = refl;
        bounds = bounds.heads who.head _ (omega arith);
        head = lt;
        few = few;
        cells = cells;
        reads = reads;
        writes = writes;
        cell = near;
        taken = take;
        rows = rw (match, there, fresh, near, take) refl;
      }
