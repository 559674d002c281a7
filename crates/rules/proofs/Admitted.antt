-- What is known once no refusal is found.
use Rattle.std.proofs.Common.{◌≡◌, ℕ, ◌*◌, ◌<◌, Bool, true, false, ◌&&◌, eqb, List, [], ◌∷◌, length, Some, None, Option, refl}
use Rattle.std.specs.List.{AllByRecursion}
use Rattle.std.proofs.lemmas.Bool.{not-false, eqb-true, leb-false, and_parts}
use Rattle.parts.specs.declared.calls.Call.{Call}
use Rattle.rules.specs.declared.limits.TheConstants.{SLOTS}
use Rattle.rules.specs.declared.types.Caller.{Caller}
use Rattle.rules.specs.declared.types.Refusal.{Refusal}
use Rattle.rules.specs.Bench.{Bench, head_at, is_odd}
use Rattle.rules.specs.Refusals.{lengths_match, is_stale, is_beyond, takes, waits, lacks_slot, lacks_transaction, lacks_attempt, when, first_found, refusals, refusal}

when-none : (b : Bool) (e : Refusal) → when b e ≡ None → b ≡ false
when-none true e q = cc
when-none false e q = refl

first-none : (rows : List (Option Refusal)) → first_found rows ≡ None → AllByRecursion (λ r. r ≡ None) rows
first-none [] e = tt
first-none (None ∷ rows) e = (refl, first-none rows e)
first-none (Some x ∷ rows) e = cc

-- the lists have their lengths
pub record Sized {W : Type 0} (b : Bench W) : Type 0 where
  pub cells : length b.cells ≡ b.table.cell_count
  pub reads : length b.reads ≡ SLOTS * b.table.head_count
  pub writes : length b.writes ≡ SLOTS * b.table.head_count

pub sized : {W : Type 0} (b : Bench W) → lengths_match b ≡ true → Sized b
sized b e =
    let p = and_parts (eqb (length b.cells) b.table.cell_count) (eqb (length b.reads) (SLOTS * b.table.head_count) && eqb (length b.writes) (SLOTS * b.table.head_count)) e in
    let q = and_parts (eqb (length b.reads) (SLOTS * b.table.head_count)) (eqb (length b.writes) (SLOTS * b.table.head_count)) p.1 in
    record { cells = eqb-true _ _ p.0; reads = eqb-true _ _ q.0; writes = eqb-true _ _ q.1 }

pub record Admitted {W : Type 0} (b : Bench W) (who : Caller) (call : Call ℕ W) : Type 0 where
  pub lists : Sized b
  pub head : who.head < b.table.head_count
  pub own : is_stale who.transaction (head_at b who.head) ≡ false
  pub cell : is_beyond b.table.cell_count call ≡ false
  pub taken : takes call (head_at b who.head).state ≡ true
  pub free : (waits b who.head call && is_odd b.table.sequence) ≡ false
  pub slot : lacks_slot b who.head call ≡ false
  pub transaction : lacks_transaction b who.head call ≡ false
  pub attempt : lacks_attempt b who.head call ≡ false

pub admitted : {W : Type 0} (b : Bench W) (who : Caller) (call : Call ℕ W) → refusal b who call ≡ None → Admitted b who call
admitted b who call e =
    let rows = first-none (refusals b who call) e in
    record {
      lists = sized b (not-false (lengths_match b) (when-none _ _ rows.0));
      head = leb-false b.table.head_count who.head (when-none _ _ rows.1.0);
      own = when-none _ _ rows.1.1.0;
      cell = when-none _ _ rows.1.1.1.0;
      taken = not-false (takes call (head_at b who.head).state) (when-none _ _ rows.1.1.1.1.0);
      free = when-none _ _ rows.1.1.1.1.1.0;
      slot = when-none _ _ rows.1.1.1.1.1.1.0;
      transaction = when-none _ _ rows.1.1.1.1.1.1.1.0;
      attempt = when-none _ _ rows.1.1.1.1.1.1.1.1.0;
    }
