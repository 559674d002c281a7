-- The three laws of every run on a rig that has been set up.
use Rattle.std.proofs.Common.{◌≡◌, ℕ, ◌≤◌, true, cond, ◌&&◌, leb, Ok, Err, sym, refl, subst}
use Rattle.std.proofs.lemmas.Bool.{and_parts, leb-true}
use Rattle.parts.specs.declared.sizes.TheConstants.{MOST_HEADS, MOST_CELLS}
use Rattle.rules.specs.declared.types.Refusal.TheVariants as refuse
use Rattle.rules.specs.declared.types.Table.{Table}
use Rattle.rules.specs.Kit.{Kit}
use Rattle.rules.proofs.Lawful.{Lawful}
use Rattle.parts.specs.Sizes.{in_range}
use Rattle.rules.specs.Calls.{new_table, set_up}
use Rattle.rules.specs.Runs.{answers_of, left_by}
use Rattle.rules.specs.History.{nothing_yet, history_of}
use Rattle.rules.specs.RunLaws.{LawsOfRuns}
use Rattle.rules.proofs.Basics.{by-test}
use Rattle.rules.proofs.Seats.{view}
use Rattle.rules.proofs.Invariant.{Inv}
use Rattle.rules.proofs.KeptBounds.{bounds-at-set-up}
use Rattle.rules.proofs.Theorem.{keep_all, gives, new-inv}

-- a rig that is set up has a new table and at most eight heads
pub set-up-new : (heads count : ℕ) (t : Table) → set_up heads count ≡ Ok t → (t ≡ new_table heads count) × (heads ≤ MOST_HEADS)
set-up-new heads count t e =
    by-test (in_range heads count) (λ r. in_range heads count ≡ r → cond r (Ok (new_table heads count)) (Err refuse.OutOfRange) ≡ Ok t → (t ≡ new_table heads count) × (heads ≤ MOST_HEADS))
    (λ _ r q. (cc, few r)) (λ _ _ q. cc) refl e
  where
    few : in_range heads count ≡ true → heads ≤ MOST_HEADS
    few r =
        let a = and_parts (leb 1 heads && leb heads MOST_HEADS) (leb 1 count && leb count MOST_CELLS) r in
        leb-true heads MOST_HEADS (and_parts (leb 1 heads) (leb heads MOST_HEADS) a.0).1

pub laws-of-runs : {W : Type 0} (kit : Kit W) → Lawful kit → LawsOfRuns kit
laws-of-runs kit law heads count b calls e =
    let s = set-up-new heads count b.table e in
    let inv = subst (λ t. Inv kit b.cells (view (record b { table = t })) nothing_yet) (sym s.0) (new-inv kit b.cells heads count s.1 b.reads b.writes) in
    gives kit law b.cells (view (left_by kit b calls)) (history_of nothing_yet calls (answers_of kit b calls))
    (keep_all kit law b.cells b nothing_yet calls (bounds-at-set-up heads count b.table e) inv)
