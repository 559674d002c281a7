-- The invariant of what a call leaves, by how the bench is seen then.
use Rattle.std.proofs.Common.{◌≡◌, ℕ, ◌<◌, List, map, set, sym, refl, subst}
use Rattle.parts.specs.declared.types.Mode.{Mode}
use Rattle.parts.specs.declared.types.Mode.TheVariants as mode
use Rattle.parts.specs.declared.calls.Call.{Call}
use Rattle.rules.specs.declared.types.Head.{Head}
use Rattle.rules.specs.declared.types.Slot.{Slot}
use Rattle.rules.specs.Kit.{Kit}
use Rattle.rules.specs.Bench.{Bench, map_at, bench}
use Rattle.rules.specs.Bounds.{InBounds}
use Rattle.rules.specs.Answers.{Answer}
use Rattle.rules.specs.History.{History, history_after}
use Rattle.rules.proofs.Records.{with_numbers}
use Rattle.rules.proofs.Admitted.{Sized}
use Rattle.rules.proofs.Seats.{Seat, seat_at, view}
use Rattle.rules.proofs.Views.{Elsewhere, viewed, viewed-alone}
use Rattle.rules.proofs.Invariant.{Inv}

pub by_mode : (m : Mode) (P : Mode → Type 0) → (m ≡ mode.Hardware → P mode.Hardware) → (m ≡ mode.Software → P mode.Software) → P m
by_mode mode.Hardware P p q = p refl
by_mode mode.Software P p q = q refl

-- the call of the head k keeps the invariant, with its answer entered into the history
abbrev pub Keeps : {W : Type 0} → Kit W → List W → History W → ℕ → Call ℕ W → Answer W × Bench W → Type 0
Keeps kit start l k call o = Inv kit start (view o.1) (history_after l k call o.0)

module _ {W : Type 0} (kit : Kit W) (start : List W) (l : History W) (b : Bench W) (bounds : InBounds b.table) (lists : Sized b) (k : ℕ) (lt : k < b.table.head_count)
    (s c n : ℕ) (h : Head) (cells : List W) (reads writes : List (Slot W)) where
  pub keep-alone : Elsewhere b bounds lists k lt (λ _ x. x) (λ o. o) reads writes
      → Inv kit start (record { heads = set (map (λ (o : Seat W). o) (view b).heads) k (seat_at reads writes k h); sequence = s; commits = c; cells = cells }) l
      → Inv kit start (view (bench (with_numbers b.table (set b.table.heads k h) s c n) cells reads writes)) l
  keep-alone others = subst (λ r. Inv kit start r l) (sym (viewed-alone b bounds lists k lt s c n h cells reads writes others))

  pub keep-swept : (f : ℕ → Head → Head) (g : Seat W → Seat W) → Elsewhere b bounds lists k lt f g reads writes
      → Inv kit start (record { heads = set (map g (view b).heads) k (seat_at reads writes k h); sequence = s; commits = c; cells = cells }) l
      → Inv kit start (view (bench (with_numbers b.table (set (map_at f 0 b.table.heads) k h) s c n) cells reads writes)) l
  keep-swept f g others = subst (λ r. Inv kit start r l) (sym (viewed b bounds lists k lt s c n f g h cells reads writes others))
