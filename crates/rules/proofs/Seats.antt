-- The bench seen as heads with their logs: a seat is a head together with its two logs.
use Rattle.std.proofs.Common.{◌≡◌, ℕ, zero, suc, ◌+◌, ◌<◌, ◌≤◌, Bool, cond, ◌&&◌, List, [], ◌∷◌, map, length, get_or, take, set, Some, sym, refl, ap, ◌∙◌, add-zero, arith, All}
use Rattle.std.specs.List.{slice_get}
use Rattle.std.proofs.lemmas.List.{take-map}
use Rattle.std.proofs.lemmas.List.Elements.{All-head, All-tail}
use Rattle.parts.specs.declared.types.Cause.{Cause}
use Rattle.parts.specs.declared.types.Cause.TheVariants.{Conflict, Lock}
use Rattle.rules.specs.declared.types.Head.{Head}
use Rattle.rules.specs.declared.types.Slot.{Slot}
use Rattle.rules.specs.declared.types.Table.{Table}
use Rattle.rules.specs.Kit.{Kit}
use Rattle.rules.specs.Logs.{touches, log_of}
use Rattle.rules.specs.Heads.{new_head, is_hardware, abort}
use Rattle.rules.specs.Bench.{Bench, map_at, head_at, hit_by_loads, hit_by_store, is_locked_out}

pub record Seat (W : Type 0) : Type 0 where
  pub head : Head
  pub reads : List (Slot W)
  pub writes : List (Slot W)

-- a rig as its seats, its two shared numbers and the cells
pub record Rig (W : Type 0) : Type 0 where
  pub heads : List (Seat W)
  pub sequence : ℕ
  pub commits : ℕ
  pub cells : List W

abbrev pub rig_of : {W : Type 0} → Table → List (Seat W) → List W → Rig W
rig_of t heads cells = record { heads = heads; sequence = t.sequence; commits = t.commits; cells = cells }

abbrev pub abort_seat : {W : Type 0} → Cause → Seat W → Seat W
abort_seat cause it = record { head = abort cause it.head; reads = []; writes = [] }

-- the seat with another record
abbrev pub seated : {W : Type 0} → Seat W → Head → Seat W
seated it x = record it { head = x }

-- another seat whose logs are hit, in hardware, aborts by conflict
abbrev pub struck_by : {W : Type 0} → (List (Slot W) → List (Slot W) → Bool) → Seat W → Seat W
struck_by hit it = cond (is_hardware it.head.state && hit it.reads it.writes) (abort_seat Conflict it) it

abbrev pub locked : {W : Type 0} → Seat W → Seat W
locked it = cond (is_locked_out it.head.state) (abort_seat Lock it) it

module _ {W : Type 0} (kit : Kit W) where
  -- whether the log has a cell of this cell's line
  abbrev pub meets : ℕ → List (Slot W) → Bool
  meets c log = touches kit.memory.line (kit.memory.line c) log

  abbrev pub loaded : List ℕ → Seat W → Seat W
  loaded cs it = struck_by (hit_by_loads kit.memory.line cs) it

  abbrev pub claimed : ℕ → Seat W → Seat W
  claimed c it = struck_by (hit_by_store kit.memory.line c) it

module _ {W : Type 0} where
  -- the head at the place k with its logs
  abbrev pub seat_at : List (Slot W) → List (Slot W) → ℕ → Head → Seat W
  seat_at reads writes k x = record { head = x; reads = log_of k x.read_count reads; writes = log_of k x.write_count writes }

  abbrev pub seats : ℕ → List Head → List (Slot W) → List (Slot W) → List (Seat W)
  seats k [] reads writes = []
  seats k (x ∷ xs) reads writes = seat_at reads writes k x ∷ seats (k + 1) xs reads writes

  abbrev pub view : Bench W → Rig W
  view b = rig_of b.table (take b.table.head_count (seats 0 b.table.heads b.reads b.writes)) b.cells

  abbrev pub seat_of : Bench W → ℕ → Seat W
  seat_of b k = seat_at b.reads b.writes k (head_at b k)

take-set-any : {X : Type 0} (n : ℕ) (xs : List X) (k : ℕ) (y : X) → take n (set xs k y) ≡ set (take n xs) k y
take-set-any zero xs k y = refl
take-set-any (suc n) [] k y = refl
take-set-any (suc n) (x ∷ xs) zero y = refl
take-set-any {X} (suc n) (x ∷ xs) (suc k) y = ap (λ (zs : List X). x ∷ zs) (take-set-any n xs k y)

pub map_at-id : {X : Type 0} (i : ℕ) (hs : List X) → map_at (λ _ x. x) i hs ≡ hs
map_at-id i [] = refl
map_at-id {X} i (x ∷ hs) = ap (λ (ys : List X). x ∷ ys) (map_at-id (i + 1) hs)

pub map-map_at : {X : Type 0} (f : X → X) (g : ℕ → X → X) (i : ℕ) (xs : List X) → map f (map_at g i xs) ≡ map_at (λ j x. f (g j x)) i xs
map-map_at f g i [] = refl
map-map_at {X} f g i (x ∷ xs) = ap (λ (ys : List X). f (g i x) ∷ ys) (map-map_at f g (i + 1) xs)

module _ {W : Type 0} where
  nth-seats : (reads writes : List (Slot W)) (i : ℕ) (xs : List Head) (n k : ℕ) → k < n → k < length xs
      → slice_get (take n (seats i xs reads writes)) k ≡ Some (seat_at reads writes (i + k) (get_or xs k new_head))
  nth-seats reads writes i [] n k a b = absurd (omega arith)
  nth-seats reads writes i (x ∷ xs) zero k a b = absurd (omega arith)
  nth-seats reads writes i (x ∷ xs) (suc n) zero a b = ap (λ j. Some (seat_at reads writes j x)) (sym (add-zero i))
  nth-seats reads writes i (x ∷ xs) (suc n) (suc k) a b =
      let j : (i + 1) + k ≡ i + suc k = omega arith in
      nth-seats reads writes (i + 1) xs n k (omega arith) (omega arith) ∙ ap (λ j. Some (seat_at reads writes j (get_or xs k new_head))) j

  pub own-seat : (b : Bench W) (k : ℕ) → k < b.table.head_count → b.table.head_count ≤ length b.table.heads
      → slice_get (view b).heads k ≡ Some (seat_of b k)
  own-seat b k lt le =
      let z : 0 + k ≡ k = omega arith in
      nth-seats b.reads b.writes 0 b.table.heads b.table.head_count k lt (omega arith)
      ∙ ap (λ j. Some (seat_at b.reads b.writes j (head_at b k))) z

  -- what is done to the heads, seen with the logs: f to each other one, while the head k becomes h'
  module _ (f : ℕ → Head → Head) (g : Seat W → Seat W) (reads writes reads' writes' : List (Slot W)) (P : Head → Type 0) (k : ℕ) (h' : Head)
      (others : (j : ℕ) (x : Head) → P x → (j ≡ k → ⊥) → seat_at reads' writes' j (f j x) ≡ g (seat_at reads writes j x)) where
    seats-rest : (i : ℕ) → k < i → (hs : List Head) → All P hs → seats i (map_at f i hs) reads' writes' ≡ map g (seats i hs reads writes)
    seats-rest i lt [] p = refl
    seats-rest i lt (x ∷ hs) p =
        ap (λ s. s ∷ seats (i + 1) (map_at f (i + 1) hs) reads' writes') (others i x (All-head P x hs p) (λ e. absurd (omega arith)))
        ∙ ap (λ (ss : List (Seat W)). g (seat_at reads writes i x) ∷ ss) (seats-rest (i + 1) (omega arith) hs (All-tail P x hs p))

    seats-after : (i j : ℕ) → i + j ≡ k → (hs : List Head) → All P hs
        → seats i (set (map_at f i hs) j h') reads' writes' ≡ set (map g (seats i hs reads writes)) j (seat_at reads' writes' k h')
    seats-after i j e [] p = refl
    seats-after i zero e (x ∷ hs) p =
        let z : i ≡ k = omega arith in
        ap (λ n. seat_at reads' writes' n h' ∷ seats (i + 1) (map_at f (i + 1) hs) reads' writes') z
        ∙ ap (λ (ss : List (Seat W)). seat_at reads' writes' k h' ∷ ss) (seats-rest (i + 1) (omega arith) hs (All-tail P x hs p))
    seats-after i (suc j) e (x ∷ hs) p =
        ap (λ s. s ∷ seats (i + 1) (set (map_at f (i + 1) hs) j h') reads' writes') (others i x (All-head P x hs p) (λ (q : i ≡ k). absurd (omega (arith, e, q))))
        ∙ ap (λ (ss : List (Seat W)). g (seat_at reads writes i x) ∷ ss) (seats-after (i + 1) j (omega arith) hs (All-tail P x hs p))

    pub view-after : (n : ℕ) (hs : List Head) → All P hs
        → take n (seats 0 (set (map_at f 0 hs) k h') reads' writes') ≡ set (map g (take n (seats 0 hs reads writes))) k (seat_at reads' writes' k h')
    view-after n hs p =
        let z : 0 + k ≡ k = omega arith in
        ap (take n) (seats-after 0 k z hs p) ∙ take-set-any n (map g (seats 0 hs reads writes)) k (seat_at reads' writes' k h')
        ∙ ap (λ ss. set ss k (seat_at reads' writes' k h')) (take-map g n (seats 0 hs reads writes))
