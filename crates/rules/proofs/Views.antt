-- What a call leaves, seen as heads with their logs.
use Rattle.std.proofs.Common.{◌≡◌, ℕ, ◌+◌, ◌*◌, ◌<◌, ◌≤◌, Bool, cond, not, ◌&&◌, List, map, length, drop, set, Some, sym, refl, ap, ◌∙◌, arith}
use Rattle.std.specs.List.{slice_get}
use Rattle.std.proofs.lemmas.Bool.{ne_eqb}
use Rattle.std.proofs.lemmas.List.{length-drop, length-take-le, take_all}
use Rattle.std.proofs.lemmas.List.Elements.{All-get_or}
use Rattle.parts.specs.declared.types.Cause.TheVariants.{Conflict, Lock}
use Rattle.rules.specs.declared.limits.TheConstants.{SLOTS}
use Rattle.rules.specs.declared.types.Head.{Head}
use Rattle.rules.specs.declared.types.Slot.{Slot}
use Rattle.rules.specs.Logs.{log_of, slots_with}
use Rattle.rules.specs.Heads.{new_head, is_hardware, abort}
use Rattle.rules.specs.Bench.{Bench, map_at, head_at, read_log, write_log, abort_if_hit, is_locked_out, lock_out, bench}
use Rattle.rules.specs.Bounds.{HeadBounds, InBounds}
use Rattle.rules.proofs.Records.{with_numbers}
use Rattle.rules.proofs.Basics.{by-test}
use Rattle.rules.proofs.Admitted.{Sized}
use Rattle.rules.proofs.Laid.{log-laid-own, log-laid-other}
use Rattle.rules.proofs.Seats.{Seat, abort_seat, struck_by, locked, seat_at, view, seat_of, own-seat, view-after, map_at-id}

-- a head of the rig, the lists of right length
module _ {W : Type 0} (b : Bench W) (bounds : InBounds b.table) (lists : Sized b) (k : ℕ) (lt : k < b.table.head_count) where
  pub head-bounds : HeadBounds (head_at b k)
  head-bounds = All-get_or HeadBounds b.table.heads k new_head (omega (arith, bounds.records, bounds.few_heads, lt)) bounds.heads

  pub seat-there : slice_get (view b).heads k ≡ Some (seat_of b k)
  seat-there = own-seat b k lt (omega (arith, bounds.records, bounds.few_heads))

  pub read-room : SLOTS * k + SLOTS ≤ length b.reads
  read-room = omega (arith, lists.reads, lt)

  pub write-room : SLOTS * k + SLOTS ≤ length b.writes
  write-room = omega (arith, lists.writes, lt)

  pub read_length : length (read_log b k) ≡ (head_at b k).read_count
  read_length = length-take-le _ (drop (SLOTS * k) b.reads) (let q = length-drop (SLOTS * k) b.reads in omega (arith, read-room, head-bounds.reads))

  pub write-length : length (write_log b k) ≡ (head_at b k).write_count
  write-length = length-take-le _ (drop (SLOTS * k) b.writes) (let q = length-drop (SLOTS * k) b.writes in omega (arith, write-room, head-bounds.writes))

  -- the head's own log once it is slots_with, and another's
  pub own-log : (slots log : List (Slot W)) → SLOTS * k + SLOTS ≤ length slots → length log ≤ SLOTS → log_of k (length log) (slots_with k log slots) ≡ log
  own-log slots log room few = log-laid-own k log slots few room (length log) (omega arith) ∙ take_all (length log) log (omega arith)

  pub other-log : (slots log : List (Slot W)) → SLOTS * k + SLOTS ≤ length slots → length log ≤ SLOTS → (j n : ℕ) → (j ≡ k → ⊥) → n ≤ SLOTS → log_of j n (slots_with k log slots) ≡ log_of j n slots
  other-log slots log room few j n ne le = log-laid-other k log slots few room j n ne le

  abbrev pub Elsewhere : (ℕ → Head → Head) → (Seat W → Seat W) → List (Slot W) → List (Slot W) → Type 0
  Elsewhere f g reads writes = (j : ℕ) (x : Head) → HeadBounds x → (j ≡ k → ⊥) → seat_at reads writes j (f j x) ≡ g (seat_at b.reads b.writes j x)

  -- the view after f was done to each other head, and the head k became h
  pub viewed : (s c n : ℕ) (f : ℕ → Head → Head) (g : Seat W → Seat W) (h : Head) (cells : List W) (reads writes : List (Slot W)) → Elsewhere f g reads writes
      → view (bench (with_numbers b.table (set (map_at f 0 b.table.heads) k h) s c n) cells reads writes)
      ≡ record { heads = set (map g (view b).heads) k (seat_at reads writes k h); sequence = s; commits = c; cells = cells }
  viewed s c n f g h cells reads writes others =
      ap (λ (hs : List (Seat W)). record { heads = hs; sequence = s; commits = c; cells = cells })
      (view-after f g b.reads b.writes reads writes HeadBounds k h others b.table.head_count b.table.heads bounds.heads)

  -- no other head is touched
  pub viewed-alone : (s c n : ℕ) (h : Head) (cells : List W) (reads writes : List (Slot W)) → Elsewhere (λ _ x. x) (λ o. o) reads writes
      → view (bench (with_numbers b.table (set b.table.heads k h) s c n) cells reads writes)
      ≡ record { heads = set (map (λ (o : Seat W). o) (view b).heads) k (seat_at reads writes k h); sequence = s; commits = c; cells = cells }
  viewed-alone s c n h cells reads writes others =
      ap (λ hs. view (bench (with_numbers b.table (set hs k h) s c n) cells reads writes)) (sym (map_at-id 0 b.table.heads))
      ∙ viewed s c n (λ _ x. x) (λ o. o) h cells reads writes others

  pub untouched : Elsewhere (λ _ x. x) (λ o. o) b.reads b.writes
  untouched j x bound ne = refl

  -- new slots of the head k leave the others' logs
  pub reads-laid : (log : List (Slot W)) → length log ≤ SLOTS → Elsewhere (λ _ x. x) (λ o. o) (slots_with k log b.reads) b.writes
  reads-laid log few j x bound ne =
      ap (λ (r : List (Slot W)). record { head = x; reads = r; writes = log_of j x.write_count b.writes }) (other-log b.reads log read-room few j x.read_count ne bound.reads)

  pub writes-laid : (log : List (Slot W)) → length log ≤ SLOTS → Elsewhere (λ _ x. x) (λ o. o) b.reads (slots_with k log b.writes)
  writes-laid log few j x bound ne =
      ap (λ (r : List (Slot W)). record { head = x; reads = log_of j x.read_count b.reads; writes = r }) (other-log b.writes log write-room few j x.write_count ne bound.writes)

  -- conflicts and the lock, seen with the logs
  module _ (reads writes : List (Slot W)) (same : Elsewhere (λ _ x. x) (λ o. o) reads writes) where
    pub conflict-seen : (hit : List (Slot W) → List (Slot W) → Bool) → Elsewhere (abort_if_hit b k hit) (struck_by hit) reads writes
    conflict-seen hit j x bound ne =
        let it = seat_at b.reads b.writes j x in
        let hurt = is_hardware x.state && hit it.reads it.writes in
        ap (λ t. seat_at reads writes j (cond (not t && hurt) (abort Conflict x) x)) (ne_eqb j k ne)
        ∙ by-test hurt (λ t. seat_at reads writes j (cond t (abort Conflict x) x) ≡ cond t (abort_seat Conflict it) it) (λ _. refl) (λ _. same j x bound ne)

    lock-seen : (j : ℕ) (x : Head) → seat_at reads writes j (lock_out x) ≡ locked (seat_at reads writes j x)
    lock-seen j x =
        by-test (is_locked_out x.state) (λ t. seat_at reads writes j (cond t (abort Lock x) x) ≡ cond t (abort_seat Lock (seat_at reads writes j x)) (seat_at reads writes j x))
        (λ _. refl) (λ _. refl)

    pub locks-seen : (hit : List (Slot W) → List (Slot W) → Bool) → Elsewhere (λ j x. lock_out (abort_if_hit b k hit j x)) (λ o. locked (struck_by hit o)) reads writes
    locks-seen hit j x bound ne = lock-seen j (abort_if_hit b k hit j x) ∙ ap locked (conflict-seen hit j x bound ne)
