-- Every call keeps the table in bounds and the lists as long as they are.
use Rattle.std.proofs.Common.{◌≡◌, ℕ, ◌+◌, ◌*◌, ◌/◌, ◌%◌, ◌<◌, ◌≤◌, true, false, cond, not, ◌&&◌, ◌||◌, leb, List, [], ◌∷◌, length, take, drop, set, Ok, Err, sym, refl, ap, ◌∙◌, arith, map, subst}
use Rattle.std.proofs.lemmas.List.Elements.{All-get_or, All-replicate}
use Rattle.std.proofs.lemmas.List.{length-set}
use Rattle.std.proofs.lemmas.Bool.{leb-true, leb-false, eqb-false, and_parts}
use Rattle.parts.specs.declared.types.Cause.{Cause}
use Rattle.parts.specs.declared.types.Cause.TheVariants.{Capacity, Other, Changed}
use Rattle.parts.specs.declared.types.Mode.{Mode}
use Rattle.parts.specs.declared.types.Mode.TheVariants as mode
use Rattle.parts.specs.declared.calls.Call.{Call}
use Rattle.parts.specs.declared.calls.Call.TheVariants.{Open, Read, Write, Close, Push, Jolt, Again, Drop}
use Rattle.parts.specs.declared.sizes.TheConstants.{MOST_HEADS, MOST_CELLS}
use Rattle.rules.specs.declared.limits.TheConstants.{RECORDS, SLOTS, MOST_TRANSACTIONS, MOST_ATTEMPTS}
use Rattle.rules.specs.declared.types.Caller.{Caller}
use Rattle.rules.specs.declared.types.Closing.{Closing}
use Rattle.rules.specs.declared.types.Head.{Head}
use Rattle.rules.specs.declared.types.Refusal.TheVariants as refuse
use Rattle.rules.specs.declared.types.Slot.{Slot}
use Rattle.rules.specs.declared.types.State.{State}
use Rattle.rules.specs.declared.types.State.TheVariants.{Idle, WritingBack}
use Rattle.rules.specs.declared.types.Table.{Table}
use Rattle.rules.specs.Kit.{Kit}
use Rattle.rules.specs.Logs.{is_empty, put, note, lacks_room_for, names, put_in}
use Rattle.rules.specs.Heads.{new_head, is_idle, is_hardware, is_software, is_writing_back, abort, with_transaction, begin, state_in}
use Rattle.rules.specs.Bench.{Bench, head_at, table_with, read_log, write_log, present_snapshot, is_odd, lock_out, after_loads, cells_validated}
use Rattle.parts.specs.Sizes.{in_range}
use Rattle.rules.specs.Calls.{Outcome, admitted_open, admitted_read, admitted_write, admitted_close, admitted_push, admitted_jolt, admitted_again, admitted_drop, start_write_back, new_table, again_mode, is_last}
use Rattle.rules.specs.Refusals.{lengths_match}
use Rattle.rules.specs.Answers.{Answer, call_of}
use Rattle.rules.specs.Bounds.{HeadBounds, InBounds, SameSizes, BoundsAtSetUp, BoundsKept}
use Rattle.rules.proofs.Records.{become, wrote, resnap, read_more, wrote_more, cancel}
use Rattle.rules.proofs.Basics.{by-test, some-length}
use Rattle.rules.proofs.Admitted.{Admitted, admitted}
use Rattle.rules.proofs.Taken.{taken-busy}
use Rattle.rules.proofs.Turns.{going-plain, running-going}
use Rattle.rules.proofs.Laid.{length-laid}
use Rattle.rules.proofs.LogLaws.{word_none, few-put, few-noted, length-log}
use Rattle.rules.proofs.Sweeps.{Swept, swept_none, swept-lock}
use Rattle.rules.proofs.Cases.{admitted_of, by_call, by_read, by-write, by-close}
use Rattle.rules.proofs.HeadBounds.{new-bounds, open-bounds, abort-bounds, begin-bounds, idle-bounds, back-bounds, cancel-bounds, resnap-bounds, read-bounds, write-bounds}
use Rattle.rules.proofs.TableBounds.{busy, bounds-with, bounds-stay, bounds-end}

pub bounds-at-set-up : BoundsAtSetUp
bounds-at-set-up heads cells t =
    by-test (in_range heads cells) (λ r. cond r (Ok (new_table heads cells)) (Err refuse.OutOfRange) ≡ Ok t → InBounds t)
    (λ r e. let is : new_table heads cells ≡ t = cc in rw (← is) (new r))
    (λ _ e. cc)
  where
    new : in_range heads cells ≡ true → InBounds (new_table heads cells)
    new r =
        let p = and_parts (leb 1 heads && leb heads MOST_HEADS) (leb 1 cells && leb cells MOST_CELLS) r in
        record {
          heads = All-replicate HeadBounds RECORDS new_head new-bounds;
          records = refl;
          few_heads = leb-true heads MOST_HEADS (and_parts (leb 1 heads) (leb heads MOST_HEADS) p.0).1;
          few_cells = leb-true cells MOST_CELLS (and_parts (leb 1 cells) (leb cells MOST_CELLS) p.1).1;
          some_cells = leb-true 1 cells (and_parts (leb 1 cells) (leb cells MOST_CELLS) p.1).0;
          opened = omega arith;
          numbered = All-replicate (λ (h : Head). h.transaction ≤ 0) RECORDS new_head (omega arith);
          used = omega arith;
        }

begun-busy : (m : Mode) → is_idle (state_in m) ≡ false
begun-busy mode.Hardware = refl
begun-busy mode.Software = refl

length-put-in : {W : Type 0} (log : List (Slot W)) (cells : List W) → length (put_in log cells) ≡ length cells
length-put-in [] cells = refl
length-put-in (s ∷ log) cells = length-put-in log (set cells s.cell s.word) ∙ length-set cells s.cell s.word

-- in bounds, with lists as long as before
abbrev Kept : {W : Type 0} → Bench W → Bench W → Type 0
Kept b o = InBounds o.table × SameSizes b o

module _ {W : Type 0} (kit : Kit W) (b : Bench W) (s : InBounds b.table) (k : ℕ) (lt : k < 8) where
  abbrev h : Head
  h = head_at b k

  abbrev heads : List Head
  heads = b.table.heads

  own : HeadBounds h
  own = let e = s.records in All-get_or HeadBounds heads k new_head (omega arith) s.heads

  sizes : (t : Table) → t.head_count ≡ b.table.head_count → t.cell_count ≡ b.table.cell_count → SameSizes b (record b { table = t })
  sizes t heads cells = record { head_count = heads; cell_count = cells; cells = refl; reads = refl; writes = refl }

  open_kept : is_idle h.state ≡ true → b.table.opened < MOST_TRANSACTIONS → Kept b (admitted_open b k).left
  open_kept idle few =
      let n = b.table.opened + 1 in
      let old : busy h ≡ 0 = ap (λ t. cond t 0 1) idle in (
        bounds-with b.table s k lt heads (swept_none heads) (begin mode.Hardware (present_snapshot b.table) (with_transaction n h)) (open-bounds h own n (present_snapshot b.table))
            b.table.sequence b.table.commits n (omega arith) (omega arith) (omega arith) (omega arith),
        sizes _ refl refl,
      )

  -- every other call is one of a transaction
  module _ (going : is_idle h.state ≡ false) where
    keeps : (ys : List Head) → Swept heads ys → (x : Head) → HeadBounds x → is_idle x.state ≡ false → x.transaction ≡ h.transaction → InBounds (table_with b k ys x)
    keeps ys p x px e number = bounds-stay b.table s k lt ys p x px (e ∙ sym going) number

    ends : (x : Head) → HeadBounds x → is_idle x.state ≡ true → x.transaction ≡ h.transaction → (sequence commits : ℕ) → commits + sequence / 2 ≤ b.table.commits + b.table.sequence / 2 + 1
        → InBounds (record b.table { heads = set heads k x; sequence = sequence; commits = commits })
    ends x px e number = bounds-end b.table s k lt x px e going number

    aborted : (ys : List Head) → Swept heads ys → (cause : Cause) → InBounds (table_with b k ys (abort cause h))
    aborted ys p cause = keeps ys p (abort cause h) (abort-bounds h own cause) refl refl

    read_kept : (c : ℕ) → SLOTS * k + SLOTS ≤ length b.reads → (not (names c (write_log b k)) && lacks_room_for c (read_log b k)) ≡ false → Kept b (admitted_read kit.memory b k c).left
    read_kept c room slot =
        by_read kit b k c (λ (o : Outcome W W). Kept b o.left) (λ _. (s, sizes _ refl refl)) (s, sizes _ refl refl)
        (λ e ys p snap w.
        let log = note c w (read_log b k) in
        let free : lacks_room_for c (read_log b k) ≡ false = sym (ap (λ t. not t && lacks_room_for c (read_log b k)) (word_none c (write_log b k) e)) ∙ slot in
        let few : length log ≤ SLOTS = few-noted c w (read_log b k) (omega (arith, length-log k h.read_count b.reads, own.reads)) free in (
          keeps ys p (read_more (length log) (resnap snap h)) (read-bounds (resnap snap h) (resnap-bounds h own snap) (length log) few) going refl,
          record { head_count = refl; cell_count = refl; cells = refl; reads = length-laid k log b.reads few room; writes = refl },
        ))
        (λ ys p cause. (aborted ys p cause, sizes _ refl refl))

    write_kept : (c : ℕ) (w : W) → is_writing_back h.state ≡ false → SLOTS * k + SLOTS ≤ length b.writes → lacks_room_for c (write_log b k) ≡ false → Kept b (admitted_write kit.memory b k c w).left
    write_kept c w not_back room free =
        let log = put c w (write_log b k) in
        let few : length log ≤ SLOTS = few-put c w (write_log b k) (omega (arith, length-log k h.write_count b.writes, own.writes)) free in
        let x = wrote_more (length log) h in
        let px = write-bounds h own (length log) few not_back in
        let len = length-laid k log b.writes few room in
        by-write kit b k c w (λ (o : Outcome (Unit {0}) W). Kept b o.left) (λ ys p. (keeps ys p x px going refl, record { head_count = refl; cell_count = refl; cells = refl; reads = refl; writes = len }))
        (keeps heads (swept_none heads) (abort Capacity x) (abort-bounds x px Capacity) refl refl, record { head_count = refl; cell_count = refl; cells = refl; reads = refl; writes = len })

    -- a head that writes back has taken the lock while it was free, so half of the sequence stays
    starts : is_software h.state ≡ true → is_empty (write_log b k) ≡ false → ((is_software h.state && not (is_empty (write_log b k))) && is_odd b.table.sequence) ≡ false
        → InBounds (start_write_back kit.memory b k).left.table
    starts software some free =
        let x = resnap (present_snapshot b.table) h in
        let even : is_odd b.table.sequence ≡ false =
        sym (ap (λ t. (t && not (is_empty (write_log b k))) && is_odd b.table.sequence) software ∙ ap (λ t. not t && is_odd b.table.sequence) some) ∙ free in
        let old : busy h ≡ 1 = ap (λ t. cond t 0 1) going in
        bounds-with b.table s k lt (map lock_out (after_loads kit.memory b k (cells_validated kit.memory b k))) (swept-lock kit b k (cells_validated kit.memory b k)) (become WritingBack (wrote 0 x))
        (back-bounds x (resnap-bounds h own (present_snapshot b.table)) 0 (omega (arith, some-length (write_log b k) some, length-log k h.write_count b.writes)))
        (b.table.sequence + 1) b.table.commits b.table.opened s.opened (omega arith) (let le = s.numbered k new_head (omega (arith, s.records)) in omega arith) (omega (arith, eqb-false (b.table.sequence % 2) 1 even))

    close-kept : (is_hardware h.state ≡ false → is_software h.state ≡ true)
        → ((is_software h.state && not (is_empty (write_log b k))) && is_odd b.table.sequence) ≡ false → Kept b (admitted_close kit.memory b k).left
    close-kept software free =
        by-close kit b k (λ (o : Outcome Closing W). Kept b o.left)
        (λ _. (
          ends (become Idle h) (idle-bounds h own h.written own.written) refl refl b.table.sequence (b.table.commits + 1) (omega arith),
          record { head_count = refl; cell_count = refl; cells = length-put-in (write_log b k) b.cells; reads = refl; writes = refl },
        ))
        (ends (become Idle h) (idle-bounds h own h.written own.written) refl refl b.table.sequence b.table.commits (omega arith), sizes _ refl refl)
        (λ f some. (starts (software f) some free, sizes _ refl refl)) (λ ys p. (aborted ys p Changed, sizes _ refl refl))

    push_kept : is_writing_back h.state ≡ true → Kept b (admitted_push b k).left
    push_kept writing =
        let left : h.written + 1 ≤ h.write_count = subst (λ t. cond t (h.written + 1) 0 ≤ h.write_count) writing own.unfinished in
        let few : h.written + 1 ≤ SLOTS = omega (arith, own.writes) in
        let x = wrote (h.written + 1) h in (
          by-test (is_last b k)
              (λ t. InBounds (record b.table {
                heads = set heads k (become (cond t Idle WritingBack) x);
                sequence = cond t (b.table.sequence + 1) b.table.sequence;
              }))
              (λ _. ends (become Idle x) (idle-bounds h own (h.written + 1) few) refl refl (b.table.sequence + 1) b.table.commits (omega arith))
              (λ f. keeps heads (swept_none heads) (become WritingBack x)
              (back-bounds h own (h.written + 1) (omega (arith, leb-false (length (write_log b k)) (h.written + 1) f, length-log k h.write_count b.writes))) refl refl),
          record { head_count = refl; cell_count = refl; cells = length-put-in (take 1 (drop h.written (write_log b k))) b.cells; reads = refl; writes = refl },
        )

    jolt-kept : Kept b (admitted_jolt b k).left
    jolt-kept = (aborted heads (swept_none heads) Other, sizes _ refl refl)

    again_kept : h.attempts < MOST_ATTEMPTS → Kept b (admitted_again kit.policy b k).left
    again_kept few =
        let m = again_mode kit.policy b k in
        (keeps heads (swept_none heads) (begin m (present_snapshot b.table) h) (begin-bounds h own m (present_snapshot b.table) few) (begun-busy m) refl, sizes _ refl refl)

    drop-kept : Kept b (admitted_drop b k).left
    drop-kept = (ends (cancel h) (cancel-bounds h own) refl refl b.table.sequence b.table.commits (omega arith), sizes _ refl refl)

module _ {W : Type 0} (kit : Kit W) (b : Bench W) (s : InBounds b.table) (who : Caller) where
  abbrev k : ℕ
  k = who.head

  abbrev state : State
  state = (head_at b k).state

  granted-kept : (call : Call ℕ W) → Admitted b who call → k < 8 → Kept b (admitted_of kit b k call).1
  granted-kept Open a lt = open_kept kit b s k lt a.taken (leb-false MOST_TRANSACTIONS b.table.opened a.transaction)
  granted-kept (Read c) a lt = read_kept kit b s k lt (taken-busy {W = W} (Read c) state refl a.taken) c (omega (arith, a.head, a.lists.reads)) a.slot
  granted-kept (Write c w) a lt =
      write_kept kit b s k lt (taken-busy {W = W} (Write c w) state refl a.taken) c w (going-plain state (running-going state a.taken)) (omega (arith, a.head, a.lists.writes)) a.slot
  granted-kept Close a lt =
      close-kept kit b s k lt (taken-busy {W = W} Close state refl a.taken)
      (λ f. sym (ap (λ t. t || is_software state) f) ∙ a.taken) a.free
  granted-kept Push a lt = push_kept kit b s k lt (taken-busy {W = W} Push state refl a.taken) a.taken
  granted-kept Jolt a lt = jolt-kept kit b s k lt (taken-busy {W = W} Jolt state refl a.taken)
  granted-kept Again a lt = again_kept kit b s k lt (taken-busy {W = W} Again state refl a.taken) (leb-false MOST_ATTEMPTS (head_at b k).attempts a.attempt)
  granted-kept Drop a lt = drop-kept kit b s k lt (taken-busy {W = W} Drop state refl a.taken)

pub bounds-kept : {W : Type 0} (kit : Kit W) → BoundsKept kit
bounds-kept {W} kit b who call s =
    by_call kit b who call (λ (r : Answer W × Bench W). Kept b r.1) (λ e _. (s, record { head_count = refl; cell_count = refl; cells = refl; reads = refl; writes = refl }))
    (λ q. let a = admitted b who call q in granted-kept kit b s who call a (omega (arith, a.head, s.few_heads)))

-- so whether the lists have the right lengths does not change
pub right_lengths_stay : {W : Type 0} (kit : Kit W) (b : Bench W) (who : Caller) (call : Call ℕ W) → InBounds b.table → lengths_match (call_of kit b who call).1 ≡ lengths_match b
right_lengths_stay kit b who call bounds =
    let same = (bounds-kept kit b who call bounds).1 in
    rw same.cells (rw same.reads (rw same.writes (rw same.head_count (rw same.cell_count refl))))
