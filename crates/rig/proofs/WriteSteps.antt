-- A write, put together from its steps.
use Rattle.std.proofs.Common.{◌≡◌, ℕ, ◌+◌, ◌*◌, ◌≤◌, true, false, cond, not, ◌&&◌, eqb, leb, List, [], ◌∷◌, ◌++◌, length, set, Ok, Err, Some, None, Option, sym, refl, ap, ◌∙◌, subst, All, arith}
use Rattle.std.proofs.lemmas.Bool.{eqb-false}
use Rattle.std.proofs.lemmas.List.{take_all}
use Rattle.parts.specs.declared.types.Cause.TheVariants.{Capacity, Conflict}
use Rattle.parts.specs.declared.calls.Call.TheVariants.{Write}
use Rattle.rules.specs.declared.types.Caller.{Caller}
use Rattle.rules.specs.declared.limits.TheConstants.{SLOTS}
use Rattle.rules.specs.declared.types.Head.{Head}
use Rattle.rules.specs.declared.types.Slot.{Slot}
use Rattle.rules.specs.declared.types.Refusal.{Refusal}
use Rattle.rules.specs.declared.types.Refusal.TheVariants as refuse
use Rattle.rules.specs.Kit.{Memory}
use Rattle.rules.specs.Logs.{put, word_for, lacks_room_for, lines_of, distinct_count, log_of, slots_with}
use Rattle.rules.specs.Heads.{abort, is_hardware, state_in, stores_after}
use Rattle.parts.specs.declared.types.Mode.{Mode}
use Rattle.rules.specs.Bounds.{HeadBounds}
use Rattle.rules.specs.Bench.{Bench, bench, head_at, abort_if_hit, hit_by_store, after_store}
use Rattle.rules.specs.Refusals.{when, first_found}
use Rattle.rules.specs.Calls.{Outcome, outcome, unless, leaves, puts_word, hardware_write, write_of}
use Rattle.rules.proofs.Basics.{by-test}
use Rattle.rules.proofs.HeadBounds.{write-bounds}
use Rattle.rules.proofs.Basics.{wrong}
use Rattle.rules.specs.declared.types.State.{State}
use Rattle.rules.specs.declared.types.State.TheVariants.{WritingBack}
use Rattle.rules.specs.Heads.{is_software, is_writing_back}
use Rattle.std.specs.Prelude.{◌||◌}
use Rattle.rules.proofs.LogLaws.{length-log, few-put, word_none, word_some}
use Rattle.rules.proofs.Laid.{log-laid-own, log-laid-other}
use Rattle.rig.specs.Admission.{Admits}
use Rattle.rig.specs.Stores.{stored}
use Rattle.rig.proofs.Mapped.{map_alike}

module _ {W : Type 0} (memory : Memory W) (b : Bench W) (k : ℕ) (h : Head) (c : ℕ) where
  pub stored_ok : (ys : List Head)
      → memory.fits h.stores (distinct_count (lines_of memory.line (log_of k h.read_count b.reads ++ log_of k h.write_count b.writes))) ≡ true
      → ys ≡ after_store memory b k c → outcome (Ok tt) (bench (record b.table { heads = set ys k h }) b.cells b.reads b.writes) ≡ stored memory b k h c
  stored_ok ys fits es =
      ap (λ zs. outcome (Ok tt) (bench (record b.table { heads = set zs k h }) b.cells b.reads b.writes)) es
      ∙ sym (ap (λ t. cond t (outcome (Ok tt) (bench (record b.table { heads = set (after_store memory b k c) k h }) b.cells b.reads b.writes)) (leaves b (Err (refuse.Aborted Capacity)) (record b.table { heads = set b.table.heads k (abort Capacity h) }))) fits)

-- a head counts the store by its state as by how its attempt runs
pub counted : (x y : Head) (m : Mode) (n : ℕ) → x.state ≡ state_in m
    → y ≡ record x { stores = stores_after (state_in m) x.stores; write_count = n }
    → y ≡ record x { stores = stores_after x.state x.stores; write_count = n }
counted x y m n e is = is ∙ ap (λ s. record x { stores = stores_after s x.stores; write_count = n }) (sym e)

-- the word is in the head's log, and the slots of the others are as they were
module _ {W : Type 0} (memory : Memory W) (b : Bench W) (k c : ℕ) (log : List (Slot W)) (few : length log ≤ 32) (room : 32 * k + 32 ≤ length b.writes) where
  abbrev put_bench : Bench W
  put_bench = record b { writes = slots_with k log b.writes }

  hits-alike : (j : ℕ) (x : Head) → HeadBounds x → abort_if_hit put_bench k (hit_by_store memory.line c) j x ≡ abort_if_hit b k (hit_by_store memory.line c) j x
  hits-alike j x bounds =
      by-test (eqb j k) (λ t. cond (not t && (is_hardware x.state && hit_by_store memory.line c (log_of j x.read_count b.reads) (log_of j x.write_count (slots_with k log b.writes)))) (abort Conflict x) x ≡ cond (not t && (is_hardware x.state && hit_by_store memory.line c (log_of j x.read_count b.reads) (log_of j x.write_count b.writes))) (abort Conflict x) x)
      (λ _. refl)
      (λ ne. ap (λ l. cond (is_hardware x.state && hit_by_store memory.line c (log_of j x.read_count b.reads) l) (abort Conflict x) x) (log-laid-other k log b.writes few room j x.write_count (eqb-false j k ne) bounds.writes))

  stored-put : (h : Head) → h.write_count ≡ length log → h.read_count ≡ (head_at b k).read_count → All HeadBounds b.table.heads
      → stored memory put_bench k h c ≡ hardware_write memory b k c log h
  stored-put h en er all =
      let own : log_of k h.write_count (slots_with k log b.writes) ≡ log = ap (λ n. log_of k n (slots_with k log b.writes)) en ∙ log-laid-own k log b.writes few room (length log) (omega arith) ∙ take_all (length log) log (omega arith) in
      let alike : after_store memory put_bench k c ≡ after_store memory b k c = map_alike HeadBounds _ _ 0 b.table.heads hits-alike all in
      ap (λ l. by l h.read_count (after_store memory put_bench k c)) own ∙ ap (λ r. by log r (after_store memory put_bench k c)) er
      ∙ ap (λ ys. by log (head_at b k).read_count ys) alike
    where
      by : List (Slot W) → ℕ → List Head → Outcome (Unit {0}) W
      by l r ys =
          cond (memory.fits h.stores (distinct_count (lines_of memory.line (log_of k r b.reads ++ l))))
          (outcome (Ok tt) (record put_bench { table = record b.table { heads = set ys k h } }))
          (outcome (Err (refuse.Aborted Capacity)) (record put_bench { table = record b.table { heads = set b.table.heads k (abort Capacity h) } }))

-- the rows that are left of a write's
module _ {W : Type 0} (memory : Memory W) (b : Bench W) (who : Caller) (c : ℕ) (w : W) (me : Head) (adm : Admits b who (Write c w) me) where
  abbrev k : ℕ
  k = who.head

  abbrev wlog : Head → List (Slot W)
  wlog x = log_of k x.write_count b.writes

  abbrev new : List (Slot W)
  new = put c w (wlog me)

  abbrev wrote : Head → ℕ → Head
  wrote x n = record x { stores = stores_after x.state x.stores; write_count = n }

  abbrev granted : Head → Outcome (Unit {0}) W
  granted x =
      cond (is_hardware x.state) (hardware_write memory b k c (put c w (wlog x)) (wrote x (length (put c w (wlog x)))))
      (puts_word memory b k (Ok tt) (put c w (wlog x)) b.table.heads (wrote x (length (put c w (wlog x)))))

  abbrev left : Head → Option Refusal
  left x = first_found (when false refuse.Busy ∷ when (lacks_room_for c (wlog x)) refuse.Full ∷ when false refuse.OutOfTransactions ∷ when false refuse.OutOfAttempts ∷ [])

  write-is : write_of memory b who c w ≡ unless (left me) b (granted me)
  write-is = ap (λ o. unless o b (granted (head_at b k))) adm.rows ∙ ap (λ x. unless (left x) b (granted x)) (sym adm.own)

  -- in hardware, put first and then stored
  pub write_stored : (o : Outcome (Unit {0}) W) (h : Head) (n : ℕ) (ws : List (Slot W)) → All HeadBounds b.table.heads
      → lacks_room_for c (wlog me) ≡ false → is_hardware me.state ≡ true
      → n ≡ length new → h ≡ wrote me n → ws ≡ slots_with k new b.writes → o ≡ stored memory (bench b.table b.cells b.reads ws) k h c → o ≡ write_of memory b who c w
  write_stored o h n ws all room hard en eh ew q =
      let short = length-log k me.write_count b.writes in
      let le = adm.bounds.writes in
      let few : length new ≤ 32 = few-put c w (wlog me) (omega (arith, short, le)) room in
      let lt = adm.head in
      let size = adm.writes in
      let within : 32 * k + 32 ≤ length b.writes = omega (arith, lt, size) in
      q ∙ ap (λ x. stored memory (bench b.table b.cells b.reads x) k h c) ew
      ∙ ap (λ x. stored memory (bench b.table b.cells b.reads (slots_with k new b.writes)) k x c) (eh ∙ ap (wrote me) en)
      ∙ stored-put memory b k c new few within (wrote me (length new)) refl (ap (λ (x : Head). x.read_count) adm.own) all
      ∙ sym (write-is ∙ rw (room, hard) refl)

  not-back : (s : State) → (is_hardware s || is_software s) ≡ true → is_writing_back s ≡ false
  not-back WritingBack e = wrong e
  not-back s e = refl

  -- the head that has written is in bounds
  pub wrote_bounds : (h : Head) (n : ℕ) → lacks_room_for c (wlog me) ≡ false → n ≡ length new → h ≡ wrote me n → HeadBounds h
  wrote_bounds h n room en eh =
      let short = length-log k me.write_count b.writes in
      let le = adm.bounds.writes in
      let few : length new ≤ 32 = few-put c w (wlog me) (omega (arith, short, le)) room in
      subst HeadBounds (sym eh) (write-bounds me adm.bounds n (omega (arith, few, en)) (not-back me.state adm.taken))

  -- in software, put and no more
  pub write_software : (h : Head) (n : ℕ) (ws : List (Slot W)) → lacks_room_for c (wlog me) ≡ false → is_hardware me.state ≡ false
      → n ≡ length new → h ≡ wrote me n → ws ≡ slots_with k new b.writes
      → outcome (Ok tt) (bench (record b.table { heads = set b.table.heads k h }) b.cells b.reads ws) ≡ write_of memory b who c w
  write_software h n ws room soft en eh ew =
      ap (λ x. outcome (Ok tt) (bench (record b.table { heads = set b.table.heads k h }) b.cells b.reads x)) ew
      ∙ ap (λ x. outcome (Ok tt) (bench (record b.table { heads = set b.table.heads k x }) b.cells b.reads (slots_with k new b.writes))) (eh ∙ ap (wrote me) en)
      ∙ sym (write-is ∙ rw (room, soft) refl)

  pub write_full : lacks_room_for c (wlog me) ≡ true → outcome (Err refuse.Full) b ≡ write_of memory b who c w
  write_full full = sym (write-is ∙ rw full refl)

-- what a look-up tells of the room for a cell
module _ {W : Type 0} (c : ℕ) where
  pub room_known : (v : W) (log : List (Slot W)) → word_for c log ≡ Some v → lacks_room_for c log ≡ false
  room_known v log e = rw (word_some c v log e) refl

  pub room_free : (log : List (Slot W)) → word_for c log ≡ None → leb SLOTS (length log) ≡ false → lacks_room_for c log ≡ false
  room_free log e short = rw (word_none c log e) short

  pub room_none : (log : List (Slot W)) → word_for c log ≡ None → leb SLOTS (length log) ≡ true → lacks_room_for c log ≡ true
  room_none log e long = rw (word_none c log e) long
