-- The laws of single calls that can be told at a glance.
use Rattle.std.proofs.Common.{◌≡◌, ℕ, Bool, true, false, not, ◌&&◌, eqb, leb, List, [], ◌∷◌, get_or, set, Some, None, Ok, Err, Option, sym, refl, ap, ◌∙◌, inl, is_ok, ◌+◌, ◌<◌, ◌≤◌, length, All, arith, ⊎_elim, nat_lt, subst, map}
use Rattle.std.proofs.lemmas.List.{get_or-set_other, get_or-set_same, set_past}
use Rattle.std.proofs.lemmas.Bool.{both_ways, not_from_false, eq-eqb, ne_eqb, lt-leb, cond_both, cases_lt, ltb-true}
use Rattle.parts.specs.declared.types.Cause.{Cause}
use Rattle.parts.specs.declared.types.Cause.TheVariants.{Capacity, Other, Changed}
use Rattle.parts.specs.declared.calls.Call.{Call}
use Rattle.parts.specs.declared.calls.Call.TheVariants.{Open, Read, Write, Close, Push, Jolt, Again, Drop}
use Rattle.rules.specs.declared.limits.TheConstants.{SLOTS}
use Rattle.rules.specs.declared.types.Caller.{Caller}
use Rattle.rules.specs.declared.types.Closing.{Closing}
use Rattle.rules.specs.declared.types.Granted.{Granted}
use Rattle.rules.specs.declared.types.Granted.TheVariants as granted
use Rattle.rules.specs.declared.types.Head.{Head}
use Rattle.rules.specs.declared.types.Refusal.{Refusal}
use Rattle.rules.specs.declared.types.Refusal.TheVariants as refuse
use Rattle.rules.specs.Kit.{Kit}
use Rattle.rules.specs.Heads.{new_head, is_hardware, is_aborted, abort}
use Rattle.rules.specs.Bench.{Bench, is_odd, head_at, after_loads, cells_validated, lock_out, write_log, read_log}
use Rattle.rules.specs.Refusals.{by_handle, by_number, lengths_match, is_beyond, takes, why_not, waits, lacks_slot, lacks_transaction, lacks_attempt, when, first_found, refusal, refusals}
use Rattle.rules.specs.Calls.{Outcome}
use Rattle.rules.specs.Answers.{Answer, with_answer, call_of}
use Rattle.rules.specs.CallLaws.{RefusalsChangeNothing, AbortsTellTheirCause, WrongListsRefused, may_write, CellsChangeByCommits, OthersOnlyAbort, HandlesCallAsHeads, StaleHandlesRefused, OpenTakesNextNumber, NumbersStay, StrayCells, CallLaws, OthersSlotsStay, is_open}
use Rattle.rules.proofs.Basics.{wrong}
use Rattle.rules.proofs.Sweeps.{Hit, Swept, swept_none, swept-lock, swept_at, number-set}
use Rattle.rules.proofs.Cases.{admitted_of, by_call, by_read, by-write, by-close}
use Rattle.std.proofs.lemmas.List.Elements.{All-nil, All-cons, length_all_zip}
use Rattle.rules.proofs.Admitted.{admitted, Admitted}
use Rattle.rules.specs.declared.types.Slot.{Slot}
use Rattle.std.proofs.lemmas.Option.{slice_get_past}
use Rattle.rules.specs.declared.types.State.{State}
use Rattle.rules.specs.declared.types.State.TheVariants.{Aborted}
use Rattle.std.specs.List.{AllByRecursion}
use Rattle.rules.specs.Logs.{put, note, log_of, lacks_room_for, holds, holds_same, cells_loaded}
use Rattle.rules.proofs.Records.{wrote_more}
use Rattle.rules.specs.Bounds.{InBounds, HeadBounds}
use Rattle.rules.proofs.Laid.{log-laid-other}
use Rattle.rules.proofs.LogLaws.{word_none, few-noted, few-put, length-log}

-- nothing is changed if the answer is a refusal and no abort
abbrev Stays : {W : Type 0} → Bench W → Answer W × Bench W → Type 0
Stays b r = (e : Refusal) → r.0 ≡ Err e → ((cause : Cause) → e ≡ refuse.Aborted cause → ⊥) → r.1 ≡ b

module _ {W : Type 0} (kit : Kit W) (b : Bench W) where
  stays-granted : (g : Granted W) (left : Bench W) → Stays b (Ok g, left)
  stays-granted g left e q not-abort = cc

  stays-abort : (cause : Cause) (left : Bench W) → Stays b (Err (refuse.Aborted cause), left)
  stays-abort cause left e q not-abort = absurd (not-abort cause cc)

  stays : (k : ℕ) (call : Call ℕ W) → Stays b (admitted_of kit b k call)
  stays k Open = stays-granted _ _
  stays k (Read c) =
      by_read kit b k c (λ (o : Outcome W W). Stays b (with_answer granted.Word o)) (λ w. stays-granted _ _) (λ e q not-abort. refl)
      (λ _ ys p s w. stays-granted _ _) (λ ys p cause. stays-abort cause _)
  stays k (Write c w) =
      by-write kit b k c w (λ (o : Outcome (Unit {0}) W). Stays b (with_answer (λ _. granted.Done) o)) (λ ys p. stays-granted _ _) (stays-abort Capacity _)
  stays k Close =
      by-close kit b k (λ (o : Outcome Closing W). Stays b (with_answer granted.Closed o)) (λ _. stays-granted _ _) (stays-granted _ _)
      (λ _ _. stays-granted _ _) (λ ys p. stays-abort Changed _)
  stays k Push = stays-granted _ _
  stays k Jolt = stays-abort Other _
  stays k Again = stays-granted _ _
  stays k Drop = stays-granted _ _

-- the calls that an aborted head takes
abbrev goes_on : {W : Type 0} → Call ℕ W → Bool
goes_on Again = true
goes_on Drop = true
goes_on call = false

taken_aborted : {W : Type 0} (call : Call ℕ W) (cause : Cause) → takes call (Aborted cause) ≡ true → goes_on call ≡ true
taken_aborted Again cause e = refl
taken_aborted Drop cause e = refl
taken_aborted call cause e = wrong e

aborted-goes-on : {W : Type 0} (call : Call ℕ W) (s : State) → is_aborted s ≡ true → takes call s ≡ true → goes_on call ≡ true
aborted-goes-on call (Aborted cause) a e = taken_aborted call cause e
aborted-goes-on call s a e = wrong a

-- are granted
goes-on-granted : {W X : Type 0} (kit : Kit W) (b : Bench W) (k : ℕ) (call : Call ℕ W) (e : Refusal) → goes_on call ≡ true → (admitted_of kit b k call).0 ≡ Err e → X
goes-on-granted kit b k Again e g q = cc
goes-on-granted kit b k Drop e g q = cc
goes-on-granted kit b k call e g q = wrong g

pub refusals-change-nothing : {W : Type 0} (kit : Kit W) → RefusalsChangeNothing kit
refusals-change-nothing {W} kit b who call e is why =
    by_call kit b who call (λ (r : Answer W × Bench W). r.0 ≡ Err e → r.1 ≡ b) (λ _ _ _. refl)
    (λ none q. ⊎_elim (λ (other : (cause : Cause) → e ≡ refuse.Aborted cause → ⊥). stays kit b who.head call e q other)
    (λ (was : is_aborted (head_at b who.head).state ≡ true).
    goes-on-granted kit b who.head call e (aborted-goes-on call (head_at b who.head).state was (admitted b who call none).taken) q) why) is

told_by : {W : Type 0} (call : Call ℕ W) (s : State) (cause : Cause) → why_not call s ≡ refuse.Aborted cause → s ≡ Aborted cause
told_by (Read c) (Aborted x) cause e = cc
told_by (Write c w) (Aborted x) cause e = cc
told_by Close (Aborted x) cause e = cc
told_by call s cause e = cc

-- what holds of the refusal of each row holds of the one that is found
abbrev OfRow : (Refusal → Type 0) → Option Refusal → Type 0
OfRow P None = Unit {0}
OfRow P (Some e) = P e

of-when : (P : Refusal → Type 0) (t : Bool) (e : Refusal) → P e → OfRow P (when t e)
of-when P true e p = p
of-when P false e p = tt

of-found : (P : Refusal → Type 0) (rows : List (Option Refusal)) → AllByRecursion (OfRow P) rows → (x : Refusal) → first_found rows ≡ Some x → P x
of-found P [] a x q = cc
of-found P (None ∷ rows) a x q = of-found P rows a.1 x q
of-found P (Some e ∷ rows) a x q = let is : e ≡ x = cc in subst P is a.0

-- only a head that has aborted tells a cause when it is refused
refusal-told : {W : Type 0} (b : Bench W) (who : Caller) (call : Call ℕ W) (cause : Cause) → refusal b who call ≡ Some (refuse.Aborted cause)
    → (head_at b who.head).state ≡ Aborted cause
refusal-told b who call cause q =
    of-found P (refusals b who call) (
      of-when P _ _ (λ e. cc),
      (
        of-when P _ _ (λ e. cc),
        (
          of-when P _ _ (λ e. cc),
          (
            of-when P _ _ (λ e. cc),
            (
              of-when P _ _ (told_by call s cause),
              (of-when P _ _ (λ e. cc), (of-when P _ _ (λ e. cc), (of-when P _ _ (λ e. cc), (of-when P _ _ (λ e. cc), tt)))),
            ),
          ),
        ),
      ),
    )
    (refuse.Aborted cause) q refl
  where
    s : State
    s = (head_at b who.head).state

    P : Refusal → Type 0
    P e = e ≡ refuse.Aborted cause → s ≡ Aborted cause

-- a call that answers with a cause leaves its head aborted by it
abbrev Told : {W : Type 0} → ℕ → Cause → Answer W × Bench W → Type 0
Told k cause r = r.0 ≡ Err (refuse.Aborted cause) → (head_at r.1 k).state ≡ Aborted cause

module _ {W : Type 0} (kit : Kit W) (b : Bench W) (k : ℕ) (cause : Cause) (lt : k < length b.table.heads) where
  told_in : (ys : List Head) → Swept b.table.heads ys → (x : Cause) (h : Head) → refuse.Aborted x ≡ refuse.Aborted cause
      → (get_or (set ys k (abort x h)) k new_head).state ≡ Aborted cause
  told_in ys p x h q =
      let same = length_all_zip Hit b.table.heads ys p in
      ap (λ (h : Head). h.state) (get_or-set_same ys k (abort x h) new_head (omega arith)) ∙ cc

  granted-told : (call : Call ℕ W) → Told k cause (admitted_of kit b k call)
  granted-told (Read c) =
      by_read kit b k c (λ (o : Outcome W W). Told k cause (with_answer granted.Word o)) (λ w q. cc) (λ q. cc) (λ _ ys p s w q. cc)
      (λ ys p x q. told_in ys p x (head_at b k) cc)
  granted-told (Write c w) =
      by-write kit b k c w (λ (o : Outcome (Unit {0}) W). Told k cause (with_answer (λ _. granted.Done) o)) (λ ys p q. cc)
      (λ q. told_in b.table.heads (swept_none b.table.heads) Capacity (wrote_more (length (put c w (write_log b k))) (head_at b k)) cc)
  granted-told Close =
      by-close kit b k (λ (o : Outcome Closing W). Told k cause (with_answer granted.Closed o)) (λ _ q. cc) (λ q. cc) (λ _ _ q. cc)
      (λ ys p q. told_in ys p Changed (head_at b k) cc)
  granted-told Jolt = λ q. told_in b.table.heads (swept_none b.table.heads) Other (head_at b k) cc
  granted-told call = λ q. cc

pub aborts-tell-their-cause : {W : Type 0} (kit : Kit W) → AbortsTellTheirCause kit
aborts-tell-their-cause {W} kit b who call cause bounds is =
    by_call kit b who call (Told who.head cause)
    (λ e r q. refusal-told b who call cause (r ∙ ap Some cc))
    (λ none. granted-told kit b who.head cause (let a = admitted b who call none in omega (arith, a.head, bounds.few_heads, bounds.records)) call) is

-- the first row that refuses is the refusal
when-first : (t : Bool) (e : Refusal) (rows : List (Option Refusal)) → t ≡ true → first_found (when t e ∷ rows) ≡ Some e
when-first true e rows q = refl
when-first false e rows q = wrong q

pub wrong-lists-refused : {W : Type 0} (kit : Kit W) → WrongListsRefused kit
wrong-lists-refused {W} kit b who call f =
    let is : refusal b who call ≡ Some refuse.Lists = when-first (not (lengths_match b)) refuse.Lists _ (not_from_false (lengths_match b) f) in
    by_call kit b who call (λ (r : Answer W × Bench W). r ≡ (Err refuse.Lists, b))
    (λ e q. cc)
    (λ q. cc)

module _ {W : Type 0} (kit : Kit W) (b : Bench W) (k : ℕ) where
  cells_stay : (call : Call ℕ W) → (is_ok (admitted_of kit b k call).0 && may_write b k call) ≡ false → (admitted_of kit b k call).1.cells ≡ b.cells
  cells_stay Open e = refl
  cells_stay (Read c) e = by_read kit b k c (λ (o : Outcome W W). o.left.cells ≡ b.cells) (λ w. refl) refl (λ _ ys p s w. refl) (λ ys p cause. refl)
  cells_stay (Write c w) e = by-write kit b k c w (λ (o : Outcome (Unit {0}) W). o.left.cells ≡ b.cells) (λ ys p. refl) refl
  cells_stay Close e =
      by-close kit b k
      (λ (o : Outcome Closing W). (is_ok (with_answer granted.Closed o).0 && may_write b k Close) ≡ false → o.left.cells ≡ b.cells)
      (λ t f. absurd (both_ways (is_hardware (head_at b k).state) f t)) (λ _. refl) (λ _ _ _. refl) (λ ys p _. refl) e
  cells_stay Push e = wrong (sym e)
  cells_stay Jolt e = refl
  cells_stay Again e = refl
  cells_stay Drop e = refl

  -- another head, where only the head k has a new record after a sweep
  other-set : (ys : List Head) → Swept b.table.heads ys → (h : Head) (j : ℕ) → (j ≡ k → ⊥) → Hit (head_at b j) (get_or (set ys k h) j new_head)
  other-set ys p h j ne = rw (get_or-set_other ys k j h new_head ne) (swept_at b.table.heads ys j new_head p)

  other-alone : (h : Head) (j : ℕ) → (j ≡ k → ⊥) → Hit (head_at b j) (get_or (set b.table.heads k h) j new_head)
  other-alone = other-set b.table.heads (swept_none b.table.heads)

  others-hit : (call : Call ℕ W) (j : ℕ) → (j ≡ k → ⊥) → Hit (head_at b j) (head_at (admitted_of kit b k call).1 j)
  others-hit Open j ne = other-alone _ j ne
  others-hit (Read c) j ne =
      by_read kit b k c (λ (o : Outcome W W). Hit (head_at b j) (head_at o.left j)) (λ w. inl refl) (inl refl)
      (λ _ ys p s w. other-set ys p _ j ne) (λ ys p cause. other-set ys p _ j ne)
  others-hit (Write c w) j ne =
      by-write kit b k c w (λ (o : Outcome (Unit {0}) W). Hit (head_at b j) (head_at o.left j)) (λ ys p. other-set ys p _ j ne) (other-alone _ j ne)
  others-hit Close j ne =
      by-close kit b k (λ (o : Outcome Closing W). Hit (head_at b j) (head_at o.left j)) (λ _. other-alone _ j ne) (other-alone _ j ne)
      (λ _ _. other-set (map lock_out (after_loads kit.memory b k (cells_validated kit.memory b k))) (swept-lock kit b k (cells_validated kit.memory b k)) _ j ne)
      (λ ys p. other-set ys p _ j ne)
  others-hit Push j ne = other-alone _ j ne
  others-hit Jolt j ne = other-alone _ j ne
  others-hit Again j ne = other-alone _ j ne
  others-hit Drop j ne = other-alone _ j ne

pub cells-change-by-commits : {W : Type 0} (kit : Kit W) → CellsChangeByCommits kit
cells-change-by-commits {W} kit b who call =
    by_call kit b who call (λ (r : Answer W × Bench W). (is_ok r.0 && may_write b who.head call) ≡ false → r.1.cells ≡ b.cells)
    (λ e _ _. refl) (λ _. cells_stay kit b who.head call)

pub others-only-abort : {W : Type 0} (kit : Kit W) → OthersOnlyAbort kit
others-only-abort {W} kit b who call j ne =
    by_call kit b who call (λ (r : Answer W × Bench W). Hit (head_at b j) (head_at r.1 j)) (λ e _. inl refl) (λ _. others-hit kit b who.head call j ne)

-- a call by its refusal, or else by what is granted
abbrev settled_by : {W : Type 0} → Option Refusal → Bench W → Answer W × Bench W → Answer W × Bench W
settled_by None b r = r
settled_by (Some e) b r = (Err e, b)

call-is : {W : Type 0} (kit : Kit W) (b : Bench W) (who : Caller) (call : Call ℕ W) → call_of kit b who call ≡ settled_by (refusal b who call) b (admitted_of kit b who.head call)
call-is {W} kit b who call =
    let g = admitted_of kit b who.head call in
    by_call kit b who call (λ (r : Answer W × Bench W). r ≡ settled_by (refusal b who call) b g)
    (λ e q. ap (λ o. settled_by o b g) (sym q)) (λ q. ap (λ o. settled_by o b g) (sym q))

-- the refusal of a call of the head k, by the first three tests
abbrev refusal_by : {W : Type 0} → Bench W → ℕ → Call ℕ W → Bool → Bool → Bool → Option Refusal
refusal_by b k call unfit missing stale =
    let s = (head_at b k).state in
    first_found
    (when unfit refuse.Lists ∷ when missing refuse.NoHead ∷ when stale refuse.StaleHandle ∷ when (is_beyond b.table.cell_count call) refuse.NoCell
    ∷ when (not (takes call s)) (why_not call s) ∷ when (waits b k call && is_odd b.table.sequence) refuse.Busy ∷ when (lacks_slot b k call) refuse.Full
    ∷ when (lacks_transaction b k call) refuse.OutOfTransactions ∷ when (lacks_attempt b k call) refuse.OutOfAttempts ∷ [])

pub handles-call-as-heads : {W : Type 0} (kit : Kit W) → HandlesCallAsHeads kit
handles-call-as-heads kit b k n call e =
    let same : refusal b (by_handle k n) call ≡ refusal b (by_number k) call =
    ap (λ t. refusal_by b k call (not (lengths_match b)) (leb b.table.head_count k) (not t)) (eq-eqb n (head_at b k).transaction e) in
    call-is kit b (by_handle k n) call ∙ ap (λ o. settled_by o b (admitted_of kit b k call)) same ∙ sym (call-is kit b (by_number k) call)

pub stale-handles-refused : {W : Type 0} (kit : Kit W) → StaleHandlesRefused kit
stale-handles-refused kit b k n call fit lt ne =
    let stale = not (eqb n (head_at b k).transaction) in
    let is : refusal b (by_handle k n) call ≡ Some refuse.StaleHandle =
    ap (λ t. refusal_by b k call (not t) (leb b.table.head_count k) stale) fit ∙ ap (λ t. refusal_by b k call false t stale) (lt-leb b.table.head_count k lt)
    ∙ ap (λ t. refusal_by b k call false false (not t)) (ne_eqb n (head_at b k).transaction ne) in
    call-is kit b (by_handle k n) call ∙ ap (λ o. settled_by o b (admitted_of kit b k call)) is

pub open-takes-next-number : {W : Type 0} (kit : Kit W) → OpenTakesNextNumber kit
open-takes-next-number {W} kit b who g bounds e =
    by_call kit b who Open
    (λ (r : Answer W × Bench W). r.0 ≡ Ok g → ((head_at r.1 who.head).transaction ≡ b.table.opened + 1) × (r.1.table.opened ≡ b.table.opened + 1))
    (λ e _ q. cc)
    (λ q _. let a = admitted b who Open q in
    (ap (λ (h : Head). h.transaction) (get_or-set_same b.table.heads who.head _ new_head (omega (arith, a.head, bounds.few_heads, bounds.records))), refl)) e

-- the numbers of all heads, and how many were given, are as before
abbrev SameNumbers : {W : Type 0} → Bench W → Bench W → Type 0
SameNumbers b o = ((j : ℕ) → (head_at o j).transaction ≡ (head_at b j).transaction) × (o.table.opened ≡ b.table.opened)

module _ {W : Type 0} (kit : Kit W) (b : Bench W) (k : ℕ) where
  -- one head has another record of the same transaction, after a sweep
  number-kept : (ys : List Head) → Swept b.table.heads ys → (h : Head) → h.transaction ≡ (head_at b k).transaction
      → (j : ℕ) → (get_or (set ys k h) j new_head).transaction ≡ (head_at b j).transaction
  number-kept ys p h e j = number-set b.table.heads ys k j h p e

  pub numbers-kept : (call : Call ℕ W) → (is_ok (admitted_of kit b k call).0 && is_open call) ≡ false → SameNumbers b (admitted_of kit b k call).1
  numbers-kept Open ne = wrong (sym ne)
  numbers-kept (Read c) ne =
      by_read kit b k c (λ (o : Outcome W W). SameNumbers b o.left) (λ w. (λ j. refl, refl)) (λ j. refl, refl)
      (λ _ ys p s w. (number-kept ys p _ refl, refl)) (λ ys p cause. (number-kept ys p _ refl, refl))
  numbers-kept (Write c w) ne =
      by-write kit b k c w (λ (o : Outcome (Unit {0}) W). SameNumbers b o.left) (λ ys p. (number-kept ys p _ refl, refl))
      (number-kept b.table.heads (swept_none b.table.heads) _ refl, refl)
  numbers-kept Close ne =
      by-close kit b k (λ (o : Outcome Closing W). SameNumbers b o.left) (λ _. (number-kept b.table.heads (swept_none b.table.heads) _ refl, refl))
      (number-kept b.table.heads (swept_none b.table.heads) _ refl, refl)
      (λ _ _. (number-kept (map lock_out (after_loads kit.memory b k (cells_validated kit.memory b k))) (swept-lock kit b k (cells_validated kit.memory b k)) _ refl, refl))
      (λ ys p. (number-kept ys p _ refl, refl))
  numbers-kept call ne = (number-kept b.table.heads (swept_none b.table.heads) _ refl, refl)

pub numbers-stay : {W : Type 0} (kit : Kit W) → NumbersStay kit
numbers-stay {W} kit b who call =
    by_call kit b who call (λ (r : Answer W × Bench W). (is_ok r.0 && is_open call) ≡ false → SameNumbers b r.1) (λ e _ _. (λ j. refl, refl)) (λ _. numbers-kept kit b who.head call)

-- the slots of the head j are as before
abbrev SameSlots : {W : Type 0} → ℕ → Bench W → Bench W → Type 0
SameSlots j b o = (log_of j SLOTS o.reads ≡ log_of j SLOTS b.reads) × (log_of j SLOTS o.writes ≡ log_of j SLOTS b.writes)

module _ {W : Type 0} (kit : Kit W) (b : Bench W) (bounds : InBounds b.table) (who : Caller) (j : ℕ) (ne : j ≡ who.head → ⊥) where
  abbrev k : ℕ
  k = who.head

  own-bounds : k < b.table.head_count → HeadBounds (head_at b k)
  own-bounds lt = bounds.heads k new_head (omega (arith, lt, bounds.few_heads, bounds.records))

  slots-kept : (call : Call ℕ W) → Admitted b who call → SameSlots j b (admitted_of kit b k call).1
  slots-kept (Read c) a =
      by_read kit b k c (λ (o : Outcome W W). SameSlots j b o.left) (λ w. (refl, refl)) (refl, refl)
      (λ e ys p s w.
      let log = note c w (read_log b k) in
      let free : lacks_room_for c (read_log b k) ≡ false = sym (ap (λ t. not t && lacks_room_for c (read_log b k)) (word_none c (write_log b k) e)) ∙ a.slot in
      let few = few-noted c w (read_log b k) (omega (arith, length-log k (head_at b k).read_count b.reads, (own-bounds a.head).reads)) free in
      (log-laid-other k log b.reads few (omega (arith, a.head, a.lists.reads)) j SLOTS ne (omega arith), refl))
      (λ ys p cause. (refl, refl))
  slots-kept (Write c w) a =
      let log = put c w (write_log b k) in
      let few = few-put c w (write_log b k) (omega (arith, length-log k (head_at b k).write_count b.writes, (own-bounds a.head).writes)) a.slot in
      let stays = log-laid-other k log b.writes few (omega (arith, a.head, a.lists.writes)) j SLOTS ne (omega arith) in
      by-write kit b k c w (λ (o : Outcome (Unit {0}) W). SameSlots j b o.left) (λ ys p. (refl, stays)) (refl, stays)
  slots-kept Close a =
      by-close kit b k (λ (o : Outcome Closing W). SameSlots j b o.left) (λ _. (refl, refl)) (refl, refl) (λ _ _. (refl, refl)) (λ ys p. (refl, refl))
  slots-kept call a = (refl, refl)

pub others-slots-stay : {W : Type 0} (kit : Kit W) → OthersSlotsStay kit
others-slots-stay {W} kit b who call j bounds ne =
    by_call kit b who call (λ (r : Answer W × Bench W). SameSlots j b r.1) (λ e _. (refl, refl)) (λ none. slots-kept kit b bounds who j ne call (admitted b who call none))

pub stray-cells : {W : Type 0} (kit : Kit W) → StrayCells kit
stray-cells {W} kit = record { differs = differs; not_loaded = inside; not_written = λ s cells far. set_past cells s.cell s.word far }
  where
    differs : (cells : List W) (s : Slot W) → length cells ≤ s.cell → holds kit.memory.same cells s ≡ false
    differs cells s far = ap (holds_same kit.memory.same s.word) (slice_get_past cells s.cell far)

    inside : (cells : List W) (log : List (Slot W)) → All (λ c. c < length cells) (cells_loaded kit.memory.same cells log)
    inside cells [] = All-nil (λ c. c < length cells)
    inside cells (s ∷ log) =
        let P : ℕ → Type 0 = λ c. c < length cells in
        let within : holds kit.memory.same cells s ≡ true → s.cell < length cells =
        λ e. ⊎_elim (λ (lt : s.cell < length cells). lt) (λ far. wrong (sym (differs cells s far) ∙ e)) (cases_lt s.cell (length cells)) in
        cond_both (holds kit.memory.same cells s) _ _ (All P) (λ e. All-cons P s.cell (cells_loaded kit.memory.same cells log) (within e) (inside cells log))
        (λ _. cond_both (nat_lt s.cell (length cells)) (s.cell ∷ []) [] (All P) (λ e. All-cons P s.cell [] (ltb-true s.cell (length cells) e) (All-nil P)) (λ _. All-nil P))

pub call-laws : {W : Type 0} (kit : Kit W) → CallLaws kit
call-laws kit = record {
  refusals = refusals-change-nothing kit;
  causes = aborts-tell-their-cause kit;
  lists = wrong-lists-refused kit;
  cells = cells-change-by-commits kit;
  others = others-only-abort kit;
  slots = others-slots-stay kit;
  handles = handles-call-as-heads kit;
  stale = stale-handles-refused kit;
  opens = open-takes-next-number kit;
  numbers = numbers-stay kit;
  stray = stray-cells kit;
}
