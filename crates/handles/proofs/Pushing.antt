-- Pushing until no slot is left.
use Rattle.std.proofs.Common.{◌≡◌, ℕ, zero, suc, ◌+◌, ◌-◌, ◌<◌, ◌≤◌, Bool, false, cond, not, eqb, leb, List, [], ◌∷◌, length, take, drop, Some, None, Ok, Err, Option, Result, sym, refl, ap, ◌∙◌, subst, arith}
use Rattle.std.proofs.lemmas.List.{get_or-set_same, drop_all}
use Rattle.std.proofs.lemmas.Bool.{eqb-true, eqb-false, ne_eqb}
use Rattle.parts.specs.declared.calls.Call.TheVariants.{Push}
use Rattle.rules.specs.declared.types.Caller.{Caller}
use Rattle.rules.specs.declared.types.Head.{Head}
use Rattle.rules.specs.declared.types.Refusal.{Refusal}
use Rattle.rules.specs.declared.types.Refusal.TheVariants as refuse
use Rattle.rules.specs.declared.types.Slot.{Slot}
use Rattle.rules.specs.declared.types.State.TheVariants as state
use Rattle.rules.specs.Kit.{Kit}
use Rattle.rules.specs.Logs.{log_of, put_in}
use Rattle.rules.specs.Heads.{new_head, is_writing_back}
use Rattle.rules.specs.Bench.{Bench, head_at, write_log}
use Rattle.rules.specs.Refusals.{is_stale, when, first_found, refusal}
use Rattle.rules.specs.Calls.{Outcome, unless, is_last, admitted_push, push_of}
use Rattle.rules.specs.Bounds.{InBounds}
use Rattle.rules.proofs.Basics.{by-option, by-test}
use Rattle.rules.proofs.Admitted.{Admitted, admitted}
use Rattle.rules.proofs.KeptBounds.{bounds-kept, right_lengths_stay}
use Rattle.rules.proofs.LogLaws.{length-log}
use Rattle.rules.proofs.StepPush.{left-none, push-settles}
use Rattle.rig.specs.declared.rig.Rig.{Rig}
use Rattle.rig.specs.Rigs.{Kept}
use Rattle.handles.specs.declared.commits.WritingBack.{WritingBack}
use Rattle.handles.specs.declared.commits.Pushed.{Pushed}
use Rattle.handles.specs.declared.commits.Pushed.TheVariants as pushing
use Rattle.handles.specs.declared.refusals.Refused.{Refused}
use Rattle.handles.specs.Handles.{writing_back_caller, after_push, after_pushes, not_pushed, left_by_pushes, pushes_of, slots_left, WrittenBack}

-- the refusal of a push, by its four tests
abbrev refused_by : Bool → Bool → Bool → Bool → Option Refusal
refused_by unfit missing stale other =
    first_found
    (when unfit refuse.Lists ∷ when missing refuse.NoHead ∷ when stale refuse.StaleHandle ∷ None ∷ when other refuse.NotTaken ∷ None ∷ None ∷ None ∷ None ∷ [])

refused-alike : (u u' m m' s s' t t' : Bool) → u ≡ u' → m ≡ m' → s ≡ s' → t ≡ t' → refused_by u m s t ≡ refused_by u' m' s' t'
refused-alike u u' m m' s s' t t' eu em es et =
    ap (λ x. refused_by x m s t) eu ∙ ap (λ x. refused_by u' x s t) em ∙ ap (λ x. refused_by u' m' x t) es ∙ ap (λ x. refused_by u' m' s' x) et

not-last : (m : ℕ) → eqb (suc m) 0 ≡ false
not-last m = ne_eqb (suc m) 0 (λ q. omega arith)

-- staleness goes by the transaction number alone
stale-alike : (o : Option ℕ) (x y : Head) → x.transaction ≡ y.transaction → is_stale o x ≡ is_stale o y
stale-alike None x y e = refl
stale-alike (Some n) x y e = ap (λ t. not (eqb n t)) e

-- a granted push, and what it leaves
module _ {W : Type 0} (kit : Kit W) (who : Caller) (b : Bench W) (s : InBounds b.table) (n : ℕ) (granted : (push_of b who).answer ≡ Ok n) where
  abbrev k : ℕ
  k = who.head

  abbrev me : Head
  me = head_at b k

  abbrev next : Bench W
  next = (push_of b who).left

  none : refusal b who Push ≡ None
  none =
      by-option (refusal b who Push) (λ (o : Option Refusal). (unless o b (admitted_push b k)).answer ≡ Ok n → o ≡ None) (λ _ _. refl) (λ e _ q. cc) granted

  is : push_of b who ≡ admitted_push b k
  is = ap (λ o. unless o b (admitted_push b k)) none

  known : Admitted b who Push
  known = admitted b who Push none

  rest : length (write_log b k) - (me.written + 1) ≡ n
  rest = let e : Ok (length (write_log b k) - (me.written + 1)) ≡ Ok n = sym (ap (λ (o : Outcome ℕ W). o.answer) is) ∙ granted in cc

  last : is_last b k ≡ eqb n 0
  last = sym (left-none (length (write_log b k)) (me.written + 1)) ∙ ap (λ x. eqb x 0) rest

  -- the head's record then
  abbrev pushed : Bool → Head
  pushed t = record me { state = cond t state.Idle state.WritingBack; written = me.written + 1 }

  here : head_at next k ≡ pushed (eqb n 0)
  here =
      ap (λ (o : Outcome ℕ W). head_at o.left k) is
      ∙ get_or-set_same b.table.heads k (pushed (is_last b k)) new_head (omega (arith, known.head, s.few_heads, s.records))
      ∙ ap pushed last

  log : write_log next k ≡ write_log b k
  log = ap (λ (h : Head). log_of k h.write_count next.writes) here ∙ ap (λ (o : Outcome ℕ W). log_of k me.write_count o.left.writes) is

  cells : next.cells ≡ put_in (take 1 (drop me.written (write_log b k))) b.cells
  cells = ap (λ (o : Outcome ℕ W). o.left.cells) is

  sequence : next.table.sequence ≡ cond (eqb n 0) (b.table.sequence + 1) b.table.sequence
  sequence = ap (λ (o : Outcome ℕ W). o.left.table.sequence) is ∙ ap (λ t. cond t (b.table.sequence + 1) b.table.sequence) last

  pub bounds-next : InBounds next.table
  bounds-next = (bounds-kept kit b who Push s).0

  -- while a slot is left the next push is granted too
  pub pushed-on : (m : ℕ) → n ≡ suc m → (push_of next who).answer ≡ Ok m
  pushed-on m more =
      let going : head_at next k ≡ pushed false = here ∙ ap (λ x. pushed (eqb x 0)) more ∙ ap pushed (not-last m) in
      let heads : next.table.head_count ≡ b.table.head_count = (bounds-kept kit b who Push s).1.head_count in
      let free : refusal next who Push ≡ None =
      refused-alike _ _ _ _ _ _ _ _ (ap not (right_lengths_stay kit b who Push s)) (ap (λ x. leb x k) heads)
      (ap (is_stale who.transaction) going ∙ stale-alike who.transaction (pushed false) me refl) (ap (λ (h : Head). not (is_writing_back h.state)) going ∙ ap not (sym known.taken)) ∙ none in
      ap (λ o. (unless o next (admitted_push next k)).answer) free ∙ ap (λ (x : List (Slot W)). Ok (length x - ((head_at next k).written + 1))) log
      ∙ ap (λ (h : Head). Ok (length (write_log b k) - (h.written + 1))) going ∙ ap Ok (omega (arith, rest, more))

-- the last push, or one with more to come, has put the rest of the write log into the cells once all are made
module _ {W : Type 0} (kit : Kit W) (who : Caller) where
  last-writes-back : (b : Bench W) → InBounds b.table → (push_of b who).answer ≡ Ok 0 → WrittenBack b (push_of b who).left who.head
  last-writes-back b s e =
      let h = head_at b who.head in
      let log = write_log b who.head in
      let end : drop (h.written + 1) log ≡ [] = drop_all (h.written + 1) log (omega (arith, rest kit who b s 0 e)) in
      record {
        cells =
            cells kit who b s 0 e
            ∙ ap (λ r. put_in r (put_in (take 1 (drop h.written log)) b.cells)) (sym end)
            ∙ push-settles h.written log b.cells;
        idle = ap (λ (x : Head). x.state) (here kit who b s 0 e);
        sequence = sequence kit who b s 0 e;
      }

  pub pushes-write-back : (n : ℕ) (b : Bench W) → InBounds b.table → (push_of b who).answer ≡ Ok n → WrittenBack b (left_by_pushes n (push_of b who).left who) who.head
  pushes-write-back zero b s e = last-writes-back b s e
  pushes-write-back (suc n) b s e =
      let h = head_at b who.head in
      let log-b = write_log b who.head in
      let after = (push_of b who).left in
      let then = pushes-write-back n after (bounds-next kit who b s (suc n) e) (pushed-on kit who b s (suc n) e n refl) in
      record {
        cells =
            then.cells
            ∙ ap (λ (x : Head). put_in (drop x.written (write_log after who.head)) after.cells) (here kit who b s (suc n) e)
            ∙ ap (λ l. put_in (drop (h.written + 1) l) after.cells) (log kit who b s (suc n) e)
            ∙ ap (put_in (drop (h.written + 1) log-b)) (cells kit who b s (suc n) e)
            ∙ push-settles h.written log-b b.cells;
        idle = then.idle;
        sequence = then.sequence ∙ ap (λ x. x + 1) (sequence kit who b s (suc n) e ∙ ap (λ t. cond t (b.table.sequence + 1) b.table.sequence) (not-last n));
      }

-- what all pushes come to, while so many are being made
abbrev raised : ℕ → Result ℕ Refusal → Result ℕ Refusal
raised p (Ok n) = Ok (p + n)
raised p (Err e) = Err e

module _ {W : Type 0} (who : Caller) where
  pub record Going (start now : Bench W) (p : ℕ) : Type 0 where
    pub left : pushes_of now who ≡ pushes_of start who
    pub answer : raised p (push_of now who).answer ≡ raised 1 (push_of start who).answer

  pub going_first : (b : Bench W) → Going b b 1
  going_first b = record { left = refl; answer = refl }

  module _ (kit : Kit W) (start now : Bench W) (s : InBounds now.table) (p : ℕ) (g : Going start now p) where
    pub going-on : (m : ℕ) → (push_of now who).answer ≡ Ok (suc m) → Going start (push_of now who).left (p + 1)
    going-on m e =
        let on = pushed-on kit who now s (suc m) e m refl in
        record {
          left = ap (λ a. left_by_pushes (slots_left a) (push_of (push_of now who).left who).left who) on ∙ ap (λ a. left_by_pushes (slots_left a) (push_of now who).left who) (sym e) ∙ g.left;
          answer = ap (raised (p + 1)) on ∙ ap Ok (omega arith) ∙ ap (raised p) (sym e) ∙ g.answer;
        }

    pub all-done : (push_of now who).answer ≡ Ok 0 → ((push_of now who).left ≡ pushes_of start who) × (raised 1 (push_of start who).answer ≡ Ok p)
    all-done e = (ap (λ a. left_by_pushes (slots_left a) (push_of now who).left who) (sym e) ∙ g.left, sym g.answer ∙ ap (raised p) e ∙ ap Ok (omega arith))

    pub none-done : (x : Refusal) → (push_of now who).answer ≡ Err x → ((push_of now who).left ≡ pushes_of start who) × ((push_of start who).answer ≡ Err x)
    none-done x e = (
      ap (λ a. left_by_pushes (slots_left a) (push_of now who).left who) (sym e) ∙ g.left,
      only-refused (push_of start who).answer (sym g.answer ∙ ap (raised p) e),
    )
      where
        only-refused : (a : Result ℕ Refusal) → raised 1 a ≡ Err x → a ≡ Err x
        only-refused (Ok n) q = cc
        only-refused (Err y) q = cc

-- what two calls keep, both of them keep together
pub kept_on : {B P W : Type 0} {old now new : Rig B P} {a b c : Bench W} → Kept old now a b → Kept now new b c → Kept old new a c
kept_on x y = record { board = y.board ∙ x.board; policy = y.policy ∙ x.policy; lengths = y.lengths ∙ x.lengths }

-- a push by handle, taken apart
abbrev Answered : Type 0
Answered = Result Pushed (Refused (Option WritingBack))

-- a granted one
abbrev given : Bool → WritingBack → ℕ → Answered
given t h l = Ok (cond t pushing.Done (pushing.Left h l))

handed-on : (h x : WritingBack) (l n : ℕ) → given false h l ≡ Ok (pushing.Left x n) → x ≡ h
handed-on h x l n q = cc

is-left : (h : WritingBack) (l : ℕ) (r : Pushed) → given false h l ≡ Ok r → r ≡ pushing.Left h l
is-left h l r q = cc

module _ (h : WritingBack) where
  some-left : (a : Result ℕ Refusal) (x : WritingBack) (n : ℕ) → after_push h a ≡ Ok (pushing.Left x n) → (m : ℕ) × (a ≡ Ok (suc m)) × (x ≡ h)
  some-left (Ok l) x n =
      by-test (eqb l 0) (λ t. given t h l ≡ Ok (pushing.Left x n) → (m : ℕ) × (◌≡◌ {A = Result ℕ Refusal} (Ok l) (Ok (suc m))) × (x ≡ h))
      (λ _ q. cc)
      (λ f q. (l - 1, ap Ok (omega (arith, eqb-false l 0 f)), handed-on h x l n q))
  some-left (Err e) x n = λ q. cc

  none-left : (a : Result ℕ Refusal) (r : Pushed) → after_push h a ≡ Ok r → ((x : WritingBack) (n : ℕ) → r ≡ pushing.Left x n → ⊥) → a ≡ Ok 0
  none-left (Ok l) r =
      by-test (eqb l 0) (λ t. given t h l ≡ Ok r → ((x : WritingBack) (n : ℕ) → r ≡ pushing.Left x n → ⊥) → ◌≡◌ {A = Result ℕ Refusal} (Ok l) (Ok 0))
      (λ e _ _. ap Ok (eqb-true l 0 e))
      (λ f q never. absurd (never h l (is-left h l r q)))
  none-left (Err e) r = λ q _. cc

  refused-by : (a : Result ℕ Refusal) (r : Refused (Option WritingBack)) → after_push h a ≡ Err r → (e : Refusal) × (a ≡ Err e) × (r ≡ not_pushed h e)
  refused-by (Ok l) r q = cc
  refused-by (Err e) r q = (e, refl, cc)

-- a push in the midst, by the handle that is held, which is the first one again
module _ {W : Type 0} {h held : WritingBack} {start now after : Bench W} {p : ℕ} {result : Answered} (kit : Kit W) (s : InBounds start.table) (t : InBounds now.table)
    (g : Going (writing_back_caller h) start now p) (same : held ≡ h)
    (answer : result ≡ after_push held (push_of now (writing_back_caller held)).answer)
    (left-by : after ≡ (push_of now (writing_back_caller held)).left) where
  abbrev by : Caller
  by = writing_back_caller h

  left : after ≡ (push_of now by).left
  left = subst (λ (x : WritingBack). after ≡ (push_of now (writing_back_caller x)).left) same left-by

  is-answer : (r : Answered) → result ≡ r → after_push h (push_of now by).answer ≡ r
  is-answer r e = subst (λ (x : WritingBack). after_push x (push_of now (writing_back_caller x)).answer ≡ r) same (sym answer ∙ e)

  pub ends-refused : (r : Refused (Option WritingBack)) → result ≡ Err r → (after ≡ pushes_of start by) × (Err r ≡ after_pushes h (push_of start by).answer)
  ends-refused r q =
      let e = refused-by h (push_of now by).answer r (is-answer (Err r) q) in
      let all = none-done by kit start now t p g e.0 e.1 in
      (left ∙ all.0, ap Err e.2 ∙ ap (after_pushes h) (sym all.1))

  pub ends-done : (r : Pushed) → result ≡ Ok r → ((x : WritingBack) (n : ℕ) → r ≡ pushing.Left x n → ⊥)
      → (after ≡ pushes_of start by) × (Ok p ≡ after_pushes h (push_of start by).answer) × WrittenBack start after (writing_back_caller h).head
  ends-done r q never =
      let all = all-done by kit start now t p g (none-left h (push_of now by).answer r (is-answer (Ok r) q) never) in
      (left ∙ all.0, done (push_of start by).answer all.1, wrote (push_of start by).answer refl all.1)
    where
      done : (a : Result ℕ Refusal) → raised 1 a ≡ Ok p → Ok p ≡ after_pushes h a
      done (Ok n) e = cc
      done (Err x) e = cc

      wrote : (a : Result ℕ Refusal) → (push_of start by).answer ≡ a → raised 1 a ≡ Ok p → WrittenBack start after (writing_back_caller h).head
      wrote (Ok n) same e =
          subst (λ o. WrittenBack start o (writing_back_caller h).head) (ap (λ a. left_by_pushes (slots_left a) (push_of start by).left by) (sym same) ∙ sym (left ∙ (all-done by kit start now t p g (none-left h (push_of now by).answer r (is-answer (Ok r) q) never)).0))
          (pushes-write-back kit by n start s same)
      wrote (Err x) same e = cc

  pub goes-on : (x : WritingBack) (n : ℕ) (r : Pushed) → result ≡ Ok r → r ≡ pushing.Left x n
      → Going by start after (p + 1) × (x ≡ h) × (slots_left (push_of after by).answer < slots_left (push_of now by).answer) × (p ≤ 32)
  goes-on x n r q is-left =
      let e = some-left h (push_of now by).answer x n (is-answer (Ok (pushing.Left x n)) (q ∙ ap Ok is-left)) in
      let m = e.0 in
      let on : (push_of after by).answer ≡ Ok m = ap (λ (b : Bench W). (push_of b by).answer) left ∙ pushed-on kit by now t (suc m) e.1 m refl in (
        subst (λ b. Going by start b (p + 1)) (sym left) (going-on by kit start now t p g m e.1),
        e.2,
        (let e1 : slots_left (push_of after by).answer ≡ m = ap slots_left on in let e2 : slots_left (push_of now by).answer ≡ suc m = ap slots_left e.1 in omega (arith, e1, e2)),
        few (push_of start by).answer refl m (sym g.answer ∙ ap (raised p) e.1),
      )
    where
      few : (a : Result ℕ Refusal) → (push_of start by).answer ≡ a → (m : ℕ) → raised 1 a ≡ Ok (p + suc m) → p ≤ 32
      few (Ok l) same m e =
          let own = s.heads by.head new_head (omega (arith, (known kit by start s l same).head, s.few_heads, s.records)) in
          let sum : 1 + l ≡ p + suc m = cc in
          omega (arith, sum, rest kit by start s l same, length-log by.head (head_at start by.head).write_count start.writes, own.writes)
      few (Err x) same m e = cc
