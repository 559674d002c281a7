-- What a handle is still granted once its transaction has ended.
use Rattle.std.proofs.Common.{◌≡◌, ℕ, zero, suc, ◌<◌, ◌≤◌, ◌⊎◌, Bool, true, false, cond, not, ◌&&◌, ◌||◌, eqb, List, [], ◌∷◌, length, get_or, set, Some, Ok, sym, refl, ap, ◌∙◌, subst, inl, inr, ⊎_elim, map, arith, is_ok}
use Rattle.std.proofs.lemmas.List.{get_or-set_same}
use Rattle.std.proofs.lemmas.List.Elements.{length_all_zip}
use Rattle.std.proofs.lemmas.Bool.{cases_eq, eqb-true, not-false}
use Rattle.parts.specs.declared.calls.Call.{Call}
use Rattle.parts.specs.declared.calls.Call.TheVariants.{Open, Close, Push, Drop}
use Rattle.parts.specs.declared.types.Cause.{Cause}
use Rattle.rules.specs.declared.types.Caller.{Caller}
use Rattle.rules.specs.declared.types.Closing.{Closing}
use Rattle.rules.specs.declared.types.Granted.{Granted}
use Rattle.rules.specs.declared.types.Granted.TheVariants as granted
use Rattle.rules.specs.declared.types.Head.{Head}
use Rattle.rules.specs.declared.types.LentLists.{LentLists}
use Rattle.rules.specs.declared.types.LentLists.TheVariants as lent
use Rattle.rules.specs.declared.types.MadeCall.{MadeCall}
use Rattle.rules.specs.declared.types.State.{State}
use Rattle.rules.specs.declared.types.State.TheVariants.{Idle, WritingBack}
use Rattle.rules.specs.Kit.{Kit}
use Rattle.rules.specs.Heads.{new_head, is_idle, is_hardware, is_writing_back, abort}
use Rattle.rules.specs.Bench.{Bench, head_at, lock_out, after_loads, cells_validated}
use Rattle.rules.specs.Refusals.{by_handle, is_stale, takes}
use Rattle.rules.specs.Calls.{Outcome, is_last}
use Rattle.rules.specs.Answers.{Answer, with_answer, call_of}
use Rattle.rules.specs.Runs.{step, step_with, answers_of}
use Rattle.rules.specs.Bounds.{InBounds}
use Rattle.rules.specs.CallLaws.{is_open}
use Rattle.rules.specs.RunLaws.{ends, leaves_pushes, may_follow, GrantedAt, HandlesEndInRuns}
use Rattle.rules.proofs.Basics.{by-test, wrong}
use Rattle.rules.proofs.Admitted.{admitted, Admitted}
use Rattle.rules.proofs.Sweeps.{Hit, Swept, swept_none, swept-lock}
use Rattle.rules.proofs.Cases.{admitted_of, by_call, by-close}
use Rattle.rules.proofs.KeptBounds.{bounds-at-set-up, bounds-kept}
use Rattle.rules.proofs.LawsOfCalls.{others-only-abort, numbers-kept}

-- whether a head has ended its transaction: it is idle, or writes back if there is something to push
abbrev at-rest : Bool → State → Bool
at-rest pushes s = is_idle s || (pushes && is_writing_back s)

rest-takes : {W : Type 0} (pushes : Bool) (call : Call ℕ W) (s : State) → at-rest pushes s ≡ true → takes call s ≡ true → may_follow pushes call ≡ true
rest-takes pushes Open s q e = refl
rest-takes true Push s q e = refl
rest-takes false Push Idle q e = wrong e
rest-takes false Push s q e = wrong q
rest-takes pushes call Idle q e = wrong e
rest-takes true call WritingBack q e = wrong e
rest-takes true call s q e = wrong q
rest-takes false call s q e = wrong q

and-none : (t f : Bool) → f ≡ false → (t && f) ≡ false
and-none true f e = e
and-none false f e = refl

rest-calm : (pushes : Bool) (s : State) → at-rest pushes s ≡ true → is_hardware s ≡ true → ⊥
rest-calm pushes Idle q e = cc
rest-calm pushes WritingBack q e = cc
rest-calm true s q e = wrong q
rest-calm false s q e = wrong q

-- the transaction n of a head has ended: the head rests, or has a later one
abbrev EndedFor : Bool → ℕ → Head → Type 0
EndedFor pushes n x = (n < x.transaction) ⊎ ((n ≡ x.transaction) × (at-rest pushes x.state ≡ true))

abbrev Ended : {W : Type 0} → Bool → ℕ → ℕ → Bench W → Type 0
Ended pushes k n b = EndedFor pushes n (head_at b k)

-- by a new record of the head
ended-by : (pushes : Bool) (n : ℕ) (x y : Head) → y ≡ x → EndedFor pushes n x → EndedFor pushes n y
ended-by pushes n x y e = subst (EndedFor pushes n) (sym e)

-- another head's call
ended-hit : {W : Type 0} (pushes : Bool) (k n : ℕ) (b o : Bench W) → Hit (head_at b k) (head_at o k) → Ended pushes k n b → Ended pushes k n o
ended-hit pushes k n b o hit was =
    ⊎_elim (λ (same : head_at o k ≡ head_at b k). ended-by pushes n (head_at b k) (head_at o k) same was)
    (λ (p : (is_hardware (head_at b k).state ≡ true) × ((cause : Cause) × (head_at o k ≡ abort cause (head_at b k)))).
    ⊎_elim (λ (lt : n < (head_at b k).transaction). ended-by pushes n (abort p.1.0 (head_at b k)) (head_at o k) p.1.1 (inl lt))
    (λ (q : (n ≡ (head_at b k).transaction) × (at-rest pushes (head_at b k).state ≡ true)). absurd (rest-calm pushes (head_at b k).state q.1 p.0)) was) hit

module _ {W : Type 0} (kit : Kit W) (b : Bench W) (bounds : InBounds b.table) (who : Caller) (n : ℕ) where
  abbrev k : ℕ
  k = who.head

  abbrev me : Head
  me = head_at b k

  module _ (call : Call ℕ W) (a : Admitted b who call) where
    there : k < length b.table.heads
    there = omega (arith, a.head, bounds.few_heads, bounds.records)

    placed : (ys : List Head) → Swept b.table.heads ys → (x : Head) → get_or (set ys k x) k new_head ≡ x
    placed ys p x = let same = length_all_zip Hit b.table.heads ys p in get_or-set_same ys k x new_head (omega (arith, there))

    number : me.transaction ≤ b.table.opened
    number = bounds.numbered k new_head there

  opened-later : (pushes : Bool) (a : Admitted b who Open) → n ≤ me.transaction → Ended pushes k n (admitted_of kit b k Open).1
  opened-later pushes a le =
      ended-by pushes n _ _ (placed Open a b.table.heads (swept_none b.table.heads) _) (inl (let few = number Open a in omega arith))

  -- a handle that is not stale is of its head's latest transaction
  own-number : who.transaction ≡ Some n → is_stale who.transaction me ≡ false → n ≡ me.transaction
  own-number e q = let f : not (eqb n me.transaction) ≡ false = subst (λ o. is_stale o me ≡ false) e q in eqb-true n me.transaction (not-false (eqb n me.transaction) f)

  module _ (pushes : Bool) where
    -- its own head's call
    pushed-rest : (a : Admitted b who Push) → pushes ≡ true → n ≡ me.transaction → Ended pushes k n (admitted_of kit b k Push).1
    pushed-rest a some same =
        ended-by pushes n _ _ (placed Push a b.table.heads (swept_none b.table.heads) _)
        (inr (same, by-test (is_last b k) (λ t. at-rest pushes (cond t Idle WritingBack) ≡ true) (λ _. refl) (λ _. ap (λ x. x && true) some)))

    goes-on : (call : Call ℕ W) → Admitted b who call → may_follow pushes call ≡ true → n ≡ me.transaction → Ended pushes k n (admitted_of kit b k call).1
    goes-on Open a f same = opened-later pushes a (omega arith)
    goes-on Push a f same = pushed-rest a f same
    goes-on call a f same = wrong f

    -- a later transaction stays later
    later-on : n < me.transaction → (call : Call ℕ W) → Admitted b who call → Ended pushes k n (admitted_of kit b k call).1
    later-on lt Open a = opened-later pushes a (omega arith)
    later-on lt call a = inl (subst (λ t. n < t) (sym ((numbers-kept kit b k call (and-none (is_ok (admitted_of kit b k call).0) (is_open call) refl)).0 k)) lt)

    pub ended-own : (call : Call ℕ W) → Ended pushes k n b → Ended pushes k n (call_of kit b who call).1
    ended-own call was =
        by_call kit b who call (λ (r : Answer W × Bench W). Ended pushes k n r.1) (λ _ _. was)
        (λ q. let a = admitted b who call q in
        ⊎_elim (λ (lt : n < me.transaction). later-on lt call a)
        (λ (r : (n ≡ me.transaction) × (at-rest pushes me.state ≡ true)). goes-on call a (rest-takes pushes call me.state r.1 a.taken) r.0) was)

    pub granted-follows : (call : Call ℕ W) (g : Granted W) → who.transaction ≡ Some n → Ended pushes k n b → (call_of kit b who call).0 ≡ Ok g → may_follow pushes call ≡ true
    granted-follows call g by was =
        by_call kit b who call (λ (r : Answer W × Bench W). r.0 ≡ Ok g → may_follow pushes call ≡ true) (λ _ _ q. cc)
        (λ q _. let a = admitted b who call q in let own = own-number by a.own in
        ⊎_elim (λ (lt : n < me.transaction). absurd (omega arith))
        (λ (r : (n ≡ me.transaction) × (at-rest pushes me.state ≡ true)). rest-takes pushes call me.state r.1 a.taken) was)

  -- a record of the head with which its transaction has ended; what has been granted says whether there is something to push
  ends-with : (call : Call ℕ W) → Admitted b who call → (ys : List Head) → Swept b.table.heads ys → (x : Head) (given g : Granted W) → ◌≡◌ {A = Answer W} (Ok given) (Ok g)
      → EndedFor (leaves_pushes given) n x → EndedFor (leaves_pushes g) n (get_or (set ys k x) k new_head)
  ends-with call a ys p x given g e was =
      let same : given ≡ g = cc in
      subst (λ z. EndedFor (leaves_pushes z) n (get_or (set ys k x) k new_head)) same (ended-by (leaves_pushes given) n x _ (placed call a ys p x) was)

  closed-ends : (a : Admitted b who Close) (g : Granted W) → n ≡ me.transaction → (admitted_of kit b k Close).0 ≡ Ok g → Ended (leaves_pushes g) k n (admitted_of kit b k Close).1
  closed-ends a g same =
      by-close kit b k (λ (o : Outcome Closing W). (with_answer granted.Closed o).0 ≡ Ok g → Ended (leaves_pushes g) k n o.left)
      (λ _ q. ends-with Close a b.table.heads (swept_none b.table.heads) _ _ g q (inr (same, refl)))
      (λ q. ends-with Close a b.table.heads (swept_none b.table.heads) _ _ g q (inr (same, refl)))
      (λ _ _ q. ends-with Close a (map lock_out (after_loads kit.memory b k (cells_validated kit.memory b k))) (swept-lock kit b k (cells_validated kit.memory b k)) _ _ g q (inr (same, refl)))
      (λ ys p q. cc)

  ends-granted : (call : Call ℕ W) → Admitted b who call → (g : Granted W) → n ≡ me.transaction → ends call ≡ true → (admitted_of kit b k call).0 ≡ Ok g
      → Ended (leaves_pushes g) k n (admitted_of kit b k call).1
  ends-granted Close a g same e = closed-ends a g same
  ends-granted Drop a g same e = λ q. ends-with Drop a b.table.heads (swept_none b.table.heads) _ granted.Done g q (inr (same, refl))
  ends-granted call a g same e = wrong e

  pub ended-by-call : (call : Call ℕ W) (g : Granted W) → who.transaction ≡ Some n → ends call ≡ true → (call_of kit b who call).0 ≡ Ok g → Ended (leaves_pushes g) k n (call_of kit b who call).1
  ended-by-call call g by e =
      by_call kit b who call (λ (r : Answer W × Bench W). r.0 ≡ Ok g → Ended (leaves_pushes g) k n r.1) (λ _ _ q. cc)
      (λ q. let a = admitted b who call q in ends-granted call a g (own-number by a.own) e)

-- a run
module _ {W : Type 0} (kit : Kit W) where
  bounds-step : (b : Bench W) → InBounds b.table → (c : MadeCall W) (lists : LentLists) → InBounds (step_with kit b c lists).1.table
  bounds-step b bounds c lent.Right = (bounds-kept kit b c.caller c.call bounds).0
  bounds-step b bounds c lent.Wrong = bounds

  module _ (pushes : Bool) (k n : ℕ) where
    ended-step : (b : Bench W) → InBounds b.table → (c : MadeCall W) (lists : LentLists) → Ended pushes k n b → Ended pushes k n (step_with kit b c lists).1
    ended-step b bounds c lent.Right was =
        ⊎_elim
        (λ (e : k ≡ c.caller.head). subst (λ j. Ended pushes j n (call_of kit b c.caller c.call).1) (sym e) (ended-own kit b bounds c.caller n pushes c.call (subst (λ j. Ended pushes j n b) e was)))
        (λ (ne : k ≡ c.caller.head → ⊥). ended-hit pushes k n b (call_of kit b c.caller c.call).1 (others-only-abort kit b c.caller c.call k ne) was)
        (cases_eq k c.caller.head)
    ended-step b bounds c lent.Wrong was = was

    follows-step : (b : Bench W) → InBounds b.table → (c : MadeCall W) (lists : LentLists) (g : Granted W) → c.caller ≡ by_handle k n → Ended pushes k n b
        → (step_with kit b c lists).0 ≡ Ok g → may_follow pushes c.call ≡ true
    follows-step b bounds c lent.Right g by was q =
        granted-follows kit b bounds c.caller n pushes c.call g (ap (λ (w : Caller). w.transaction) by) (subst (λ j. Ended pushes j n b) (sym (ap (λ (w : Caller). w.head) by)) was) q
    follows-step b bounds c lent.Wrong g by was q = cc

    all-later : (b : Bench W) → InBounds b.table → (calls : List (MadeCall W)) → Ended pushes k n b → (j : ℕ) (d : MadeCall W)
        → GrantedAt calls (answers_of kit b calls) j d → d.caller ≡ by_handle k n → may_follow pushes d.call ≡ true
    all-later b bounds [] was j d at by = let e = at.made in cc
    all-later b bounds (c ∷ calls) was zero d at by =
        let same : c ≡ d = let e = at.made in cc in
        let q : (step kit b c).0 ≡ Ok at.given = let e = at.granted in cc in
        subst (λ (x : MadeCall W). may_follow pushes x.call ≡ true) same (follows-step b bounds c c.lent at.given (ap (λ (x : MadeCall W). x.caller) same ∙ by) was q)
    all-later b bounds (c ∷ calls) was (suc j) d at by =
        all-later (step kit b c).1 (bounds-step b bounds c c.lent) calls (ended-step b bounds c c.lent was) j d
        (record { made = at.made; given = at.given; granted = at.granted }) by

  module _ (k n : ℕ) where
    ends-step : (b : Bench W) → InBounds b.table → (c : MadeCall W) (lists : LentLists) (g : Granted W) → c.caller ≡ by_handle k n → ends c.call ≡ true
        → (step_with kit b c lists).0 ≡ Ok g → Ended (leaves_pushes g) k n (step_with kit b c lists).1
    ends-step b bounds c lent.Right g by e q =
        subst (λ j. Ended (leaves_pushes g) j n (call_of kit b c.caller c.call).1) (ap (λ (w : Caller). w.head) by) (ended-by-call kit b bounds c.caller n c.call g (ap (λ (w : Caller). w.transaction) by) e q)
    ends-step b bounds c lent.Wrong g by e q = cc

    handles-end : (b : Bench W) → InBounds b.table → (calls : List (MadeCall W)) (i j : ℕ) (first later : MadeCall W) → i < j
        → (at : GrantedAt calls (answers_of kit b calls) i first) → GrantedAt calls (answers_of kit b calls) j later
        → first.caller ≡ by_handle k n → later.caller ≡ by_handle k n → ends first.call ≡ true → may_follow (leaves_pushes at.given) later.call ≡ true
    handles-end b bounds [] i j first later lt at to by by' e = let x = at.made in cc
    handles-end b bounds (c ∷ calls) i zero first later lt at to by by' e = absurd (omega arith)
    handles-end b bounds (c ∷ calls) zero (suc j) first later lt at to by by' e =
        let same : c ≡ first = let x = at.made in cc in
        let q : (step kit b c).0 ≡ Ok at.given = let x = at.granted in cc in
        all-later (leaves_pushes at.given) k n (step kit b c).1 (bounds-step b bounds c c.lent) calls
        (ends-step b bounds c c.lent at.given (ap (λ (x : MadeCall W). x.caller) same ∙ by) (subst (λ (x : MadeCall W). ends x.call ≡ true) (sym same) e) q)
        j later (record { made = to.made; given = to.given; granted = to.granted }) by'
    handles-end b bounds (c ∷ calls) (suc i) (suc j) first later lt at to by by' e =
        handles-end (step kit b c).1 (bounds-step b bounds c c.lent) calls i j first later (omega arith)
        (record { made = at.made; given = at.given; granted = at.granted }) (record { made = to.made; given = to.given; granted = to.granted }) by by' e

pub handles-end-in-runs : {W : Type 0} (kit : Kit W) → HandlesEndInRuns kit
handles-end-in-runs kit heads cells b calls up i j k n first later = handles-end kit k n b (bounds-at-set-up heads cells b.table up) calls i j first later
