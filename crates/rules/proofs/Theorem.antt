-- Every call keeps the invariant, and the invariant gives the three laws.
use Rattle.std.proofs.Common.{◌≡◌, ℕ, zero, suc, ◌+◌, ◌≤◌, true, false, List, [], ◌∷◌, take, replicate, Some, Err, sym, refl, ap, ◌∙◌, subst, arith}
use Rattle.std.specs.List.{slice_get}
use Rattle.std.proofs.lemmas.List.{take-replicate}
use Rattle.std.proofs.lemmas.List.Elements.{All-nil}
use Rattle.parts.specs.declared.calls.Call.{Call}
use Rattle.parts.specs.declared.calls.Call.TheVariants.{Open, Read, Write, Close, Push, Jolt, Again, Drop}
use Rattle.rules.specs.declared.types.Caller.{Caller}
use Rattle.rules.specs.declared.types.LentLists.{LentLists}
use Rattle.rules.specs.declared.types.LentLists.TheVariants as lent
use Rattle.rules.specs.declared.types.MadeCall.{MadeCall}
use Rattle.rules.specs.declared.types.Refusal.{Refusal}
use Rattle.rules.specs.declared.types.Refusal.TheVariants as refuse
use Rattle.rules.specs.declared.types.Slot.{Slot}
use Rattle.rules.specs.Kit.{Kit}
use Rattle.rules.proofs.Lawful.{Lawful}
use Rattle.rules.specs.Heads.{new_head, is_hardware, is_writing_back}
use Rattle.rules.specs.Bench.{Bench, is_odd, bench}
use Rattle.rules.specs.Calls.{new_table}
use Rattle.rules.specs.Answers.{call_of}
use Rattle.rules.specs.Bounds.{InBounds}
use Rattle.rules.specs.Runs.{step_with, step, answers_of, left_by}
use Rattle.rules.specs.History.{History, blank_page, nothing_yet, history_after, history_of, cells_after}
use Rattle.rules.specs.RunLaws.{ThreeLaws, Explained, Bounded}
use Rattle.rules.proofs.Basics.{by-test, wrong}
use Rattle.rules.proofs.Admitted.{Admitted, admitted}
use Rattle.rules.proofs.Cases.{admitted_of, by_call}
use Rattle.rules.proofs.Seats.{Seat, Rig, seats, view}
use Rattle.rules.proofs.Invariant.{HeadOk, Inv}
use Rattle.rules.proofs.KeptBounds.{bounds-kept}
use Rattle.rules.proofs.Keeping.{Keeps}
use Rattle.rules.proofs.StepBegin.{keep-open, keep-again, keep-jolt, keep-drop}
use Rattle.rules.proofs.StepRead.{keep-read}
use Rattle.rules.proofs.StepWrite.{keep-write}
use Rattle.rules.proofs.StepClose.{keep-close}
use Rattle.rules.proofs.StepPush.{keep-push}

module _ {W : Type 0} (kit : Kit W) (law : Lawful kit) (start : List W) where
  -- a refusal leaves the history as it is
  refused-entry : (l : History W) (k : ℕ) (call : Call ℕ W) (e : Refusal) → history_after l k call (Err e) ≡ l
  refused-entry l k Open e = refl
  refused-entry l k call e = refl

  module _ (b : Bench W) (l : History W) (inv : Inv kit start (view b) l) (bounds : InBounds b.table) (who : Caller) where
    keep-granted : (call : Call ℕ W) → Admitted b who call → Keeps kit start l who.head call (admitted_of kit b who.head call)
    keep-granted Open a = keep-open kit law start b l inv bounds a.lists who.head a.head a.taken a.free
    keep-granted (Read c) a = keep-read kit law start b l inv bounds a.lists who.head a.head c a.taken a.free a.slot
    keep-granted (Write c w) a = keep-write kit law start b l inv bounds a.lists who.head a.head c w a.taken a.slot
    keep-granted Close a = keep-close kit law start b l inv bounds a.lists who.head a.head a.taken a.free
    keep-granted Push a = keep-push kit law start b l inv bounds a.lists who.head a.head a.taken
    keep-granted Jolt a = keep-jolt kit law start b l inv bounds a.lists who.head a.head a.taken
    keep-granted Again a = keep-again kit law start b l inv bounds a.lists who.head a.head a.taken a.free
    keep-granted Drop a = keep-drop kit law start b l inv bounds a.lists who.head a.head a.taken

    -- a refuses call keeps it, since nothing changes
    pub keep-call : (call : Call ℕ W) → Keeps kit start l who.head call (call_of kit b who call)
    keep-call call =
        by_call kit b who call (Keeps kit start l who.head call)
        (λ e _. subst (Inv kit start (view b)) (sym (refused-entry l who.head call e)) inv) (λ none. keep-granted call (admitted b who call none))

  -- a call with the lists as they are, or with one of wrong length
  keep-made : (b : Bench W) (l : History W) (call : MadeCall W) (lists : LentLists) → InBounds b.table → Inv kit start (view b) l
      → InBounds (step_with kit b call lists).1.table × Inv kit start (view (step_with kit b call lists).1) (history_after l call.caller.head call.call (step_with kit b call lists).0)
  keep-made b l call lent.Right bounds inv = ((bounds-kept kit b call.caller call.call bounds).0, keep-call b l inv bounds call.caller call.call)
  keep-made b l call lent.Wrong bounds inv = (bounds, subst (Inv kit start (view b)) (sym (refused-entry l call.caller.head call.call refuse.Lists)) inv)

  pub keep_all : (b : Bench W) (l : History W) (calls : List (MadeCall W)) → InBounds b.table → Inv kit start (view b) l
      → Inv kit start (view (left_by kit b calls)) (history_of l calls (answers_of kit b calls))
  keep_all b l [] bounds inv = inv
  keep_all b l (call ∷ calls) bounds inv =
      let k = keep-made b l call call.lent bounds inv in
      keep_all (step kit b call).1 (history_after l call.caller.head call.call (step kit b call).0) calls k.0 k.1

  pub gives : (m : Rig W) (l : History W) → Inv kit start m l → ThreeLaws kit.policy.patience start m.cells l
  gives m l inv = record {
    settled =
        λ none.
        by-test (is_odd m.sequence) (λ t. is_odd m.sequence ≡ t → m.cells ≡ cells_after l.closes start)
        (λ _ e. let x = inv.lone e in wrong (sym (none x.who) ∙ (inv.heads x.who x.it x.there).mark ∙ x.is))
        (λ _ e. (inv.calm e).settled) refl;
    explained = inv.past;
    explained_now = inv.present;
    bounded = inv.ended;
    bounded_now = inv.bound;
  }

nth-replicate : {X : Type 0} (n : ℕ) (x y : X) (k : ℕ) → slice_get (replicate n x) k ≡ Some y → y ≡ x
nth-replicate zero x y k e = cc
nth-replicate (suc n) x y zero e = cc
nth-replicate (suc n) x y (suc k) e = nth-replicate n x y k e

-- at set-up
abbrev new_seat : {W : Type 0} → Seat W
new_seat = record { head = new_head; reads = []; writes = [] }

seats-new : {W : Type 0} (reads writes : List (Slot W)) (i n : ℕ) → seats i (replicate n new_head) reads writes ≡ replicate n new_seat
seats-new reads writes i zero = refl
seats-new {W} reads writes i (suc n) = ap (λ (xs : List (Seat W)). new_seat ∷ xs) (seats-new reads writes (i + 1) n)

module _ {W : Type 0} (kit : Kit W) (start : List W) where
  at-set-up : (n : ℕ) → Inv kit start (record { heads = replicate n new_seat; sequence = 0; commits = 0; cells = start }) nothing_yet
  at-set-up n = record {
    calm = λ _. record { settled = refl; no-writing = λ k me there. subst (λ x. is_writing_back x.head.state ≡ false) (sym (nth-replicate n new_seat me k there)) refl };
    lone = λ e. wrong e;
    heads =
        λ k me there.
        subst (λ x. HeadOk kit.policy.patience start 0 0 start [] k x blank_page) (sym (nth-replicate n new_seat me k there))
        (record { attempts = refl; since = omega arith; mark = refl; going = λ e. wrong e; live = λ e. wrong e; hardware = λ e. wrong e; software = λ e. wrong e; aborted = λ e. wrong e });
    clear = λ j k me it there _ _ hardware _. wrong (subst (λ x. is_hardware x.head.state ≡ true) (nth-replicate n new_seat me j there) hardware);
    past = All-nil (Explained [] start);
    present = λ k. record { prefix = 0; is_prefix = omega arith; has_earlier = omega arith; explains = All-nil _; own_place = λ q e. cc; own_reads = All-nil _ };
    ended = All-nil (Bounded [] kit.policy.patience);
    bound = λ k. omega arith;
  }

  pub new-inv : (heads count : ℕ) → heads ≤ 8 → (reads writes : List (Slot W)) → Inv kit start (view (bench (new_table heads count) start reads writes)) nothing_yet
  new-inv heads count le reads writes =
      let new : take heads (seats 0 (replicate 8 new_head) reads writes) ≡ replicate heads new_seat = ap (take heads) (seats-new reads writes 0 8) ∙ take-replicate heads 8 new_seat le in
      subst (λ (hs : List (Seat W)). Inv kit start (record { heads = hs; sequence = 0; commits = 0; cells = start }) nothing_yet) (sym new) (at-set-up heads)
