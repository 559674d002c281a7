-- Calls that begin or end an attempt and touch nothing else: open, again, jolt and drop.
use Rattle.std.proofs.Common.{◌≢◌, ◌≡◌, ℕ, ◌+◌, ◌<◌, ◌≤◌, true, false, ◌||◌, eqb, List, [], length, take, Some, Ok, sym, refl, ap, ◌∙◌, subst, ⊎_elim, arith, All}
use Rattle.std.specs.List.{slice_get}
use Rattle.std.proofs.lemmas.Bool.{cases_lt}
use Rattle.std.proofs.lemmas.List.{drop_all}
use Rattle.std.proofs.lemmas.List.Elements.{All-nil, All-cons}
use Rattle.parts.specs.declared.types.Cause.{Cause}
use Rattle.parts.specs.declared.types.Cause.TheVariants.{Conflict, Capacity, Lock, Other, Changed}
use Rattle.parts.specs.declared.types.Mode.TheVariants as mode
use Rattle.parts.specs.declared.calls.Call.TheVariants.{Open, Jolt, Again, Drop}
use Rattle.rules.specs.declared.types.Granted.TheVariants as granted
use Rattle.rules.specs.declared.types.State.{State}
use Rattle.rules.specs.declared.types.State.TheVariants.{Idle, Hardware, Software, Aborted, WritingBack}
use Rattle.rules.specs.Kit.{Kit}
use Rattle.rules.proofs.Lawful.{Lawful}
use Rattle.rules.specs.Heads.{is_idle, is_hardware, is_software, is_aborted, abort, with_transaction, begin, next_mode}
use Rattle.rules.specs.Bench.{Bench, head_at, present_snapshot, is_odd}
use Rattle.rules.specs.Calls.{becomes, admitted_open, admitted_jolt, admitted_drop, admitted_again, again_mode}
use Rattle.rules.specs.Answers.{with_answer}
use Rattle.rules.specs.Bounds.{InBounds}
use Rattle.rules.specs.History.{History, cells_after, closes_of_others}
use Rattle.rules.specs.RunLaws.{Explained, Bounded, most_attempts}
use Rattle.rules.proofs.Records.{cancel}
use Rattle.rules.proofs.Basics.{wrong}
use Rattle.rules.proofs.Admitted.{Sized}
use Rattle.rules.proofs.Seats.{Seat, Rig, view, seat_of, meets}
use Rattle.rules.proofs.Views.{seat-there, untouched}
use Rattle.rules.proofs.LogLaws.{AgreesAt}
use Rattle.rules.proofs.Invariant.{Inv}
use Rattle.rules.proofs.Frames.{struck-same, head-aborts, hardware-not-writing}
use Rattle.rules.proofs.Turns.{quiet_at, turned-here, turned-other, all_true, going-plain, aborted-going, idle-plain}
use Rattle.rules.proofs.Keeping.{by_mode, Keeps, keep-alone}

module _ {W : Type 0} (kit : Kit W) (law : Lawful kit) (start : List W) (b : Bench W) (l : History W) (inv : Inv kit start (view b) l) (bounds : InBounds b.table) (lists : Sized b)
    (h : ℕ) (lt : h < b.table.head_count) where
  abbrev m : Rig W
  m = view b

  abbrev me : Seat W
  me = seat_of b h

  at : slice_get m.heads h ≡ Some me
  at = seat-there b bounds lists h lt

  pub keep-drop : (is_hardware me.head.state || (is_software me.head.state || is_aborted me.head.state)) ≡ true → Keeps kit start l h Drop (with_answer (λ _. granted.Done) (admitted_drop b h))
  keep-drop going =
      let plain = going-plain me.head.state going in
      let o = inv.heads h me at in
      keep-alone kit start _ b bounds lists h lt b.table.sequence b.table.commits b.table.opened (cancel (head_at b h)) b.cells b.reads b.writes (untouched b bounds lists h lt)
      (quiet_at kit start m l inv h me at _ (λ o. o) l.pages (l.pages h) l.past _ struck-same (λ k ne. refl) refl
      (record {
        attempts = o.attempts;
        since = o.since;
        mark = o.mark ∙ plain;
        going = λ e. wrong e;
        live = λ e. wrong e;
        hardware = λ e. wrong e;
        software = λ e. wrong e;
        aborted = λ e. wrong e;
      })
      plain refl (λ _. refl) (λ k it there ne hm. wrong hm) inv.past (inv.present h)
      (All-cons (Bounded l.closes kit.policy.patience) _ l.ended (inv.bound h, λ n e. cc) inv.ended) (inv.bound h))

  pub keep-jolt : is_hardware me.head.state ≡ true → Keeps kit start l h Jolt (with_answer (λ _. granted.Done) (admitted_jolt b h))
  keep-jolt hardware =
      keep-alone kit start _ b bounds lists h lt b.table.sequence b.table.commits b.table.opened (abort Other (head_at b h)) b.cells b.reads b.writes (untouched b bounds lists h lt)
      (quiet_at kit start m l inv h me at _ (λ o. o) l.pages (l.pages h) l.past l.ended struck-same (λ k ne. refl) refl
      (head-aborts kit.policy.patience start m.sequence m.commits m.cells l.closes h me (l.pages h) Other hardware (inv.heads h me at))
      (hardware-not-writing me.head.state hardware) refl (λ _. refl) (λ k it there ne hm. wrong hm) inv.past (inv.present h) inv.ended (inv.bound h))

  pub keep-open : is_idle me.head.state ≡ true → is_odd m.sequence ≡ false → Keeps kit start l h Open (with_answer granted.Begun (admitted_open b h))
  keep-open idle even =
      let n = length l.closes in
      keep-alone kit start _ b bounds lists h lt b.table.sequence b.table.commits (b.table.opened + 1) (begin mode.Hardware (present_snapshot b.table) (with_transaction (b.table.opened + 1) (head_at b h)))
      b.cells b.reads b.writes (untouched b bounds lists h lt)
      (quiet_at kit start m l inv h me at _ (λ o. o) _ _ _ l.ended struck-same
      (λ k ne. turned-other l.pages h _ k ne) (turned-here l.pages h _)
      (record {
        attempts = refl;
        since = omega arith;
        mark = refl;
        going = λ _. subst (All (λ s. eqb h s.head ≡ false)) (sym (drop_all n l.closes (omega arith))) (All-nil (λ s. eqb h s.head ≡ false));
        live = λ _. record { words = λ c. refl; puts = λ xs. refl; some = refl; apart = tt; reads = λ xs a. All-nil (AgreesAt xs); latest = λ c. refl; unclosed = refl };
        hardware = λ _. record { valid = All-nil (AgreesAt m.cells); under = omega (arith, law.at_least_one); budget = omega arith };
        software = λ e. wrong e;
        aborted = λ e. wrong e;
      })
      (idle-plain me.head.state idle) refl (λ o. wrong (sym even ∙ o))
      (λ k it there ne hm hi hf. (All-nil (λ s. meets kit s.cell it.reads ≡ false), all_true (λ s. meets kit s.cell [] ≡ false) (λ s. refl) it.writes))
      (All-cons (Explained l.closes start) (l.pages h).attempt l.past (inv.present h) inv.past) (record { prefix = n; is_prefix = omega arith; has_earlier = omega arith; explains = All-nil _; own_place = λ q e. cc; own_reads = All-nil _ }) inv.ended (omega arith))

  -- a policy that says hardware has patience left
  patient : (c : Cause) → c ≢ Changed → kit.policy.next c me.head.hardware_aborts ≡ mode.Hardware → me.head.hardware_aborts < kit.policy.patience
  patient c ne e =
      ⊎_elim (λ (lt : me.head.hardware_aborts < kit.policy.patience). lt) (λ (ge : kit.policy.patience ≤ me.head.hardware_aborts). cc (law.software_from_patience c me.head.hardware_aborts ne ge)) (cases_lt me.head.hardware_aborts kit.policy.patience)

  stays-hardware : (s : State) → next_mode kit.policy.next me.head.hardware_aborts s ≡ mode.Hardware → me.head.hardware_aborts < kit.policy.patience
  stays-hardware Idle e = cc
  stays-hardware Hardware e = cc
  stays-hardware Software e = cc
  stays-hardware (Aborted Conflict) e = patient Conflict (λ q. cc) e
  stays-hardware (Aborted Capacity) e = patient Capacity (λ q. cc) e
  stays-hardware (Aborted Lock) e = patient Lock (λ q. cc) e
  stays-hardware (Aborted Other) e = patient Other (λ q. cc) e
  stays-hardware (Aborted Changed) e = cc
  stays-hardware WritingBack e = cc

  pub keep-again : is_aborted me.head.state ≡ true → is_odd m.sequence ≡ false → Keeps kit start l h Again (with_answer granted.Begun (admitted_again kit.policy b h))
  keep-again aborted even =
      let n = length l.closes in
      let o = inv.heads h me at in
      let down = o.aborted aborted in
      let going = o.going (aborted-going me.head.state aborted) in
      let plain = going-plain me.head.state (aborted-going me.head.state aborted) in
      let bound : (l.pages h).attempts + 1 ≤ most_attempts kit.policy.patience (closes_of_others l.closes h (l.pages h).since n) = omega (arith, down.under, down.budget, o.attempts) in
      by_mode (again_mode kit.policy b h) (λ d. Keeps kit start l h Again (with_answer granted.Begun (becomes b h (Ok d) (begin d (present_snapshot b.table) (head_at b h)))))
      (λ e. keep-alone kit start _ b bounds lists h lt b.table.sequence b.table.commits b.table.opened (begin mode.Hardware (present_snapshot b.table) (head_at b h)) b.cells b.reads b.writes (untouched b bounds lists h lt)
      (quiet_at kit start m l inv h me at _ (λ o. o) _ _ _ l.ended struck-same
      (λ k ne. turned-other l.pages h _ k ne) (turned-here l.pages h _)
      (record {
        attempts = ap (λ x. x + 1) o.attempts;
        since = o.since;
        mark = refl;
        going = λ _. going;
        live = λ _. record { words = λ c. refl; puts = λ xs. refl; some = refl; apart = tt; reads = λ xs a. All-nil (AgreesAt xs); latest = λ c. refl; unclosed = refl };
        hardware = λ _. record { valid = All-nil (AgreesAt m.cells); under = stays-hardware me.head.state e; budget = omega (arith, down.budget) };
        software = λ e. wrong e;
        aborted = λ e. wrong e;
      })
      plain refl (λ o. wrong (sym even ∙ o))
      (λ k it there ne hm hi hf. (All-nil (λ s. meets kit s.cell it.reads ≡ false), all_true (λ s. meets kit s.cell [] ≡ false) (λ s. refl) it.writes))
      (All-cons (Explained l.closes start) (l.pages h).attempt l.past (inv.present h) inv.past) (record { prefix = n; is_prefix = omega arith; has_earlier = omega arith; explains = All-nil _; own_place = λ q e. cc; own_reads = All-nil _ }) inv.ended bound))
      (λ _. keep-alone kit start _ b bounds lists h lt b.table.sequence b.table.commits b.table.opened (begin mode.Software (present_snapshot b.table) (head_at b h)) b.cells b.reads b.writes (untouched b bounds lists h lt)
      (quiet_at kit start m l inv h me at _ (λ o. o) _ _ _ l.ended struck-same
      (λ k ne. turned-other l.pages h _ k ne) (turned-here l.pages h _)
      (record {
        attempts = ap (λ x. x + 1) o.attempts;
        since = o.since;
        mark = refl;
        going = λ _. going;
        live = λ _. record { words = λ c. refl; puts = λ xs. refl; some = refl; apart = tt; reads = λ xs a. All-nil (AgreesAt xs); latest = λ c. refl; unclosed = refl };
        hardware = λ e. wrong e;
        software =
            λ _. record {
              even = even;
              low-S = omega arith;
              low-C = omega arith;
              valid = λ _ _. All-nil (AgreesAt m.cells);
              p = n;
              before = omega arith;
              within = omega arith;
              valid-then = All-nil (AgreesAt (cells_after (take n l.closes) start));
              since = o.since;
              under = down.under;
              budget = omega (arith, down.budget);
            };
        aborted = λ e. wrong e;
      })
      plain refl (λ _. refl) (λ k it there ne hm. wrong hm)
      (All-cons (Explained l.closes start) (l.pages h).attempt l.past (inv.present h) inv.past) (record { prefix = n; is_prefix = omega arith; has_earlier = omega arith; explains = All-nil _; own_place = λ q e. cc; own_reads = All-nil _ }) inv.ended bound))
