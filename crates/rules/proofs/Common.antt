-- What several calls share: when the sequence number is even, what validation gives, and an abort in a head's own call.
use Rattle.std.specs.Prelude.{All}
use mathlib.Core.Path.{◌≡◌, refl, sym, ap, subst, ◌∙◌}
use mathlib.Core.List.{List, map}
use mathlib.Core.Bool.{Bool, true, false, ◌&&◌, ◌||◌, cond}
use mathlib.Core.Logic.{⊎_elim}
use Prim.Native.Nat.{ℕ, ◌+◌, ◌-◌, ◌≤◌, ◌<◌}
use native.Mathlib.Omega.{arith}
use lib.Dec.{eqb}
use lib.ListN.{length, set, take, drop, take-append-drop}
use Rattle.std.specs.List.{slice_get, filter, list_any, list_all}
use Rattle.std.proofs.lemmas.Bool.{eqb-true, cond-false, or_cases, or_parts, and_parts, cases_lt}
use Rattle.std.proofs.lemmas.List.{take_all, drop-drop}
use Rattle.std.proofs.lemmas.List.Elements.{All-drop}
use Rattle.std.specs.declared.option.Option.TheVariants.{Some}
use Rattle.parts.specs.declared.types.Cause.{Cause}
use Rattle.parts.specs.declared.types.Cause.TheVariants.{Conflict, Changed}
use Rattle.rules.specs.declared.types.State.{State}
use Rattle.rules.specs.declared.types.State.TheVariants.{Hardware, Aborted}
use Rattle.rules.specs.RunLaws.{Agrees}
use Rattle.rules.specs.Kit.{Kit}
use Rattle.rules.proofs.Lawful.{Lawful}
use Rattle.rules.specs.Heads.{is_hardware, is_software, is_aborted}
use Rattle.rules.specs.Logs.{holds}
use Rattle.rules.specs.Bench.{Bench, hit_by_loads, is_odd, is_current, is_valid, cells_validated}
use Rattle.rules.proofs.Seats.{Seat, Rig, view, seat_of, abort_seat, meets, loaded}
use Rattle.rules.specs.History.{History, cells_after, is_other, closes_of_others}
use Rattle.rules.proofs.Basics.{by-test, wrong}
use Rattle.rules.proofs.LogLaws.{check-agrees, agrees-check}
use Rattle.rules.proofs.HistoryLaws.{after-append, after-quiet, count-charge}
use Rattle.rules.proofs.Invariant.{Inv}
use Rattle.rules.proofs.Frames.{struck-same, struck-hit, head-aborts, hardware-not-writing}
use Rattle.rules.proofs.Turns.{quiet_at, going-plain, running-going, software-running}

pub gate : (y x : Bool) → (y && x) ≡ false → y ≡ true → x ≡ false
gate true x e t = e
gate false x e t = wrong t

pub software-not-hardware : (s : State) → is_software s ≡ true → is_hardware s ≡ false
software-not-hardware Hardware e = wrong e
software-not-hardware s e = refl

pub running-not-aborted : (s : State) → (is_hardware s || is_software s) ≡ true → is_aborted s ≡ false
running-not-aborted (Aborted c) e = wrong e
running-not-aborted s e = refl

module _ {W : Type 0} (kit : Kit W) where
  -- a head that loads leave in hardware has no cell of their lines in its write log
  pub survives : (cs : List ℕ) (it : Seat W) → is_hardware it.head.state ≡ true → is_hardware (loaded kit cs it).head.state ≡ true → list_any (λ c. meets kit c it.writes) cs ≡ false
  survives cs it hardware still =
      by-test (list_any (λ c. meets kit c it.writes) cs)
      (λ b. is_hardware (cond (is_hardware it.head.state && b) (abort_seat Conflict it) it).head.state ≡ true → b ≡ false)
      (λ _ e. wrong (subst (λ t. is_hardware (cond (t && true) (abort_seat Conflict it) it).head.state ≡ true) hardware e)) (λ _ e. refl) still

module _ {W : Type 0} (kit : Kit W) (law : Lawful kit) (start : List W) (b : Bench W) (l : History W) (inv : Inv kit start (view b) l) (h : ℕ) (at : slice_get (view b).heads h ≡ Some (seat_of b h)) where
  abbrev m : Rig W
  m = view b

  abbrev me : Seat W
  me = seat_of b h

  -- while a head is in hardware the sequence number is even
  pub hardware-even : is_hardware me.head.state ≡ true → is_odd m.sequence ≡ false
  hardware-even hardware = by-test (is_odd m.sequence) (λ b. is_odd m.sequence ≡ b → b ≡ false) (λ _ e. wrong (sym ((inv.lone e).no-hardware h me at) ∙ hardware)) (λ _ _. refl) refl

  -- and then the cells are those after all closes
  pub settled-all : is_odd m.sequence ≡ false → m.cells ≡ cells_after (take (length l.closes) l.closes) start
  settled-all even = (inv.calm even).settled ∙ ap (λ cs. cells_after cs start) (sym (take_all (length l.closes) l.closes (omega arith)))

  -- a software head that goes on has valid reads
  pub sound-valid : is_software me.head.state ≡ true → is_valid kit.memory b h ≡ true → Agrees m.cells me.reads
  sound-valid software e =
      ⊎_elim
      (λ (f : is_current kit.memory b h ≡ true).
      let both = and_parts (eqb me.head.snapshot.sequence m.sequence) (eqb me.head.snapshot.commits m.commits) f in
      ((inv.heads h me at).software software).valid (eqb-true me.head.snapshot.sequence m.sequence both.0) (eqb-true me.head.snapshot.commits m.commits both.1))
      (λ (c : list_all (holds kit.memory.same b.cells) me.reads ≡ true). check-agrees kit law b.cells me.reads c)
      (or_cases (is_current kit.memory b h) (list_all (holds kit.memory.same b.cells) me.reads) e)

  -- a software head aborts only after a close with writes of another head
  pub charged : (software : is_software me.head.state ≡ true) → is_odd m.sequence ≡ false → is_valid kit.memory b h ≡ false
      → me.head.attempts ≤ me.head.hardware_aborts + closes_of_others l.closes h (l.pages h).since (length l.closes)
  charged software even unsound =
      let o = inv.heads h me at in
      let s = o.software software in
      let p = s.p in
      let since = (l.pages h).since in
      let going = o.going (running-going me.head.state (software-running me.head.state software)) in
      let others : All (λ x. eqb h x.head ≡ false) (drop p l.closes) =
      subst (λ i. All (λ x. eqb h x.head ≡ false) (drop i l.closes)) (omega (arith, s.since))
      (subst (All (λ x. eqb h x.head ≡ false)) (drop-drop (p - since) since l.closes) (All-drop (λ x. eqb h x.head ≡ false) (p - since) (drop since l.closes) going)) in
      let one : 1 ≤ length (filter (is_other h) (drop p l.closes)) =
      ⊎_elim (λ (lt : 0 < length (filter (is_other h) (drop p l.closes))). lt)
      (λ (le : length (filter (is_other h) (drop p l.closes)) ≤ 0).
      let none : length (filter (is_other h) (drop p l.closes)) ≡ 0 = omega arith in
      let now : cells_after (take p l.closes) start ≡ m.cells =
      sym (after-quiet h (drop p l.closes) (cells_after (take p l.closes) start) others none) ∙ sym (after-append (take p l.closes) (drop p l.closes) start)
      ∙ ap (λ cs. cells_after cs start) (take-append-drop p l.closes) ∙ sym (inv.calm even).settled in
      let valid : Agrees m.cells me.reads = subst (λ xs. Agrees xs me.reads) now s.valid-then in
      wrong (sym (or_parts (is_current kit.memory b h) (list_all (holds kit.memory.same b.cells) me.reads) unsound).1 ∙ agrees-check kit law b.cells me.reads valid))
      (cases_lt 0 (length (filter (is_other h) (drop p l.closes)))) in
      let more = count-charge l.closes h since p s.since s.within one in
      omega (arith, s.budget)

  -- a software head whose validation fails
  pub changed : is_software me.head.state ≡ true → is_odd m.sequence ≡ false → is_valid kit.memory b h ≡ false
      → Inv kit start (record { heads = set (map (loaded kit (cells_validated kit.memory b h)) m.heads) h (abort_seat Changed me); sequence = m.sequence; commits = m.commits; cells = m.cells }) l
  changed software even unsound =
      let o = inv.heads h me at in
      let s = o.software software in
      let running = software-running me.head.state software in
      let plain = going-plain me.head.state (running-going me.head.state running) in
      let budget = charged software even unsound in
      let aborts : cond (is_hardware me.head.state) (me.head.hardware_aborts + 1) me.head.hardware_aborts ≡ me.head.hardware_aborts = cond-false (is_hardware me.head.state) (me.head.hardware_aborts + 1) me.head.hardware_aborts (software-not-hardware me.head.state software) in
      quiet_at kit start m l inv h me at (abort_seat Changed me) (loaded kit (cells_validated kit.memory b h)) l.pages (l.pages h) l.past l.ended
      (struck-hit (hit_by_loads kit.memory.line (cells_validated kit.memory b h))) (λ k ne. refl) refl
      (record {
        attempts = o.attempts;
        since = o.since;
        mark = o.mark ∙ plain;
        going = λ _. o.going (running-going me.head.state running);
        live = λ e. wrong e;
        hardware = λ e. wrong e;
        software = λ e. wrong e;
        aborted = λ _. record { under = omega (arith, s.under); budget = omega arith };
      })
      plain refl (λ _. refl) (λ k it there ne hm. wrong hm) inv.past (inv.present h) inv.ended (inv.bound h)

  -- a hardware head that aborts in its own call
  pub struck-self : (cause : Cause) → is_hardware me.head.state ≡ true
      → Inv kit start (record { heads = set (map (λ (o : Seat W). o) m.heads) h (abort_seat cause me); sequence = m.sequence; commits = m.commits; cells = m.cells }) l
  struck-self cause hardware =
      quiet_at kit start m l inv h me at (abort_seat cause me) (λ o. o) l.pages (l.pages h) l.past l.ended struck-same (λ k ne. refl) refl
      (head-aborts kit.policy.patience start m.sequence m.commits m.cells l.closes h me (l.pages h) cause hardware (inv.heads h me at))
      (hardware-not-writing me.head.state hardware) refl (λ _. refl) (λ k it there ne hm. wrong hm) inv.past (inv.present h) inv.ended (inv.bound h)
