-- A granted write.
use Rattle.std.proofs.Common.{◌≡◌, ℕ, ◌+◌, ◌<◌, ◌≤◌, true, false, cond, ◌&&◌, ◌||◌, eqb, List, [], ◌∷◌, ◌++◌, map, length, set, Some, Ok, sym, refl, ap, ◌∙◌, subst, arith, Option}
use Rattle.std.specs.List.{slice_get}
use Rattle.std.proofs.lemmas.Bool.{cond_both, cond-true}
use Rattle.parts.specs.declared.types.Cause.TheVariants.{Conflict, Capacity}
use Rattle.parts.specs.declared.calls.Call.TheVariants.{Write}
use Rattle.rules.specs.declared.limits.TheConstants.{SLOTS}
use Rattle.rules.specs.declared.types.Granted.TheVariants as granted
use Rattle.rules.specs.declared.types.Head.{Head}
use Rattle.rules.specs.declared.types.Slot.{Slot}
use Rattle.rules.specs.Kit.{Kit}
use Rattle.rules.proofs.Lawful.{Lawful}
use Rattle.rules.specs.Logs.{slot, put, lacks_room_for, slots_with}
use Rattle.rules.specs.Heads.{is_hardware, is_software, abort}
use Rattle.rules.specs.Bench.{Bench, head_at, abort_if_hit, hit_by_store}
use Rattle.rules.specs.Calls.{Outcome, puts_word, fits_write, hardware_write, admitted_write}
use Rattle.rules.specs.Answers.{with_answer}
use Rattle.rules.specs.Bounds.{InBounds}
use Rattle.rules.specs.History.{History, Page, history_after}
use Rattle.rules.specs.RunLaws.{Explained}
use Rattle.rules.proofs.Records.{wrote_more}
use Rattle.rules.proofs.Basics.{by-test, wrong}
use Rattle.rules.proofs.Admitted.{Sized}
use Rattle.rules.proofs.Seats.{Seat, Rig, view, seat_of, seat_at, abort_seat, meets, claimed}
use Rattle.rules.proofs.Views.{head-bounds, seat-there, write-room, write-length, own-log, writes-laid, conflict-seen}
use Rattle.rules.proofs.LogLaws.{names-put, names-push, put-in-put, put-in-append, some-put, some-push, distinct-put, all-put, few-put, word_for-put, last_written-push}
use Rattle.rules.proofs.Invariant.{Linked, Inv}
use Rattle.rules.proofs.Frames.{struck-same, struck-hit, hardware-not-software}
use Rattle.rules.proofs.Turns.{quiet_at, turned-here, turned-other, going-plain, running-going}
use Rattle.rules.proofs.Common.{software-not-hardware, running-not-aborted, hardware-even}
use Rattle.rules.proofs.Keeping.{Keeps, keep-alone, keep-swept}

-- the attempt with one more write
abbrev more-written : {W : Type 0} → ℕ → W → Page W → Page W
more-written c w p = record p { attempt = record p.attempt { writes = p.attempt.writes ++ (slot c w ∷ []) } }

module _ {W : Type 0} (kit : Kit W) where
  -- a head that a store leaves in hardware has no cell of the line in its read log
  unclaimed : (c : ℕ) (it : Seat W) → is_hardware it.head.state ≡ true → is_hardware (claimed kit c it).head.state ≡ true → meets kit c it.reads ≡ false
  unclaimed c it hardware still =
      by-test (meets kit c it.reads)
      (λ b. is_hardware (cond (is_hardware it.head.state && (b || meets kit c it.writes)) (abort_seat Conflict it) it).head.state ≡ true → b ≡ false)
      (λ _ e. wrong (subst (λ t. is_hardware (cond (t && true) (abort_seat Conflict it) it).head.state ≡ true) hardware e)) (λ _ e. refl) still

module _ {W : Type 0} (kit : Kit W) (law : Lawful kit) (start : List W) (b : Bench W) (l : History W) (inv : Inv kit start (view b) l) (bounds : InBounds b.table) (lists : Sized b)
    (h : ℕ) (lt : h < b.table.head_count) (c : ℕ) (w : W) (running : (is_hardware (head_at b h).state || is_software (head_at b h).state) ≡ true)
    (room : lacks_room_for c (seat_of b h).writes ≡ false) where
  abbrev m : Rig W
  m = view b

  abbrev me : Seat W
  me = seat_of b h

  at : slice_get m.heads h ≡ Some me
  at = seat-there b bounds lists h lt

  -- the write log and the head with the word put in
  abbrev new : List (Slot W)
  new = put c w me.writes

  abbrev x : Head
  x = wrote_more (length new) (head_at b h)

  abbrev me' : Seat W
  me' = record { head = x; reads = me.reads; writes = new }

  few : length new ≤ SLOTS
  few = few-put c w me.writes (let q = write-length b bounds lists h lt in let r = (head-bounds b bounds lists h lt).writes in omega arith) room

  mine : seat_at b.reads (slots_with h new b.writes) h x ≡ me'
  mine = ap (λ (r : List (Slot W)). record { head = x; reads = me.reads; writes = r }) (own-log b bounds lists h lt b.writes new (write-room b bounds lists h lt) few)

  abbrev Kept : Outcome (Unit {0}) W → Type 0
  Kept o = Keeps kit start l h (Write c w) (with_answer (λ _. granted.Done) o)

  linked-write : Linked me' (more-written c w (l.pages h)).attempt
  linked-write =
      let linked = (inv.heads h me at).live running in
      let ws = (l.pages h).attempt.writes in
      record {
        words = λ d. names-put d c w me.writes ∙ ap (λ b. b || eqb d c) (linked.words d) ∙ sym (names-push d c w ws);
        puts = λ xs. put-in-put c w me.writes xs linked.apart ∙ ap (λ ys. set ys c w) (linked.puts xs) ∙ sym (put-in-append ws (slot c w ∷ []) xs);
        some = some-put c w me.writes ∙ sym (some-push (slot c w) ws);
        apart = distinct-put c w me.writes linked.apart;
        reads = linked.reads;
        latest = λ d. word_for-put d c w me.writes ∙ ap (λ (o : Option W). cond (eqb d c) (Some w) o) (linked.latest d) ∙ sym (last_written-push d c w ws);
        unclosed = linked.unclosed;
      }

  explained-write : Explained l.closes start (more-written c w (l.pages h)).attempt
  explained-write =
      let x = inv.present h in
      record {
        prefix = x.prefix;
        has_earlier = x.has_earlier;
        is_prefix = x.is_prefix;
        explains = x.explains;
        own_place = λ q e. cc ((inv.heads h me at).live running).unclosed;
        own_reads = x.own_reads;
      }

  keep-software : is_software me.head.state ≡ true → Kept (puts_word kit.memory b h (Ok tt) new b.table.heads x)
  keep-software software =
      let o = inv.heads h me at in
      let s = o.software software in
      let plain = going-plain me.head.state (running-going me.head.state running) in
      keep-alone kit start _ b bounds lists h lt b.table.sequence b.table.commits b.table.opened x b.cells b.reads (slots_with h new b.writes) (writes-laid b bounds lists h lt new few)
      (subst (λ (s : Seat W). Inv kit start (record { heads = set (map (λ (o : Seat W). o) m.heads) h s; sequence = m.sequence; commits = m.commits; cells = m.cells }) (history_after l h (Write c w) (Ok granted.Done))) (sym mine)
      (quiet_at kit start m l inv h me at me' (λ o. o) _ (more-written c w (l.pages h)) l.past l.ended
      struck-same (λ k ne. turned-other l.pages h _ k ne) (turned-here l.pages h _)
      (record {
        attempts = o.attempts;
        since = o.since;
        mark = o.mark;
        going = o.going;
        live = λ _. linked-write;
        hardware = λ q. wrong (sym (software-not-hardware me.head.state software) ∙ q);
        software =
            λ _. record {
              even = s.even;
              low-S = s.low-S;
              low-C = s.low-C;
              valid = s.valid;
              p = s.p;
              before = s.before;
              within = s.within;
              valid-then = s.valid-then;
              since = s.since;
              under = s.under;
              budget = s.budget;
            };
        aborted = λ q. wrong (sym (running-not-aborted me.head.state running) ∙ q);
      })
      plain plain (λ _. software-not-hardware me.head.state software) (λ k it there ne hm. wrong (sym (software-not-hardware me.head.state software) ∙ hm))
      inv.past explained-write inv.ended (inv.bound h)))

  keep-hardware : is_hardware me.head.state ≡ true → Kept (hardware_write kit.memory b h c new x)
  keep-hardware hardware =
      let o = inv.heads h me at in
      let k = o.hardware hardware in
      let even = hardware-even kit law start b l inv h at hardware in
      let plain = going-plain me.head.state (running-going me.head.state running) in
      let aborts : cond (is_hardware me.head.state) (me.head.hardware_aborts + 1) me.head.hardware_aborts ≡ me.head.hardware_aborts + 1 = cond-true (is_hardware me.head.state) (me.head.hardware_aborts + 1) me.head.hardware_aborts hardware in
      cond_both (fits_write kit.memory b h new x) _ _ Kept
      (λ e.
      keep-swept kit start _ b bounds lists h lt b.table.sequence b.table.commits b.table.opened x b.cells b.reads (slots_with h new b.writes)
      (abort_if_hit b h (hit_by_store kit.memory.line c)) (claimed kit c) (conflict-seen b bounds lists h lt b.reads (slots_with h new b.writes) (writes-laid b bounds lists h lt new few) (hit_by_store kit.memory.line c))
      (subst (λ (s : Seat W). Inv kit start (record { heads = set (map (claimed kit c) m.heads) h s; sequence = m.sequence; commits = m.commits; cells = m.cells }) (history_after l h (Write c w) (Ok granted.Done))) (sym mine)
      (quiet_at kit start m l inv h me at me' (claimed kit c) _ (more-written c w (l.pages h)) l.past l.ended
      (struck-hit (hit_by_store kit.memory.line c)) (λ k ne. turned-other l.pages h _ k ne) (turned-here l.pages h _)
      (record {
        attempts = o.attempts;
        since = o.since;
        mark = o.mark;
        going = o.going;
        live = λ _. linked-write;
        hardware = λ _. record { valid = k.valid; under = k.under; budget = k.budget };
        software = λ q. wrong (sym (hardware-not-software me.head.state hardware) ∙ q);
        aborted = λ q. wrong (sym (running-not-aborted me.head.state running) ∙ q);
      })
      plain plain (λ q. wrong (sym even ∙ q))
      (λ j it there ne hm hi hf. (
        all-put (λ s. meets kit s.cell it.reads ≡ false) c w me.writes (unclaimed kit c it hi hf) (inv.clear h j me it at there (λ q. ne (sym q)) hardware hi),
        inv.clear j h it me there at ne hi hardware,
      ))
      inv.past explained-write inv.ended (inv.bound h))))
      (λ e.
      keep-alone kit start _ b bounds lists h lt b.table.sequence b.table.commits b.table.opened (abort Capacity x) b.cells b.reads (slots_with h new b.writes) (writes-laid b bounds lists h lt new few)
      (quiet_at kit start m l inv h me at (abort_seat Capacity me') (λ o. o) l.pages (l.pages h) l.past l.ended
      struck-same (λ k ne. refl) refl
      (record {
        attempts = o.attempts;
        since = o.since;
        mark = o.mark ∙ plain;
        going = λ _. o.going (running-going me.head.state running);
        live = λ q. wrong q;
        hardware = λ q. wrong q;
        software = λ q. wrong q;
        aborted = λ _. record { under = omega (arith, k.under); budget = omega (arith, k.budget) };
      })
      plain refl (λ _. refl) (λ k it there ne hm. wrong hm) inv.past (inv.present h) inv.ended (inv.bound h)))

  pub keep-write : Kept (admitted_write kit.memory b h c w)
  keep-write =
      cond_both (is_hardware me.head.state) _ _ Kept (λ hardware. keep-hardware hardware)
      (λ rigid. keep-software (sym (ap (λ t. t || is_software me.head.state) rigid) ∙ running))
