-- A granted read.
use Rattle.std.proofs.Common.{◌≡◌, ℕ, ◌<◌, ◌≤◌, true, false, cond, not, ◌&&◌, ◌||◌, eqb, List, [], ◌∷◌, ◌++◌, map, length, set, Some, Ok, sym, refl, ap, ◌∙◌, subst, arith, Bool, zero, suc}
use Rattle.std.specs.List.{slice_get}
use Rattle.std.proofs.lemmas.Bool.{cond_both, or_parts}
use Rattle.parts.specs.declared.types.Cause.TheVariants.{Capacity, Changed}
use Rattle.parts.specs.declared.calls.Call.TheVariants.{Read}
use Rattle.rules.specs.declared.limits.TheConstants.{SLOTS}
use Rattle.rules.specs.declared.types.Granted.TheVariants as granted
use Rattle.rules.specs.declared.types.Head.{Head}
use Rattle.rules.specs.declared.types.Slot.{Slot}
use Rattle.rules.specs.Kit.{Kit}
use Rattle.rules.proofs.Lawful.{Lawful}
use Rattle.rules.specs.Logs.{slot, is_empty, names, word_for, note, lacks_room_for, put_in, log_of, slots_with}
use Rattle.rules.specs.Heads.{is_hardware, is_software, abort}
use Rattle.rules.specs.Bench.{Bench, head_at, present_snapshot, is_odd, is_valid, cells_validated, after_loads, abort_if_hit, hit_by_loads}
use Rattle.rules.specs.Calls.{Outcome, leaves, logged_or, with_word, notes_word, hardware_read, software_read, fits_read, admitted_read}
use Rattle.rules.specs.Answers.{with_answer}
use Rattle.rules.specs.Bounds.{InBounds}
use Rattle.rules.specs.History.{History, Page, pages_with, history_after, last_written, OwnRead}
use Rattle.rules.specs.RunLaws.{Agrees, Explained}
use Rattle.rules.proofs.Records.{resnap, read_more}
use Rattle.rules.proofs.Basics.{eqb-flip, by-option, wrong, any_none, all_both}
use Rattle.rules.proofs.Admitted.{Sized}
use Rattle.rules.proofs.Seats.{Seat, Rig, view, seat_of, seat_at, meets, loaded}
use Rattle.rules.proofs.Views.{head-bounds, seat-there, read-room, read_length, own-log, untouched, reads-laid, conflict-seen}
use Rattle.rules.proofs.LogLaws.{Distinct, word_none, word_some, agrees-noted, noted-reads, meets-noted, few-noted}
use Rattle.rules.proofs.HistoryLaws.{count-mono}
use Rattle.rules.proofs.Invariant.{Linked, Inv}
use Rattle.rules.proofs.Frames.{struck-same, struck-hit, hardware-not-software}
use Rattle.rules.proofs.Turns.{quiet_at, turned-here, turned-other, going-plain, running-going}
use Rattle.rules.proofs.Common.{gate, software-not-hardware, running-not-aborted, survives, hardware-even, settled-all, sound-valid, changed, struck-self}
use Rattle.rules.proofs.Keeping.{Keeps, keep-alone, keep-swept}
use Rattle.std.proofs.lemmas.List.Elements.{All-push}
use Rattle.std.proofs.lemmas.List.{map-id}

-- the attempt with one more word read from the cells, and of its own writes
abbrev more-read : {W : Type 0} → ℕ → W → Page W → Page W
more-read c w p = record p { attempt = record p.attempt { reads = p.attempt.reads ++ (slot c w ∷ []) } }

abbrev more-own : {W : Type 0} → ℕ → W → Page W → Page W
more-own c w p =
    record p { attempt = record p.attempt { own_reads = p.attempt.own_reads ++ (record { word = w; latest = last_written c p.attempt.writes } ∷ []) } }

-- putting what is there already
set-there : {X : Type 0} (xs : List X) (k : ℕ) (x : X) → slice_get xs k ≡ Some x → set (map (λ (x : X). x) xs) k x ≡ xs
set-there [] k x e = cc
set-there (y ∷ xs) zero x e = let is : y ≡ x = cc in rw (map-id xs, is) refl
set-there {X} (y ∷ xs) (suc k) x e = ap (λ (ys : List X). y ∷ ys) (set-there xs k x e)

-- by whether the attempt had written the cell
abbrev read-by : {W : Type 0} → Bool → ℕ → W → Page W → Page W
read-by own c w p = record p { attempt = cond own (more-own c w p).attempt (more-read c w p).attempt }

module _ {W : Type 0} (kit : Kit W) (law : Lawful kit) (start : List W) (b : Bench W) (l : History W) (inv : Inv kit start (view b) l) (bounds : InBounds b.table) (lists : Sized b)
    (h : ℕ) (lt : h < b.table.head_count) (c : ℕ) (running : (is_hardware (head_at b h).state || is_software (head_at b h).state) ≡ true) where
  abbrev m : Rig W
  m = view b

  abbrev me : Seat W
  me = seat_of b h

  at : slice_get m.heads h ≡ Some me
  at = seat-there b bounds lists h lt

  -- the history of a word that is read from the cells
  from-cells : (w : W) (r : Rig W) → names c me.writes ≡ false
      → Inv kit start r (record l { pages = pages_with l.pages h (more-read c w (l.pages h)) })
      → Inv kit start r (history_after l h (Read c) (Ok (granted.Word w)))
  from-cells w r none new =
      let linked = (inv.heads h me at).live running in
      subst (λ t. Inv kit start r (record l { pages = pages_with l.pages h (read-by t c w (l.pages h)) })) (sym (sym (linked.words c) ∙ none)) new

  linked-read : (w : W) (me' : Seat W) → slice_get m.cells c ≡ Some w → Agrees m.cells me.reads → me'.writes ≡ me.writes → me'.reads ≡ note c w me.reads
      → Linked me' (more-read c w (l.pages h)).attempt
  linked-read w me' here valid ws rs =
      let linked = (inv.heads h me at).live running in
      record {
        words = λ d. ap (names d) ws ∙ linked.words d;
        puts = λ xs. ap (λ log. put_in log xs) ws ∙ linked.puts xs;
        some = ap is_empty ws ∙ linked.some;
        apart = subst Distinct (sym ws) linked.apart;
        reads = λ xs a. noted-reads c w me.reads (l.pages h).attempt.reads m.cells here valid linked.reads xs (subst (Agrees xs) rs a);
        latest = λ d. ap (word_for d) ws ∙ linked.latest d;
        unclosed = linked.unclosed;
      }

  -- now explains what was read so far and this word
  explained-now : (w : W) → slice_get m.cells c ≡ Some w → is_odd m.sequence ≡ false → Agrees m.cells me.reads → Explained l.closes start (more-read c w (l.pages h)).attempt
  explained-now w here even valid =
      let linked = (inv.heads h me at).live running in
      let n = length l.closes in
      let old = inv.present h in
      record {
        prefix = n;
        has_earlier = omega (arith, old.has_earlier, old.is_prefix);
        is_prefix = omega arith;
        explains =
            subst (λ xs. Agrees xs ((l.pages h).attempt.reads ++ (slot c w ∷ []))) (settled-all kit law start b l inv h at even)
            (noted-reads c w me.reads (l.pages h).attempt.reads m.cells here valid linked.reads m.cells (agrees-noted c w me.reads m.cells here valid));
        own_place = λ q e. cc;
        own_reads = old.own_reads;
      }

  abbrev Kept : Outcome W W → Type 0
  Kept o = Keeps kit start l h (Read c) (with_answer granted.Word o)

  -- there is a slot for the word
  module _ (w : W) (room : lacks_room_for c me.reads ≡ false) where
    abbrev new : List (Slot W)
    new = note c w me.reads

    few : length new ≤ SLOTS
    few = few-noted c w me.reads (let q = read_length b bounds lists h lt in let r = (head-bounds b bounds lists h lt).reads in omega arith) room

    -- the head with the word note
    abbrev noted-seat : Head → Seat W
    noted-seat x = record { head = read_more (length new) x; reads = new; writes = me.writes }

    -- how the bench is seen once the word is note, after loads of these cells
    note-kept : (cs : List ℕ) (x : Head) (l' : History W) → x.write_count ≡ (head_at b h).write_count
        → Inv kit start (record { heads = set (map (loaded kit cs) m.heads) h (noted-seat x); sequence = m.sequence; commits = m.commits; cells = m.cells }) l'
        → Inv kit start (view (notes_word kit.memory b h (after_loads kit.memory b h cs) x c w).left) l'
    note-kept cs x l' ws i =
        let after = slots_with h new b.reads in
        let mine : seat_at after b.writes h (read_more (length new) x) ≡ noted-seat x =
        ap (λ (r : List (Slot W)). record { head = read_more (length new) x; reads = r; writes = log_of h x.write_count b.writes }) (own-log b bounds lists h lt b.reads new (read-room b bounds lists h lt) few)
        ∙ ap (λ n. record { head = read_more (length new) x; reads = new; writes = log_of h n b.writes }) ws in
        keep-swept kit start l' b bounds lists h lt b.table.sequence b.table.commits b.table.opened (read_more (length new) x) b.cells after b.writes
        (abort_if_hit b h (hit_by_loads kit.memory.line cs)) (loaded kit cs)
        (conflict-seen b bounds lists h lt after b.writes (reads-laid b bounds lists h lt new few) (hit_by_loads kit.memory.line cs))
        (subst (λ (s : Seat W). Inv kit start (record { heads = set (map (loaded kit cs) m.heads) h s; sequence = m.sequence; commits = m.commits; cells = m.cells }) l') (sym mine) i)

  keep-software : (w : W) → lacks_room_for c me.reads ≡ false → slice_get m.cells c ≡ Some w → names c me.writes ≡ false → is_software me.head.state ≡ true → is_odd m.sequence ≡ false
      → Kept (software_read kit.memory b h c w)
  keep-software w room here none software even =
      let o = inv.heads h me at in
      let s = o.software software in
      let n = length l.closes in
      let plain = going-plain me.head.state (running-going me.head.state running) in
      let x = resnap (present_snapshot b.table) (head_at b h) in
      let me' = noted-seat w room x in
      let cs = cells_validated kit.memory b h ++ (c ∷ []) in
      cond_both (is_valid kit.memory b h) _ _ Kept
      (λ e.
      let valid = sound-valid kit law start b l inv h at software e in
      let valid' : Agrees m.cells (note c w me.reads) = agrees-noted c w me.reads m.cells here valid in
      let mono = count-mono l.closes h (l.pages h).since s.p n s.within in
      from-cells w (view (notes_word kit.memory b h (after_loads kit.memory b h cs) x c w).left) none
      (note-kept w room cs x _ refl
      (quiet_at kit start m l inv h me at me' (loaded kit cs) _ (more-read c w (l.pages h)) l.past l.ended
      (struck-hit (hit_by_loads kit.memory.line cs)) (λ k ne. turned-other l.pages h _ k ne) (turned-here l.pages h _)
      (record {
        attempts = o.attempts;
        since = o.since;
        mark = o.mark;
        going = o.going;
        live = λ _. linked-read w me' here valid refl refl;
        hardware = λ q. wrong (sym (software-not-hardware me.head.state software) ∙ q);
        software =
            λ _. record {
              even = even;
              low-S = omega arith;
              low-C = omega arith;
              valid = λ _ _. valid';
              p = n;
              before = omega (arith, s.before, s.within);
              within = omega arith;
              valid-then = subst (λ xs. Agrees xs (note c w me.reads)) (settled-all kit law start b l inv h at even) valid';
              since = o.since;
              under = s.under;
              budget = omega (arith, s.budget);
            };
        aborted = λ q. wrong (sym (running-not-aborted me.head.state running) ∙ q);
      })
      plain plain (λ _. software-not-hardware me.head.state software) (λ k it there ne hm. wrong (sym (software-not-hardware me.head.state software) ∙ hm))
      inv.past (explained-now w here even valid) inv.ended (inv.bound h))))
      (λ e.
      keep-swept kit start l b bounds lists h lt b.table.sequence b.table.commits b.table.opened (abort Changed (head_at b h)) b.cells b.reads b.writes
      (abort_if_hit b h (hit_by_loads kit.memory.line (cells_validated kit.memory b h))) (loaded kit (cells_validated kit.memory b h))
      (conflict-seen b bounds lists h lt b.reads b.writes (untouched b bounds lists h lt) (hit_by_loads kit.memory.line (cells_validated kit.memory b h)))
      (changed kit law start b l inv h at software even e))

  keep-hardware : (w : W) → lacks_room_for c me.reads ≡ false → slice_get m.cells c ≡ Some w → names c me.writes ≡ false → is_hardware me.head.state ≡ true → Kept (hardware_read kit.memory b h c w)
  keep-hardware w room here none hardware =
      let o = inv.heads h me at in
      let k = o.hardware hardware in
      let even = hardware-even kit law start b l inv h at hardware in
      let plain = going-plain me.head.state (running-going me.head.state running) in
      let me' = noted-seat w room (head_at b h) in
      cond_both (fits_read kit.memory b h c) _ _ Kept
      (λ e.
      from-cells w (view (notes_word kit.memory b h (after_loads kit.memory b h (c ∷ [])) (head_at b h) c w).left) none
      (note-kept w room (c ∷ []) (head_at b h) _ refl
      (quiet_at kit start m l inv h me at me' (loaded kit (c ∷ [])) _ (more-read c w (l.pages h)) l.past l.ended
      (struck-hit (hit_by_loads kit.memory.line (c ∷ []))) (λ k ne. turned-other l.pages h _ k ne) (turned-here l.pages h _)
      (record {
        attempts = o.attempts;
        since = o.since;
        mark = o.mark;
        going = o.going;
        live = λ _. linked-read w me' here k.valid refl refl;
        hardware = λ _. record { valid = agrees-noted c w me.reads m.cells here k.valid; under = k.under; budget = k.budget };
        software = λ q. wrong (sym (hardware-not-software me.head.state hardware) ∙ q);
        aborted = λ q. wrong (sym (running-not-aborted me.head.state running) ∙ q);
      })
      plain plain (λ q. wrong (sym even ∙ q))
      (λ j it there ne hm hi hf.
      let gone = (or_parts (meets kit c it.writes) false (survives kit (c ∷ []) it hi hf)).0 in (
        inv.clear h j me it at there (λ q. ne (sym q)) hardware hi,
        all_both (λ s. meets kit s.cell me.reads ≡ false) (λ s. eqb (kit.memory.line c) (kit.memory.line s.cell) ≡ false) (λ s. meets kit s.cell (note c w me.reads) ≡ false)
            (λ s a b. meets-noted kit s.cell c w me.reads a (eqb-flip (kit.memory.line c) (kit.memory.line s.cell) b))
            it.writes (inv.clear j h it me there at ne hi hardware) (any_none (λ s. eqb (kit.memory.line c) (kit.memory.line s.cell)) it.writes gone),
      ))
      inv.past (explained-now w here even k.valid) inv.ended (inv.bound h))))
      (λ e.
      keep-alone kit start l b bounds lists h lt b.table.sequence b.table.commits b.table.opened (abort Capacity (head_at b h)) b.cells b.reads b.writes (untouched b bounds lists h lt)
      (struck-self kit law start b l inv h at Capacity hardware))

  -- an own write that is read leaves the rig as it is
  keep-own : (w : W) → word_for c me.writes ≡ Some w → Inv kit start m (record l { pages = pages_with l.pages h (more-own c w (l.pages h)) })
  keep-own w e =
      let o = inv.heads h me at in
      let linked = o.live running in
      let x = inv.present h in
      let plain = going-plain me.head.state (running-going me.head.state running) in
      subst (λ hs. Inv kit start (record m { heads = hs }) (record l { pages = pages_with l.pages h (more-own c w (l.pages h)) }))
      (set-there m.heads h me at)
      (quiet_at kit start m l inv h me at me (λ o. o) _ (more-own c w (l.pages h)) l.past l.ended
      struck-same (λ k ne. turned-other l.pages h _ k ne) (turned-here l.pages h _)
      (record {
        attempts = o.attempts;
        since = o.since;
        mark = o.mark;
        going = o.going;
        live =
            λ _. record {
              words = linked.words;
              puts = linked.puts;
              some = linked.some;
              apart = linked.apart;
              reads = linked.reads;
              latest = linked.latest;
              unclosed = linked.unclosed;
            };
        hardware = λ q. let k = o.hardware q in record { valid = k.valid; under = k.under; budget = k.budget };
        software =
            λ q.
            let s = o.software q in
            record {
              even = s.even;
              low-S = s.low-S;
              low-C = s.low-C;
              valid = s.valid;
              p = s.p;
              before = s.before;
              within = s.within;
              valid-then = s.valid-then;
              since = s.since;
              under = s.under;
              budget = s.budget;
            };
        aborted = λ q. wrong (sym (running-not-aborted me.head.state running) ∙ q);
      })
      plain plain (λ odd. (inv.lone odd).no-hardware h me at) (λ k it there ne hm hi hf. (inv.clear h k me it at there (λ q. ne (sym q)) hm hi, inv.clear k h it me there at ne hi hm))
      inv.past
      (record {
        prefix = x.prefix;
        has_earlier = x.has_earlier;
        is_prefix = x.is_prefix;
        explains = x.explains;
        own_place = x.own_place;
        own_reads = All-push (λ (r : OwnRead W). r.latest ≡ Some r.word) _ _ x.own_reads (sym (linked.latest c) ∙ e);
      })
      inv.ended (inv.bound h))

  pub keep-read : ((is_software me.head.state && not (names c me.writes)) && is_odd m.sequence) ≡ false → (not (names c me.writes) && lacks_room_for c me.reads) ≡ false
      → Kept (admitted_read kit.memory b h c)
  keep-read calm room =
      by-option (word_for c me.writes)
      (λ o. Kept (logged_or o (λ w. leaves b (Ok w) b.table) (with_word (slice_get m.cells c) b from_cell)))
      (λ e.
      let none = word_none c me.writes e in
      let few = gate (not (names c me.writes)) (lacks_room_for c me.reads) room (ap not none) in
      by-option (slice_get m.cells c) (λ o. Kept (with_word o b from_cell)) (λ _. inv)
      (λ w here. cond_both (is_hardware me.head.state) _ _ Kept
      (λ hardware. keep-hardware w few here none hardware)
      (λ rigid.
      let software : is_software me.head.state ≡ true = sym (ap (λ t. t || is_software me.head.state) rigid) ∙ running in
      keep-software w few here none software (gate (is_software me.head.state && not (names c me.writes)) (is_odd m.sequence) calm (rw (software, none))))))
      (λ w e.
      let linked = (inv.heads h me at).live running in
      subst (λ t. Inv kit start (view b) (record l { pages = pages_with l.pages h (read-by t c w (l.pages h)) }))
      (sym (sym (linked.words c) ∙ word_some c w me.writes e)) (keep-own w e))
    where
      from_cell : W → Outcome W W
      from_cell w = cond (is_hardware (head_at b h).state) (hardware_read kit.memory b h c w) (software_read kit.memory b h c w)
