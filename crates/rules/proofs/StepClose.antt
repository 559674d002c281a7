-- A granted close.
use Rattle.std.proofs.Common.{◌≡◌, ℕ, ◌+◌, ◌%◌, ◌<◌, ◌≤◌, Bool, true, false, not, ◌&&◌, ◌||◌, eqb, List, [], ◌∷◌, ◌++◌, map, length, set, Some, Ok, sym, refl, ap, ◌∙◌, subst, arith, All}
use Rattle.std.specs.List.{slice_get}
use Rattle.std.proofs.lemmas.Bool.{eqb-false, eq-eqb, ne_eqb, cond_both}
use Rattle.std.proofs.lemmas.List.{length-append, take-append-le}
use Rattle.std.proofs.lemmas.List.Elements.{All-weaker, All-cons, All-nil}
use Rattle.parts.specs.declared.types.Cause.TheVariants.{Changed}
use Rattle.parts.specs.declared.calls.Call.TheVariants.{Close}
use Rattle.rules.specs.declared.types.Closing.{Closing}
use Rattle.rules.specs.declared.types.Closing.TheVariants as closing
use Rattle.rules.specs.declared.types.Granted.TheVariants as granted
use Rattle.rules.specs.declared.types.Head.{Head}
use Rattle.rules.specs.declared.types.State.TheVariants.{Idle, WritingBack}
use Rattle.rules.specs.Kit.{Kit}
use Rattle.rules.proofs.Lawful.{Lawful}
use Rattle.rules.specs.Logs.{is_empty, put_in}
use Rattle.rules.specs.Heads.{is_hardware, is_software, is_aborted, is_writing_back, abort}
use Rattle.rules.specs.Bench.{Bench, head_at, present_snapshot, is_odd, is_valid, cells_validated, abort_if_hit, hit_by_loads, lock_out, bench}
use Rattle.rules.specs.Calls.{Outcome, becomes, hardware_close, software_close, admitted_close}
use Rattle.rules.specs.Answers.{with_answer}
use Rattle.rules.specs.Bounds.{InBounds}
use Rattle.rules.specs.History.{History, GrantedClose, EndedTransaction, Page, pages_with, cells_after, closes_of_others}
use Rattle.rules.specs.RunLaws.{Agrees, Explained, Bounded, most_attempts}
use Rattle.rules.proofs.Records.{with_numbers, become, wrote, resnap}
use Rattle.rules.proofs.Basics.{wrong, nth-set-same, nth-map-some, after-each, some-length}
use Rattle.rules.proofs.Admitted.{Sized}
use Rattle.rules.proofs.Seats.{Seat, Rig, view, seat_of, loaded, locked, map-map_at, seated}
use Rattle.rules.proofs.Views.{seat-there, untouched, conflict-seen, locks-seen}
use Rattle.rules.proofs.LogLaws.{agrees-put-in}
use Rattle.rules.proofs.HistoryLaws.{after-append, count-stable, count-grown, explained-grown, bounded-grown}
use Rattle.rules.proofs.Invariant.{HeadOk, Inv, Lone}
use Rattle.rules.proofs.Frames.{Struck, struck-same, struck-hit, struck-locked, struck-writing-back, locked-not-hardware, lone-kept, moving}
use Rattle.rules.proofs.Turns.{turned-here, turned-other, going-plain, running-going}
use Rattle.rules.proofs.Common.{gate, hardware-even, settled-all, sound-valid, changed}
use Rattle.rules.proofs.Keeping.{Keeps, keep-alone, keep-swept}

pub odd-next : (n : ℕ) → is_odd n ≡ false → is_odd (n + 1) ≡ true
odd-next n e = let ne = eqb-false (n % 2) 1 e in eq-eqb ((n + 1) % 2) 1 (omega arith)

pub none-empty : {X : Type 0} (xs : List X) → is_empty xs ≡ true → xs ≡ []
none-empty [] e = refl
none-empty (x ∷ xs) e = wrong e

module _ {W : Type 0} (kit : Kit W) (law : Lawful kit) (start : List W) (b : Bench W) (l : History W) (inv : Inv kit start (view b) l) (bounds : InBounds b.table) (lists : Sized b)
    (h : ℕ) (lt : h < b.table.head_count) (running : (is_hardware (head_at b h).state || is_software (head_at b h).state) ≡ true) where
  abbrev m : Rig W
  m = view b

  abbrev me : Seat W
  me = seat_of b h

  at : slice_get m.heads h ≡ Some me
  at = seat-there b bounds lists h lt

  abbrev Kept : Outcome Closing W → Type 0
  Kept o = Keeps kit start l h Close (with_answer granted.Closed o)

  abbrev n : ℕ
  n = length l.closes

  abbrev commit : GrantedClose W
  commit = record { head = h; writes = (l.pages h).attempt.writes }

  abbrev closes' : List (GrantedClose W)
  closes' = l.closes ++ (commit ∷ [])

  abbrev page' : Bool → Page W
  page' writing = record (l.pages h) { attempt = record (l.pages h).attempt { closed = Some n }; writing_back = writing }

  abbrev end : ℕ → EndedTransaction
  end told = record { head = h; since = (l.pages h).since; until = n; attempts = (l.pages h).attempts; told = Some told }

  abbrev l' : Bool → History W
  l' writing = record { closes = closes'; pages = pages_with l.pages h (page' writing); past = l.past; ended = end me.head.attempts ∷ l.ended }

  length' : length closes' ≡ n + 1
  length' = length-append l.closes (commit ∷ [])

  -- a head that has closed: nothing is asked of its logs
  closed-ok : (S C : ℕ) (cells : List W) (me' : Seat W) (writing : Bool) → me'.head.attempts ≡ me.head.attempts → writing ≡ is_writing_back me'.head.state
      → is_hardware me'.head.state ≡ false → is_software me'.head.state ≡ false → is_aborted me'.head.state ≡ false → HeadOk kit.policy.patience start S C cells closes' h me' (page' writing)
  closed-ok S C cells me' writing same mark nh ns nf =
      let o = inv.heads h me at in
      let len = length' in
      record {
        attempts = o.attempts ∙ sym same;
        since = omega (arith, o.since);
        mark = mark;
        going = λ e. wrong (sym (rw (nh, ns, nf)) ∙ e);
        live = λ e. wrong (sym (rw (nh, ns)) ∙ e);
        hardware = λ e. wrong (sym nh ∙ e);
        software = λ e. wrong (sym ns ∙ e);
        aborted = λ e. wrong (sym nf ∙ e);
      }

  other-head : (k : ℕ) → (k ≡ h → ⊥) → All (λ s. eqb k s.head ≡ false) (commit ∷ [])
  other-head k ne = All-cons (λ s. eqb k s.head ≡ false) commit [] (ne_eqb k h ne) (All-nil _)

  ended-ok : (writing : Bool) → All (Bounded (l' writing).closes kit.policy.patience) (l' writing).ended
  ended-ok writing =
      let o = inv.heads h me at in
      let stable = count-stable l.closes (commit ∷ []) h (l.pages h).since n (omega arith) in
      All-cons (Bounded (l' writing).closes kit.policy.patience) (end me.head.attempts) l.ended (omega (arith, inv.bound h), λ k e. cc)
      (All-weaker (Bounded l.closes kit.policy.patience) (Bounded (l' writing).closes kit.policy.patience) (λ x b. bounded-grown l.closes (commit ∷ []) kit.policy.patience x b) l.ended inv.ended)

  bound-ok : (l.pages h).attempts ≤ most_attempts kit.policy.patience (closes_of_others closes' h (l.pages h).since (length closes'))
  bound-ok = let more = count-grown l.closes (commit ∷ []) h (l.pages h).since in omega (arith, inv.bound h)

  -- all closes before its own explain an attempt whose reads are valid now
  explained-all : (writing : Bool) → is_odd m.sequence ≡ false → Agrees m.cells me.reads → Explained (l' writing).closes start (page' writing).attempt
  explained-all writing even valid =
      let x = inv.present h in
      let len = length' in
      record {
        prefix = n;
        has_earlier = omega (arith, x.has_earlier, x.is_prefix);
        is_prefix = omega arith;
        explains =
            subst (λ xs. Agrees xs (l.pages h).attempt.reads)
            (settled-all kit law start b l inv h at even ∙ ap (λ cs. cells_after cs start) (sym (take-append-le n l.closes (commit ∷ []) (omega arith))))
            (((inv.heads h me at).live running).reads m.cells valid);
        own_place = λ q e _. cc;
        own_reads = x.own_reads;
      }

  -- the log put into the cells is the commit put in after the closes
  committed-all : is_odd m.sequence ≡ false → put_in me.writes m.cells ≡ cells_after closes' start
  committed-all even =
      ap (put_in me.writes) (inv.calm even).settled ∙ ((inv.heads h me at).live running).puts (cells_after l.closes start) ∙ sym (after-append l.closes (commit ∷ []) start)

  keep-hardware : is_hardware me.head.state ≡ true → Kept (hardware_close kit.memory b h)
  keep-hardware hardware =
      let even = hardware-even kit law start b l inv h at hardware in
      let o = inv.heads h me at in
      let me' = seated me (become Idle (head_at b h)) in
      keep-alone kit start _ b bounds lists h lt b.table.sequence (b.table.commits + 1) b.table.opened (become Idle (head_at b h)) (put_in me.writes b.cells) b.reads b.writes (untouched b bounds lists h lt)
      (moving kit start m l inv h me me' (λ o. o) m.sequence (m.commits + 1) (put_in me.writes m.cells) (commit ∷ []) closes'
      (pages_with l.pages h (page' false)) (page' false) l.past (end me.head.attempts ∷ l.ended)
      at struck-same (λ k ne. turned-other l.pages h _ k ne) (turned-here l.pages h _) refl other-head (omega arith) (omega arith)
      (λ k it there ne hi _. agrees-put-in kit me.writes it.reads m.cells (inv.clear h k me it at there (λ q. ne (sym q)) hardware hi) ((inv.heads k it there).hardware hi).valid)
      (λ k it there s _ e. absurd (omega (arith, s.low-C)))
      (closed-ok m.sequence (m.commits + 1) (put_in me.writes m.cells) me' false refl refl refl refl refl)
      refl
      (λ _. record {
        settled = committed-all even;
        no-writing = after-each (λ (o : Seat W). o) m.heads h me' me at (λ k x. is_writing_back x.head.state ≡ false) refl (λ k y there ne. (inv.calm even).no-writing k y there);
      })
      (λ e. wrong (sym even ∙ e))
      inv.past (explained-all false even (o.hardware hardware).valid) (ended-ok false) bound-ok)

  keep-empty : is_software me.head.state ≡ true → is_empty me.writes ≡ true → Kept (becomes b h (Ok (closing.Complete (head_at b h).attempts)) (become Idle (head_at b h)))
  keep-empty software none =
      let o = inv.heads h me at in
      let linked = o.live running in
      let me' = seated me (become Idle (head_at b h)) in
      let x = inv.present h in
      let plain = going-plain me.head.state (running-going me.head.state running) in
      let same : cells_after closes' start ≡ cells_after l.closes start =
      after-append l.closes (commit ∷ []) start ∙ sym (linked.puts (cells_after l.closes start)) ∙ ap (λ ws. put_in ws (cells_after l.closes start)) (none-empty me.writes none) in
      keep-alone kit start _ b bounds lists h lt b.table.sequence b.table.commits b.table.opened (become Idle (head_at b h)) b.cells b.reads b.writes (untouched b bounds lists h lt)
      (moving kit start m l inv h me me' (λ o. o) m.sequence m.commits m.cells (commit ∷ []) closes'
      (pages_with l.pages h (page' false)) (page' false) l.past (end me.head.attempts ∷ l.ended)
      at struck-same (λ k ne. turned-other l.pages h _ k ne) (turned-here l.pages h _) refl other-head (omega arith) (omega arith)
      (λ k it there ne hi _. ((inv.heads k it there).hardware hi).valid)
      (λ k it there s e e'. s.valid e e')
      (closed-ok m.sequence m.commits m.cells me' false refl refl refl refl refl)
      refl
      (λ even. record {
        settled = (inv.calm even).settled ∙ sym same;
        no-writing = after-each (λ (o : Seat W). o) m.heads h me' me at (λ k x. is_writing_back x.head.state ≡ false) refl (λ k y there ne. (inv.calm even).no-writing k y there);
      })
      (λ e. subst (Lone _ m.cells) (sym same) (lone-kept m.heads m.cells (cells_after l.closes start) h me me' (λ o. o) at struck-same plain refl refl (inv.lone e)))
      inv.past
      (let g = explained-grown start l.closes closes' (commit ∷ []) (l.pages h).attempt refl x in
      record {
        prefix = g.prefix;
        has_earlier = g.has_earlier;
        is_prefix = g.is_prefix;
        explains = g.explains;
        own_place = λ q e some. wrong (sym some ∙ sym linked.some ∙ none);
        own_reads = g.own_reads;
      })
      (ended-ok false) bound-ok)

  keep-lock : is_software me.head.state ≡ true → is_empty me.writes ≡ false → is_odd m.sequence ≡ false → Kept (software_close kit.memory b h)
  keep-lock software some even =
      let o = inv.heads h me at in
      let x = become WritingBack (wrote 0 (resnap (present_snapshot b.table) (head_at b h))) in
      let me' = seated me x in
      let strike : ℕ → Head → Head = abort_if_hit b h (hit_by_loads kit.memory.line (cells_validated kit.memory b h)) in
      let f : Seat W → Seat W = λ o. locked (loaded kit (cells_validated kit.memory b h) o) in
      let struck : (o : Seat W) → Struck o (f o) = λ o. struck-locked o (loaded kit (cells_validated kit.memory b h) o) (struck-hit (hit_by_loads kit.memory.line (cells_validated kit.memory b h)) o) in
      cond_both (is_valid kit.memory b h) _ _ Kept
      (λ e.
      subst (λ hs. Inv kit start (view (bench (with_numbers b.table (set hs h x) (b.table.sequence + 1) b.table.commits b.table.opened) b.cells b.reads b.writes)) (l' true))
      (sym (map-map_at lock_out strike 0 b.table.heads))
      (keep-swept kit start _ b bounds lists h lt (b.table.sequence + 1) b.table.commits b.table.opened x b.cells b.reads b.writes
      (λ j y. lock_out (strike j y)) f (locks-seen b bounds lists h lt b.reads b.writes (untouched b bounds lists h lt) (hit_by_loads kit.memory.line (cells_validated kit.memory b h)))
      (moving kit start m l inv h me me' f (m.sequence + 1) m.commits m.cells (commit ∷ []) closes'
      (pages_with l.pages h (page' true)) (page' true) l.past (end me.head.attempts ∷ l.ended)
      at struck (λ k ne. turned-other l.pages h _ k ne) (turned-here l.pages h _) refl other-head (omega arith) (omega arith)
      (λ k it there ne hi hf. wrong (sym (locked-not-hardware (loaded kit (cells_validated kit.memory b h) it)) ∙ hf))
      (λ k it there s q _. absurd (omega (arith, s.low-S)))
      (closed-ok (m.sequence + 1) m.commits m.cells me' true refl refl refl refl refl)
      refl
      (λ q. wrong (sym q ∙ odd-next m.sequence even))
      (λ _. record {
        no-hardware = after-each f m.heads h me' me at (λ k x. is_hardware x.head.state ≡ false) refl (λ k y there ne. locked-not-hardware (loaded kit (cells_validated kit.memory b h) y));
        who = h;
        it = me';
        there = nth-set-same (map f m.heads) h me' (f me) (nth-map-some f m.heads h me at);
        is = refl;
        more = some-length me.writes some;
        settles = committed-all even;
        lone =
            after-each f m.heads h me' me at (λ k x. is_writing_back x.head.state ≡ true → k ≡ h) (λ _. refl)
            (λ k y there ne writing. wrong (sym ((inv.calm even).no-writing k y there) ∙ struck-writing-back y (f y) (struck y) writing));
      })
      inv.past (explained-all true even (sound-valid kit law start b l inv h at software e)) (ended-ok true) bound-ok)))
      (λ e.
      keep-swept kit start l b bounds lists h lt b.table.sequence b.table.commits b.table.opened (abort Changed (head_at b h)) b.cells b.reads b.writes
      strike (loaded kit (cells_validated kit.memory b h)) (conflict-seen b bounds lists h lt b.reads b.writes (untouched b bounds lists h lt) (hit_by_loads kit.memory.line (cells_validated kit.memory b h)))
      (changed kit law start b l inv h at software even e))

  pub keep-close : ((is_software me.head.state && not (is_empty me.writes)) && is_odd m.sequence) ≡ false → Kept (admitted_close kit.memory b h)
  keep-close calm =
      cond_both (is_hardware me.head.state) _ _ Kept (λ hardware. keep-hardware hardware)
      (λ rigid.
      let software : is_software me.head.state ≡ true = sym (ap (λ b. b || is_software me.head.state) rigid) ∙ running in
      cond_both (is_empty me.writes) _ _ Kept (λ none. keep-empty software none)
      (λ some. keep-lock software some (gate (is_software me.head.state && not (is_empty me.writes)) (is_odd m.sequence) calm (rw (software, some)))))
