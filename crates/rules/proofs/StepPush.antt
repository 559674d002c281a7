-- A granted push.
use Rattle.std.proofs.Common.{◌≡◌, ℕ, ◌+◌, ◌-◌, ◌%◌, ◌<◌, Bool, true, false, cond, eqb, leb, List, [], map, length, take, drop, set, Some, sym, refl, ap, ◌∙◌, subst, append-nil, arith, take-append-drop}
use Rattle.std.specs.List.{slice_get}
use Rattle.std.proofs.lemmas.Option.{same_Some}
use Rattle.std.proofs.lemmas.Bool.{eqb-true, eq-eqb, ne_eqb, leb-true, leb-false}
use Rattle.std.proofs.lemmas.List.{drop-drop, drop_all}
use Rattle.std.proofs.lemmas.List.Elements.{All-nil}
use Rattle.parts.specs.declared.calls.Call.TheVariants.{Push}
use Rattle.rules.specs.declared.types.Granted.TheVariants as granted
use Rattle.rules.specs.declared.types.Head.{Head}
use Rattle.rules.specs.declared.types.Slot.{Slot}
use Rattle.rules.specs.declared.types.State.TheVariants.{Idle, WritingBack}
use Rattle.rules.specs.Kit.{Kit}
use Rattle.rules.proofs.Lawful.{Lawful}
use Rattle.rules.specs.Logs.{put_in}
use Rattle.rules.specs.Heads.{is_hardware, is_writing_back}
use Rattle.rules.specs.Bench.{Bench, head_at, is_odd}
use Rattle.rules.specs.Calls.{admitted_push}
use Rattle.rules.specs.Answers.{with_answer}
use Rattle.rules.specs.Bounds.{InBounds}
use Rattle.rules.specs.History.{History, Page, pages_with, cells_after}
use Rattle.rules.proofs.Records.{become, wrote}
use Rattle.rules.proofs.Basics.{by-test, wrong, nth-set-same, nth-map-some, after-each}
use Rattle.rules.proofs.Admitted.{Sized}
use Rattle.rules.proofs.Seats.{Seat, Rig, view, seat_of, seated}
use Rattle.rules.proofs.Views.{seat-there, untouched}
use Rattle.rules.proofs.LogLaws.{put-in-append}
use Rattle.rules.proofs.Invariant.{Inv, Lone}
use Rattle.rules.proofs.Frames.{struck-same, moving}
use Rattle.rules.proofs.Turns.{turned-here, turned-other}
use Rattle.rules.proofs.Keeping.{Keeps, keep-alone}

pub even-next : (n : ℕ) → is_odd n ≡ true → is_odd (n + 1) ≡ false
even-next n e = let h = eqb-true (n % 2) 1 e in ne_eqb ((n + 1) % 2) 1 (omega arith)

-- one slot pushed and the rest put in is the whole put in
pub push-settles : {W : Type 0} (p : ℕ) (ws : List (Slot W)) (xs : List W) → put_in (drop (p + 1) ws) (put_in (take 1 (drop p ws)) xs) ≡ put_in (drop p ws) xs
push-settles p ws xs =
    ap (λ r. put_in r (put_in (take 1 (drop p ws)) xs)) (sym (drop-drop 1 p ws)) ∙ sym (put-in-append (take 1 (drop p ws)) (drop 1 (drop p ws)) xs)
    ∙ ap (λ r. put_in r xs) (take-append-drop 1 (drop p ws))

pub left-none : (a b : ℕ) → eqb (a - b) 0 ≡ leb a b
left-none a b =
    by-test (leb a b) (λ t. leb a b ≡ t → eqb (a - b) 0 ≡ t) (λ _ e. let le = leb-true a b e in eq-eqb (a - b) 0 (omega arith))
    (λ _ e. let gt = leb-false a b e in ne_eqb (a - b) 0 (λ q. omega arith)) refl

module _ {W : Type 0} (kit : Kit W) (law : Lawful kit) (start : List W) (b : Bench W) (l : History W) (inv : Inv kit start (view b) l) (bounds : InBounds b.table) (lists : Sized b)
    (h : ℕ) (lt : h < b.table.head_count) (writing : is_writing_back (head_at b h).state ≡ true) where
  abbrev m : Rig W
  m = view b

  abbrev me : Seat W
  me = seat_of b h

  at : slice_get m.heads h ≡ Some me
  at = seat-there b bounds lists h lt

  odd_now : is_odd m.sequence ≡ true
  odd_now = by-test (is_odd m.sequence) (λ b. is_odd m.sequence ≡ b → b ≡ true) (λ _ _. refl) (λ _ e. wrong (sym ((inv.calm e).no-writing h me at) ∙ writing)) refl

  lone : Lone m.heads m.cells (cells_after l.closes start)
  lone = inv.lone odd_now

  who-me : h ≡ lone.who
  who-me = lone.lone h me at writing

  it-me : lone.it ≡ me
  it-me = same_Some lone.it me (sym lone.there ∙ ap (slice_get m.heads) (sym who-me) ∙ at)

  abbrev rest : List W
  rest = put_in (take 1 (drop me.head.written me.writes)) m.cells

  settles : put_in (drop (me.head.written + 1) me.writes) rest ≡ cells_after l.closes start
  settles =
      push-settles me.head.written me.writes m.cells
      ∙ subst (λ x. put_in (drop x.head.written x.writes) m.cells ≡ cells_after l.closes start) it-me lone.settles

  abbrev freed-page : Page W
  freed-page = record (l.pages h) { writing_back = false }

  abbrev freed : History W
  freed = record l { pages = pages_with l.pages h freed-page }

  others-plain : (k : ℕ) (y : Seat W) → slice_get m.heads k ≡ Some y → (k ≡ h → ⊥) → is_writing_back y.head.state ≡ false
  others-plain k y there ne =
      by-test (is_writing_back y.head.state) (λ b. is_writing_back y.head.state ≡ b → b ≡ false) (λ _ e. absurd (ne (lone.lone k y there e ∙ sym who-me))) (λ _ _. refl) refl

  last-push : leb (length me.writes) (me.head.written + 1) ≡ true
      → Inv kit start (record { heads = set (map (λ (o : Seat W). o) m.heads) h (seated me (become Idle (wrote (me.head.written + 1) (head_at b h)))); sequence = m.sequence + 1; commits = m.commits; cells = rest }) freed
  last-push last =
      let o = inv.heads h me at in
      let le = leb-true (length me.writes) (me.head.written + 1) last in
      let me' = seated me (become Idle (wrote (me.head.written + 1) (head_at b h))) in
      moving kit start m l inv h me me' (λ o. o) (m.sequence + 1) m.commits rest [] l.closes
      (pages_with l.pages h freed-page) freed-page l.past l.ended
      at struck-same (λ k ne. turned-other l.pages h _ k ne) (turned-here l.pages h _) (sym (append-nil l.closes)) (λ k ne. All-nil (λ s. eqb k s.head ≡ false)) (omega arith) (omega arith)
      (λ k it there ne hi _. wrong (sym (lone.no-hardware k it there) ∙ hi))
      (λ k it there s e _. absurd (omega (arith, s.low-S)))
      (record { attempts = o.attempts; since = o.since; mark = refl; going = λ e. wrong e; live = λ e. wrong e; hardware = λ e. wrong e; software = λ e. wrong e; aborted = λ e. wrong e })
      refl
      (λ _. record {
        settled = ap (λ r. put_in r rest) (sym (drop_all (me.head.written + 1) me.writes le)) ∙ settles;
        no-writing = after-each (λ (o : Seat W). o) m.heads h me' me at (λ k x. is_writing_back x.head.state ≡ false) refl others-plain;
      })
      (λ e. wrong (sym (even-next m.sequence odd_now) ∙ e))
      inv.past (inv.present h) inv.ended (inv.bound h)

  next-push : leb (length me.writes) (me.head.written + 1) ≡ false
      → Inv kit start (record { heads = set (map (λ (o : Seat W). o) m.heads) h (seated me (become WritingBack (wrote (me.head.written + 1) (head_at b h)))); sequence = m.sequence; commits = m.commits; cells = rest }) l
  next-push more =
      let o = inv.heads h me at in
      let lt = leb-false (length me.writes) (me.head.written + 1) more in
      let me' = seated me (become WritingBack (wrote (me.head.written + 1) (head_at b h))) in
      moving kit start m l inv h me me' (λ o. o) m.sequence m.commits rest [] l.closes
      l.pages (l.pages h) l.past l.ended
      at struck-same (λ k ne. refl) refl (sym (append-nil l.closes)) (λ k ne. All-nil (λ s. eqb k s.head ≡ false)) (omega arith) (omega arith)
      (λ k it there ne hi _. wrong (sym (lone.no-hardware k it there) ∙ hi))
      (λ k it there s e _. wrong (sym s.even ∙ ap is_odd e ∙ odd_now))
      (record { attempts = o.attempts; since = o.since; mark = o.mark ∙ writing; going = λ e. wrong e; live = λ e. wrong e; hardware = λ e. wrong e; software = λ e. wrong e; aborted = λ e. wrong e })
      refl
      (λ e. wrong (sym e ∙ odd_now))
      (λ _. record {
        no-hardware = after-each (λ (o : Seat W). o) m.heads h me' me at (λ k x. is_hardware x.head.state ≡ false) refl (λ k y there ne. lone.no-hardware k y there);
        who = h;
        it = me';
        there = nth-set-same (map (λ (o : Seat W). o) m.heads) h me' me (nth-map-some (λ (o : Seat W). o) m.heads h me at);
        is = refl;
        more = lt;
        settles = settles;
        lone =
            after-each (λ (o : Seat W). o) m.heads h me' me at (λ k x. is_writing_back x.head.state ≡ true → k ≡ h) (λ _. refl)
            (λ k y there ne e. lone.lone k y there e ∙ sym who-me);
      })
      inv.past (inv.present h) inv.ended (inv.bound h)

  pub keep-push : Keeps kit start l h Push (with_answer granted.SlotsLeft (admitted_push b h))
  keep-push =
      let last = leb (length me.writes) (me.head.written + 1) in
      let x : Bool → Head = λ t. become (cond t Idle WritingBack) (wrote (me.head.written + 1) (head_at b h)) in
      subst (λ t. Inv kit start (view (admitted_push b h).left) (cond t freed l)) (sym (left-none (length me.writes) (me.head.written + 1)))
      (keep-alone kit start (cond last freed l) b bounds lists h lt (cond last (b.table.sequence + 1) b.table.sequence) b.table.commits b.table.opened (x last) rest b.reads b.writes (untouched b bounds lists h lt)
      (by-test last
      (λ t. Inv kit start
      (record { heads = set (map (λ (o : Seat W). o) m.heads) h (seated me (x t)); sequence = cond t (m.sequence + 1) m.sequence; commits = m.commits; cells = rest })
      (cond t freed l))
      last-push next-push))
