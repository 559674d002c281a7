-- How the invariant passes over what a call does to the other heads, and over growing closes.
use Rattle.std.proofs.Common.{◌≡◌, ℕ, ◌+◌, ◌≤◌, Bool, true, false, cond, ◌||◌, eqb, ◌⊎◌, List, ◌++◌, map, length, drop, set, Some, sym, refl, ap, ◌∙◌, subst, inl, inr, ⊎_elim, arith, All}
use Rattle.std.specs.List.{slice_get}
use Rattle.std.proofs.lemmas.Bool.{cases_eq, or_left, and_parts, cond-true}
use Rattle.std.proofs.lemmas.List.{take-append-le, drop-append-le, length-append}
use Rattle.std.proofs.lemmas.List.Elements.{All-append, All-weaker, All-nil}
use Rattle.parts.specs.declared.types.Cause.{Cause}
use Rattle.parts.specs.declared.types.Cause.TheVariants.{Conflict, Lock}
use Rattle.rules.specs.declared.types.Slot.{Slot}
use Rattle.rules.specs.declared.types.State.{State}
use Rattle.rules.specs.declared.types.State.TheVariants.{Software, WritingBack}
use Rattle.rules.specs.Kit.{Kit}
use Rattle.rules.specs.Heads.{is_hardware, is_software, is_aborted, is_writing_back}
use Rattle.rules.specs.Bench.{is_odd, is_locked_out}
use Rattle.rules.proofs.Seats.{Seat, Rig, abort_seat, struck_by, locked}
use Rattle.rules.specs.History.{History, GrantedClose, Attempt, EndedTransaction, Page, cells_after, closes_of_others}
use Rattle.rules.specs.RunLaws.{Agrees, Explained, Bounded, most_attempts}
use Rattle.rules.proofs.Basics.{by-test, wrong, after-each, nth-set-other, nth-map-some}
use Rattle.rules.proofs.Sweeps.{locked-out}
use Rattle.rules.proofs.HistoryLaws.{count-stable, count-grown, explained-grown}
use Rattle.rules.proofs.Invariant.{SoftwareOk, HeadOk, Lone, Calm, Clear, Inv}

pub hardware-not-writing : (s : State) → is_hardware s ≡ true → is_writing_back s ≡ false
hardware-not-writing WritingBack e = wrong e
hardware-not-writing s e = refl

pub hardware-not-software : (s : State) → is_hardware s ≡ true → is_software s ≡ false
hardware-not-software Software e = wrong e
hardware-not-software s e = refl

module _ {W : Type 0} where
  -- what a call may do to another head: nothing, or abort it in hardware
  abbrev pub Struck : Seat W → Seat W → Type 0
  Struck o o' = (o' ≡ o) ⊎ ((cause : Cause) × (is_hardware o.head.state ≡ true) × (o' ≡ abort_seat cause o))

  pub struck-same : (o : Seat W) → Struck o o
  struck-same o = inl refl

  struck-by : (b : Bool) (cause : Cause) (o : Seat W) → (b ≡ true → is_hardware o.head.state ≡ true) → Struck o (cond b (abort_seat cause o) o)
  struck-by true cause o h = inr (cause, h refl, refl)
  struck-by false cause o h = inl refl

  pub struck-hit : (hit : List (Slot W) → List (Slot W) → Bool) (o : Seat W) → Struck o (struck_by hit o)
  struck-hit hit o = struck-by _ Conflict o (λ e. (and_parts (is_hardware o.head.state) (hit o.reads o.writes) e).0)

  pub struck-locked : (o o' : Seat W) → Struck o o' → Struck o (locked o')
  struck-locked o o' (inl e) = subst (λ x. Struck o (locked x)) (sym e) (struck-by (is_locked_out o.head.state) Lock o (locked-out o.head.state))
  struck-locked o o' (inr f) = inr (f.0, f.1, ap locked f.2)

  -- once the lock is taken no head is in hardware
  pub locked-not-hardware : (o : Seat W) → is_hardware (locked o).head.state ≡ false
  locked-not-hardware o =
      by-test (is_hardware o.head.state) (λ b. is_hardware o.head.state ≡ b → is_hardware (cond b (abort_seat Lock o) o).head.state ≡ false) (λ _ _. refl) (λ _ e. e) refl

  -- a head that is in hardware afterwards is as it was
  pub struck-hardware : (o o' : Seat W) → Struck o o' → is_hardware o'.head.state ≡ true → o' ≡ o
  struck-hardware o o' (inl e) h = e
  struck-hardware o o' (inr f) h = wrong (subst (λ x. is_hardware x.head.state ≡ true) f.2 h)

  pub struck-writing : (o o' : Seat W) → Struck o o' → is_writing_back o.head.state ≡ true → o' ≡ o
  struck-writing o o' (inl e) h = e
  struck-writing o o' (inr f) h = wrong (sym (hardware-not-writing o.head.state f.1) ∙ h)

  pub struck-writing-back : (o o' : Seat W) → Struck o o' → is_writing_back o'.head.state ≡ true → is_writing_back o.head.state ≡ true
  struck-writing-back o o' (inl e) h = subst (λ x. is_writing_back x.head.state ≡ true) e h
  struck-writing-back o o' (inr f) h = wrong (subst (λ x. is_writing_back x.head.state ≡ true) f.2 h)

  pub struck-plain : (o o' : Seat W) → Struck o o' → is_writing_back o.head.state ≡ false → is_writing_back o'.head.state ≡ false
  struck-plain o o' (inl e) h = subst (λ x. is_writing_back x.head.state ≡ false) (sym e) h
  struck-plain o o' (inr f) h = subst (λ x. is_writing_back x.head.state ≡ false) (sym f.2) refl

  pub struck-software : (o o' : Seat W) → Struck o o' → is_hardware o.head.state ≡ false → o' ≡ o
  struck-software o o' (inl e) h = e
  struck-software o o' (inr f) h = wrong (sym h ∙ f.1)

module _ {W : Type 0} (patience : ℕ) (start : List W) (S C : ℕ) (cells : List W) (closes : List (GrantedClose W)) where
  pub head-aborts : (k : ℕ) (o : Seat W) (page : Page W) (cause : Cause) → is_hardware o.head.state ≡ true
      → HeadOk patience start S C cells closes k o page → HeadOk patience start S C cells closes k (abort_seat cause o) page
  head-aborts k o page cause e ok =
      let hardware = ok.hardware e in
      let aborts : cond (is_hardware o.head.state) (o.head.hardware_aborts + 1) o.head.hardware_aborts ≡ o.head.hardware_aborts + 1 = cond-true (is_hardware o.head.state) (o.head.hardware_aborts + 1) o.head.hardware_aborts e in
      record {
        attempts = ok.attempts;
        since = ok.since;
        mark = ok.mark ∙ hardware-not-writing o.head.state e;
        going = λ _. ok.going (or_left (is_hardware o.head.state) (is_software o.head.state || is_aborted o.head.state) e);
        live = λ q. wrong q;
        hardware = λ q. wrong q;
        software = λ q. wrong q;
        aborted = λ _. record { under = omega (arith, hardware.under); budget = omega (arith, hardware.budget) };
      }

  pub head-struck : (k : ℕ) (o o' : Seat W) (page : Page W) → Struck o o'
      → HeadOk patience start S C cells closes k o page → HeadOk patience start S C cells closes k o' page
  head-struck k o o' page (inl e) ok = subst (λ x. HeadOk patience start S C cells closes k x page) (sym e) ok
  head-struck k o o' page (inr f) ok =
      subst (λ x. HeadOk patience start S C cells closes k x page) (sym f.2) (head-aborts k o page f.0 f.1 ok)

  -- more closes, of other heads, and other cells
  pub head-moved : (S' C' : ℕ) (cells' : List W) (new : List (GrantedClose W)) (k : ℕ) (o : Seat W) (page : Page W)
      → All (λ s. eqb k s.head ≡ false) new → S ≤ S' → C ≤ C'
      → (is_hardware o.head.state ≡ true → Agrees cells' o.reads)
      → (SoftwareOk patience start S C cells closes k o page → o.head.snapshot.sequence ≡ S' → o.head.snapshot.commits ≡ C' → Agrees cells' o.reads)
      → HeadOk patience start S C cells closes k o page → HeadOk patience start S' C' cells' (closes ++ new) k o page
  head-moved S' C' cells' new k o page apart le_s le_c hardware software ok =
      let grown = count-grown closes new k page.since in
      let len = length-append closes new in
      record {
        attempts = ok.attempts;
        since = omega (arith, ok.since);
        mark = ok.mark;
        going =
            λ e. subst (λ cs. All (λ s. eqb k s.head ≡ false) cs) (sym (drop-append-le page.since closes new ok.since))
            (All-append (λ s. eqb k s.head ≡ false) (drop page.since closes) new (ok.going e) apart);
        live = ok.live;
        hardware = λ e. let h = ok.hardware e in record { valid = hardware e; under = h.under; budget = omega (arith, h.budget) };
        software =
            λ e. let s = ok.software e in
            let stable = count-stable closes new k page.since s.p s.within in
            record {
              even = s.even;
              low-S = omega (arith, s.low-S);
              low-C = omega (arith, s.low-C);
              valid = software s;
              p = s.p;
              before = s.before;
              within = omega (arith, s.within);
              valid-then = subst (λ cs. Agrees (cells_after cs start) o.reads) (sym (take-append-le s.p closes new s.within)) s.valid-then;
              since = s.since;
              under = s.under;
              budget = omega (arith, s.budget);
            };
        aborted = λ e. let f = ok.aborted e in record { under = f.under; budget = omega (arith, f.budget) };
      }

-- a call of a head that does not write back, before or after
module _ {W : Type 0} (heads : List (Seat W)) (cells now : List W) (h : ℕ) (me me' : Seat W) (f : Seat W → Seat W)
    (at : slice_get heads h ≡ Some me) (struck : (o : Seat W) → Struck o (f o)) where
  pub calm-kept : is_writing_back me'.head.state ≡ false → Calm heads cells now → Calm (set (map f heads) h me') cells now
  calm-kept plain' c = record {
    settled = c.settled;
    no-writing =
        after-each f heads h me' me at (λ k x. is_writing_back x.head.state ≡ false) plain' (λ k y there ne. struck-plain y (f y) (struck y) (c.no-writing k y there));
  }

  pub lone-kept : is_writing_back me.head.state ≡ false → is_writing_back me'.head.state ≡ false → is_hardware me'.head.state ≡ false → Lone heads cells now → Lone (set (map f heads) h me') cells now
  lone-kept plain plain' rigid c =
      let apart : c.who ≡ h → ⊥ =
      λ q. let same : c.it ≡ me = cc (ap (slice_get heads) q) in
      wrong (sym plain ∙ subst (λ x. is_writing_back x.head.state ≡ true) same c.is) in
      record {
        no-hardware =
            after-each f heads h me' me at (λ k x. is_hardware x.head.state ≡ false) rigid
            (λ k y there ne. let software : is_hardware y.head.state ≡ false = c.no-hardware k y there in
            subst (λ z. is_hardware z.head.state ≡ false) (sym (struck-software y (f y) (struck y) software)) software);
        who = c.who;
        it = c.it;
        there =
            nth-set-other (map f heads) h c.who me' (λ q. apart (sym q)) ∙ nth-map-some f heads c.who c.it c.there
            ∙ ap Some (struck-writing c.it (f c.it) (struck c.it) c.is);
        is = c.is;
        more = c.more;
        settles = c.settles;
        lone =
            after-each f heads h me' me at (λ k x. is_writing_back x.head.state ≡ true → k ≡ c.who) (λ writing. wrong (sym plain' ∙ writing))
            (λ k y there ne writing. c.lone k y there (struck-writing-back y (f y) (struck y) writing));
      }

-- a call that leaves the two shared numbers, the cells and the closes as they are
module _ {W : Type 0} (kit : Kit W) (start : List W) (m : Rig W) (l : History W) (inv : Inv kit start m l) where
  pub quiet : (h : ℕ) (me me' : Seat W) (f : Seat W → Seat W) (pages : ℕ → Page W) (past : List (Attempt W)) (ended : List EndedTransaction)
      → slice_get m.heads h ≡ Some me
      → ((o : Seat W) → Struck o (f o))
      → ((k : ℕ) → (k ≡ h → ⊥) → pages k ≡ l.pages k)
      → HeadOk kit.policy.patience start m.sequence m.commits m.cells l.closes h me' (pages h)
      → is_writing_back me.head.state ≡ false
      → is_writing_back me'.head.state ≡ false
      → (is_odd m.sequence ≡ true → is_hardware me'.head.state ≡ false)
      → ((k : ℕ) (it : Seat W) → slice_get m.heads k ≡ Some it → (k ≡ h → ⊥) → is_hardware me'.head.state ≡ true → is_hardware it.head.state ≡ true
      → is_hardware (f it).head.state ≡ true → Clear kit me' it × Clear kit it me')
      → All (Explained l.closes start) past
      → Explained l.closes start (pages h).attempt
      → All (Bounded l.closes kit.policy.patience) ended
      → ((pages h).attempts ≤ most_attempts kit.policy.patience (closes_of_others l.closes h (pages h).since (length l.closes)))
      → Inv kit start (record { heads = set (map f m.heads) h me'; sequence = m.sequence; commits = m.commits; cells = m.cells })
      (record { closes = l.closes; pages = pages; past = past; ended = ended })
  quiet h me me' f pages past ended at struck others ok plain plain' calm-hardware clear pasts presents endeds bounds = record {
    calm = λ e. calm-kept m.heads m.cells _ h me me' f at struck plain' (inv.calm e);
    lone = λ e. lone-kept m.heads m.cells _ h me me' f at struck plain plain' (calm-hardware e) (inv.lone e);
    heads =
        after-each f m.heads h me' me at (λ k x. HeadOk kit.policy.patience start m.sequence m.commits m.cells l.closes k x (pages k)) ok
        (λ k y there ne.
        subst (HeadOk kit.policy.patience start m.sequence m.commits m.cells l.closes k (f y)) (sym (others k ne))
        (head-struck kit.policy.patience start m.sequence m.commits m.cells l.closes k y (f y) (l.pages k) (struck y) (inv.heads k y there)));
    clear =
        λ j k x y atj atk ne hx hy.
        after-each f m.heads h me' me at
        (λ j x. (k : ℕ) (y : Seat W) → slice_get (set (map f m.heads) h me') k ≡ Some y → (j ≡ k → ⊥) → is_hardware x.head.state ≡ true → is_hardware y.head.state ≡ true → Clear kit x y)
        (after-each f m.heads h me' me at (λ k y. (h ≡ k → ⊥) → is_hardware me'.head.state ≡ true → is_hardware y.head.state ≡ true → Clear kit me' y)
        (λ n _ _. absurd (n refl))
        (λ k o there n _ hm ho. let same = struck-hardware o (f o) (struck o) ho in
        let was : is_hardware o.head.state ≡ true = subst (λ z. is_hardware z.head.state ≡ true) same ho in
        subst (Clear kit me') (sym same) (clear k o there n hm was ho).0))
        (λ j o there n.
        after-each f m.heads h me' me at (λ k y. (j ≡ k → ⊥) → is_hardware (f o).head.state ≡ true → is_hardware y.head.state ≡ true → Clear kit (f o) y)
        (λ _ ho hm. let same = struck-hardware o (f o) (struck o) ho in
        let was : is_hardware o.head.state ≡ true = subst (λ z. is_hardware z.head.state ≡ true) same ho in
        subst (λ z. Clear kit z me') (sym same) (clear j o there n hm was ho).1)
        (λ k o' there' n' ne' ho ho'.
        let same = struck-hardware o (f o) (struck o) ho in
        let same' = struck-hardware o' (f o') (struck o') ho' in
        let was : is_hardware o.head.state ≡ true = subst (λ z. is_hardware z.head.state ≡ true) same ho in
        let was' : is_hardware o'.head.state ≡ true = subst (λ z. is_hardware z.head.state ≡ true) same' ho' in
        subst (λ z. Clear kit z (f o')) (sym same) (subst (Clear kit o) (sym same') (inv.clear j k o o' there there' ne' was was'))))
        j x atj k y atk ne hx hy;
    past = pasts;
    present =
        λ k. ⊎_elim (λ (e : k ≡ h). subst (λ i. Explained l.closes start (pages i).attempt) (sym e) presents)
        (λ (ne : k ≡ h → ⊥). subst (λ p. Explained l.closes start p.attempt) (sym (others k ne)) (inv.present k)) (cases_eq k h);
    ended = endeds;
    bound =
        λ k.
        ⊎_elim
        (λ (e : k ≡ h). subst (λ i. (pages i).attempts ≤ most_attempts kit.policy.patience (closes_of_others l.closes i (pages i).since (length l.closes))) (sym e) bounds)
        (λ (ne : k ≡ h → ⊥). subst (λ p. p.attempts ≤ most_attempts kit.policy.patience (closes_of_others l.closes k p.since (length l.closes))) (sym (others k ne)) (inv.bound k))
        (cases_eq k h);
  }

  -- a call that changes one of them; its head is not in hardware afterwards
  pub moving : (h : ℕ) (me me' : Seat W) (f : Seat W → Seat W) (S C : ℕ) (cells : List W) (new closes : List (GrantedClose W))
      (pages : ℕ → Page W) (page : Page W) (past : List (Attempt W)) (ended : List EndedTransaction)
      → slice_get m.heads h ≡ Some me
      → ((o : Seat W) → Struck o (f o))
      → ((k : ℕ) → (k ≡ h → ⊥) → pages k ≡ l.pages k)
      → pages h ≡ page
      → closes ≡ l.closes ++ new
      → ((k : ℕ) → (k ≡ h → ⊥) → All (λ s. eqb k s.head ≡ false) new)
      → m.sequence ≤ S
      → m.commits ≤ C
      → ((k : ℕ) (o : Seat W) → slice_get m.heads k ≡ Some o → (k ≡ h → ⊥) → is_hardware o.head.state ≡ true → is_hardware (f o).head.state ≡ true → Agrees cells o.reads)
      → ((k : ℕ) (o : Seat W) → slice_get m.heads k ≡ Some o → SoftwareOk kit.policy.patience start m.sequence m.commits m.cells l.closes k o (l.pages k)
      → o.head.snapshot.sequence ≡ S → o.head.snapshot.commits ≡ C → Agrees cells o.reads)
      → HeadOk kit.policy.patience start S C cells closes h me' page
      → is_hardware me'.head.state ≡ false
      → (is_odd S ≡ false → Calm (set (map f m.heads) h me') cells (cells_after closes start))
      → (is_odd S ≡ true → Lone (set (map f m.heads) h me') cells (cells_after closes start))
      → All (Explained l.closes start) past
      → Explained closes start page.attempt
      → All (Bounded closes kit.policy.patience) ended
      → (page.attempts ≤ most_attempts kit.policy.patience (closes_of_others closes h page.since (length closes)))
      → Inv kit start (record { heads = set (map f m.heads) h me'; sequence = S; commits = C; cells = cells })
      (record { closes = closes; pages = pages; past = past; ended = ended })
  moving h me me' f S C cells new closes pages page past ended at struck others here grown apart le_s le_c hardv softv ok rigid calm lone pasts presents endeds bounds =
      let l' : History W = record { closes = closes; pages = pages; past = past; ended = ended } in
      record {
        calm = calm;
        lone = lone;
        heads =
            after-each f m.heads h me' me at (λ k x. HeadOk kit.policy.patience start S C cells closes k x (pages k))
            (subst (HeadOk kit.policy.patience start S C cells closes h me') (sym here) ok)
            (λ k y there ne.
            let aborts = head-struck kit.policy.patience start m.sequence m.commits m.cells l.closes k y (f y) (l.pages k) (struck y) (inv.heads k y there) in
            subst (HeadOk kit.policy.patience start S C cells closes k (f y)) (sym (others k ne))
            (subst (λ cs. HeadOk kit.policy.patience start S C cells cs k (f y) (l.pages k)) (sym grown)
            (head-moved kit.policy.patience start m.sequence m.commits m.cells l.closes S C cells new k (f y) (l.pages k) (apart k ne) le_s le_c
            (λ hf. let same = struck-hardware y (f y) (struck y) hf in
            let was : is_hardware y.head.state ≡ true = subst (λ z. is_hardware z.head.state ≡ true) same hf in
            subst (λ z. Agrees cells z.reads) (sym same) (hardv k y there ne was hf))
            (software-case k y there (struck y))
            aborts)));
        clear =
            λ j k x y atj atk ne hx hy.
            after-each f m.heads h me' me at
            (λ j x. (k : ℕ) (y : Seat W) → slice_get (set (map f m.heads) h me') k ≡ Some y → (j ≡ k → ⊥) → is_hardware x.head.state ≡ true → is_hardware y.head.state ≡ true → Clear kit x y)
            (λ k y _ _ hm _. wrong (sym rigid ∙ hm))
            (λ j o there n.
            after-each f m.heads h me' me at (λ k y. (j ≡ k → ⊥) → is_hardware (f o).head.state ≡ true → is_hardware y.head.state ≡ true → Clear kit (f o) y)
            (λ _ ho hm. wrong (sym rigid ∙ hm))
            (λ k o' there' n' ne' ho ho'.
            let same = struck-hardware o (f o) (struck o) ho in
            let same' = struck-hardware o' (f o') (struck o') ho' in
            let was : is_hardware o.head.state ≡ true = subst (λ z. is_hardware z.head.state ≡ true) same ho in
            let was' : is_hardware o'.head.state ≡ true = subst (λ z. is_hardware z.head.state ≡ true) same' ho' in
            subst (λ z. Clear kit z (f o')) (sym same) (subst (Clear kit o) (sym same') (inv.clear j k o o' there there' ne' was was'))))
            j x atj k y atk ne hx hy;
        past = All-weaker (Explained l.closes start) (Explained l'.closes start) (λ a x. explained-grown start l.closes closes new a grown x) past pasts;
        present =
            λ k.
            ⊎_elim
            (λ (e : k ≡ h). subst (λ i. Explained l'.closes start (pages i).attempt) (sym e) (subst (λ p. Explained l'.closes start p.attempt) (sym here) presents))
            (λ (ne : k ≡ h → ⊥). subst (λ p. Explained l'.closes start p.attempt) (sym (others k ne)) (explained-grown start l.closes closes new (l.pages k).attempt grown (inv.present k)))
            (cases_eq k h);
        ended = endeds;
        bound =
            λ k.
            ⊎_elim
            (λ (e : k ≡ h). subst (λ i. (pages i).attempts ≤ most_attempts kit.policy.patience (closes_of_others closes i (pages i).since (length closes))) (sym e)
            (subst (λ p. p.attempts ≤ most_attempts kit.policy.patience (closes_of_others closes h p.since (length closes))) (sym here) bounds))
            (λ (ne : k ≡ h → ⊥). subst (λ p. p.attempts ≤ most_attempts kit.policy.patience (closes_of_others closes k p.since (length closes))) (sym (others k ne))
            (subst (λ cs. (l.pages k).attempts ≤ most_attempts kit.policy.patience (closes_of_others cs k (l.pages k).since (length cs))) (sym grown)
            (let more = count-grown l.closes new k (l.pages k).since in omega (arith, inv.bound k))))
            (cases_eq k h);
      }
    where
      -- a software head is as it was
      software-case : (k : ℕ) (y : Seat W) → slice_get m.heads k ≡ Some y → Struck y (f y)
          → SoftwareOk kit.policy.patience start m.sequence m.commits m.cells l.closes k (f y) (l.pages k) → (f y).head.snapshot.sequence ≡ S → (f y).head.snapshot.commits ≡ C → Agrees cells (f y).reads
      software-case k y there (inl e) =
          subst (λ z. SoftwareOk kit.policy.patience start m.sequence m.commits m.cells l.closes k z (l.pages k) → z.head.snapshot.sequence ≡ S → z.head.snapshot.commits ≡ C → Agrees cells z.reads) (sym e) (softv k y there)
      software-case k y there (inr r) = λ _ _ _. subst (λ z. Agrees cells z.reads) (sym r.2) (All-nil _)
