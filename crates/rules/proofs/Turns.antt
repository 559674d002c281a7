-- What holds of states, and how a quiet call of one head keeps the invariant.
use Rattle.std.proofs.Common.{◌≡◌, ℕ, ◌≤◌, true, false, ◌||◌, eqb, List, map, length, set, Some, sym, refl, subst, All, get_or}
use Rattle.std.specs.List.{slice_get}
use Rattle.std.proofs.lemmas.Bool.{eq-eqb, ne_eqb, cond-true, cond-false}
use Rattle.rules.specs.declared.types.State.{State}
use Rattle.rules.specs.declared.types.State.TheVariants.{Idle, Hardware, Software, WritingBack}
use Rattle.rules.specs.Kit.{Kit}
use Rattle.rules.specs.Heads.{is_hardware, is_software, is_aborted, is_writing_back, is_idle}
use Rattle.rules.specs.Bench.{is_odd}
use Rattle.rules.specs.History.{History, Attempt, EndedTransaction, Page, pages_with, closes_of_others}
use Rattle.rules.specs.RunLaws.{Explained, Bounded, most_attempts}
use Rattle.rules.proofs.Basics.{wrong}
use Rattle.rules.proofs.Seats.{Seat, Rig}
use Rattle.rules.proofs.Invariant.{HeadOk, Clear, Inv}
use Rattle.rules.proofs.Frames.{Struck, quiet}

pub turned-here : {X : Type 0} (pages : ℕ → X) (h : ℕ) (p : X) → pages_with pages h p h ≡ p
turned-here pages h p = cond-true (eqb h h) p (pages h) (eq-eqb h h refl)

pub turned-other : {X : Type 0} (pages : ℕ → X) (h : ℕ) (p : X) (k : ℕ) → (k ≡ h → ⊥) → pages_with pages h p k ≡ pages k
turned-other pages h p k ne = cond-false (eqb k h) p (pages k) (ne_eqb k h ne)

pub all_true : {X : Type 0} (P : X → Type 0) → ((x : X) → P x) → (xs : List X) → All P xs
all_true P f xs k d lt = f (get_or xs k d)

pub going-plain : (s : State) → (is_hardware s || (is_software s || is_aborted s)) ≡ true → is_writing_back s ≡ false
going-plain Idle e = wrong e
going-plain WritingBack e = wrong e
going-plain s e = refl

pub running-going : (s : State) → (is_hardware s || is_software s) ≡ true → (is_hardware s || (is_software s || is_aborted s)) ≡ true
running-going Hardware e = refl
running-going Software e = refl
running-going s e = wrong e

pub aborted-going : (s : State) → is_aborted s ≡ true → (is_hardware s || (is_software s || is_aborted s)) ≡ true
aborted-going Idle e = wrong e
aborted-going WritingBack e = wrong e
aborted-going s e = refl

pub software-running : (s : State) → is_software s ≡ true → (is_hardware s || is_software s) ≡ true
software-running Hardware e = refl
software-running Software e = refl
software-running s e = wrong e

pub idle-plain : (s : State) → is_idle s ≡ true → is_writing_back s ≡ false
idle-plain WritingBack e = wrong e
idle-plain s e = refl

module _ {W : Type 0} (kit : Kit W) (start : List W) (m : Rig W) (l : History W) (inv : Inv kit start m l) (h : ℕ) (me : Seat W) (at : slice_get m.heads h ≡ Some me) where
  -- `quiet` where the head's page is given by an equation, and no other head is touched
  pub quiet_at : (me' : Seat W) (f : Seat W → Seat W) (pages : ℕ → Page W) (page : Page W) (past : List (Attempt W)) (ended : List EndedTransaction)
      → ((o : Seat W) → Struck o (f o))
      → ((k : ℕ) → (k ≡ h → ⊥) → pages k ≡ l.pages k)
      → pages h ≡ page
      → HeadOk kit.policy.patience start m.sequence m.commits m.cells l.closes h me' page
      → is_writing_back me.head.state ≡ false
      → is_writing_back me'.head.state ≡ false
      → (is_odd m.sequence ≡ true → is_hardware me'.head.state ≡ false)
      → ((k : ℕ) (it : Seat W) → slice_get m.heads k ≡ Some it → (k ≡ h → ⊥) → is_hardware me'.head.state ≡ true → is_hardware it.head.state ≡ true
      → is_hardware (f it).head.state ≡ true → Clear kit me' it × Clear kit it me')
      → All (Explained l.closes start) past
      → Explained l.closes start page.attempt
      → All (Bounded l.closes kit.policy.patience) ended
      → (page.attempts ≤ most_attempts kit.policy.patience (closes_of_others l.closes h page.since (length l.closes)))
      → Inv kit start (record { heads = set (map f m.heads) h me'; sequence = m.sequence; commits = m.commits; cells = m.cells })
      (record { closes = l.closes; pages = pages; past = past; ended = ended })
  quiet_at me' f pages page past ended struck others here ok plain plain' calm clear pasts presents endeds bounds =
      quiet kit start m l inv h me me' f pages past ended at struck others
      (subst (HeadOk kit.policy.patience start m.sequence m.commits m.cells l.closes h me') (sym here) ok)
      plain plain' calm clear pasts
      (subst (λ p. Explained l.closes start p.attempt) (sym here) presents)
      endeds
      (subst (λ p. p.attempts ≤ most_attempts kit.policy.patience (closes_of_others l.closes h p.since (length l.closes))) (sym here) bounds)
