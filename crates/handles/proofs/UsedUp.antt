-- With lists of right lengths a refused push uses its handle up.
use Rattle.std.proofs.Common.{◌≡◌, ℕ, Bool, true, false, not, leb, [], ◌∷◌, Some, None, Ok, Err, Option, Result, sym, refl, ap, ◌∙◌, IfErr, cond}
use Rattle.parts.specs.declared.calls.Call.TheVariants.{Push}
use Rattle.rules.specs.declared.types.Caller.{Caller}
use Rattle.rules.specs.declared.types.Refusal.{Refusal}
use Rattle.rules.specs.declared.types.Refusal.TheVariants as refuse
use Rattle.rules.specs.Heads.{is_writing_back}
use Rattle.rules.specs.Bench.{Bench, head_at}
use Rattle.rules.specs.Refusals.{lengths_match, is_stale, when, first_found, refusal}
use Rattle.rules.specs.Calls.{unless, push_of, admitted_push}
use Rattle.rules.proofs.Basics.{by-option}
use Rattle.handles.specs.declared.commits.WritingBack.{WritingBack}
use Rattle.handles.specs.declared.commits.Pushed.{Pushed}
use Rattle.handles.specs.declared.refusals.Refused.{Refused}
use Rattle.handles.specs.Handles.{uses_up, after_push}

-- with lists of right lengths, what can refuse a push uses its handle up
refusal-uses-up : (missing stale other : Bool) (e : Refusal)
    → first_found (None ∷ when missing refuse.NoHead ∷ when stale refuse.StaleHandle ∷ None ∷ when other refuse.NotTaken ∷ None ∷ None ∷ None ∷ None ∷ []) ≡ Some e → uses_up e ≡ true
refusal-uses-up true stale other e q = let same : refuse.NoHead ≡ e = cc in ap uses_up (sym same)
refusal-uses-up false true other e q = let same : refuse.StaleHandle ≡ e = cc in ap uses_up (sym same)
refusal-uses-up false false true e q = let same : refuse.NotTaken ≡ e = cc in ap uses_up (sym same)
refusal-uses-up false false false e q = cc

-- the refusal of a push, by whether the lists match
abbrev pushed-with : {W : Type 0} → Bench W → Caller → Bool → Option Refusal
pushed-with b who fit =
    first_found
    (when (not fit) refuse.Lists ∷ when (leb b.table.head_count who.head) refuse.NoHead ∷ when (is_stale who.transaction (head_at b who.head)) refuse.StaleHandle ∷ None
    ∷ when (not (is_writing_back (head_at b who.head).state)) refuse.NotTaken ∷ None ∷ None ∷ None ∷ None ∷ [])

module _ {W : Type 0} (b : Bench W) (who : Caller) (fit : lengths_match b ≡ true) where
  answer-uses-up : (e : Refusal) → (push_of b who).answer ≡ Err e → uses_up e ≡ true
  answer-uses-up e =
      by-option (refusal b who Push) (λ (o : Option Refusal). (unless o b (admitted_push b who.head)).answer ≡ Err e → uses_up e ≡ true)
      (λ _ q. cc)
      (λ x is q. let same : x ≡ e = cc in ap uses_up (sym same) ∙ refusal-uses-up _ _ _ x (sym (ap (pushed-with b who) fit) ∙ is))

  pub used_up_by_push : (h : WritingBack) (r : Result Pushed (Refused (Option WritingBack))) → r ≡ after_push h (push_of b who).answer → IfErr r (λ x. x.handle ≡ None)
  used_up_by_push h r e = rw e (on (push_of b who).answer refl)
    where
      on : (a : Result ℕ Refusal) → (push_of b who).answer ≡ a → IfErr (after_push h a) (λ x. x.handle ≡ None)
      on (Ok n) q = tt
      on (Err x) q = ap (λ t. cond t None (Some h)) (answer-uses-up x q)
