-- An answer by handle has the number and the value of the rule book's answer.
use Rattle.std.proofs.Common.{◌≡◌, ℕ, Bool, true, false, eqb, Some, None, Ok, Err, Option, Result, sym, refl, ap, cond}
use Rattle.std.proofs.lemmas.Bool.{eqb-true}
use Rattle.std.specs.Option.{option_map}
use Rattle.rules.specs.declared.types.Closing.{Closing}
use Rattle.rules.specs.declared.types.Closing.TheVariants as closing
use Rattle.rules.specs.declared.types.Granted.TheVariants as granted
use Rattle.rules.specs.declared.types.Refusal.{Refusal}
use Rattle.rules.specs.Answers.{answer_by}
use Rattle.handles.specs.declared.attempts.Closed.{Closed}
use Rattle.handles.specs.declared.attempts.Running.{Running}
use Rattle.handles.specs.declared.commits.Pushed.{Pushed}
use Rattle.handles.specs.declared.commits.Pushed.TheVariants as pushing
use Rattle.handles.specs.declared.commits.WritingBack.{WritingBack}
use Rattle.handles.specs.declared.refusals.Refused.{Refused}
use Rattle.handles.specs.Answers.{AnswersAs, closed_number, closed_value, pushed_number, pushed_value}
use Rattle.handles.specs.Handles.{after_close, after_push}

unchanged : (o : Option ℕ) → o ≡ option_map (λ n. n) o
unchanged None = refl
unchanged (Some n) = refl

module _ {W : Type 0} where
  pub close_told : (h : Running) (a : Result Closing Refusal) (r : Result Closed (Refused Running)) → r ≡ after_close h a
      → AnswersAs closed_number closed_value r (answer_by {W = W} granted.Closed a)
  close_told h (Ok (closing.Complete n)) r e = rw e (record { number = refl; value = λ shown. refl })
  close_told h (Ok (closing.WritingBack n)) r e = rw e (record { number = refl; value = λ shown. refl })
  close_told h (Err x) r e = rw e (record { number = refl; value = λ shown. unchanged _ })

  pub push_told : (h : WritingBack) (a : Result ℕ Refusal) (r : Result Pushed (Refused (Option WritingBack))) → r ≡ after_push h a
      → AnswersAs pushed_number pushed_value r (answer_by {W = W} granted.SlotsLeft a)
  push_told h (Ok n) r e = rw e (record { number = by-number (eqb n 0); value = λ shown. ap Some (by-value (eqb n 0) refl) })
    where
      by-number : (t : Bool) → pushed_number (cond t pushing.Done (pushing.Left h n)) ≡ 0
      by-number true = refl
      by-number false = refl

      by-value : (t : Bool) → eqb n 0 ≡ t → pushed_value (cond t pushing.Done (pushing.Left h n)) ≡ n
      by-value true q = sym (eqb-true n 0 q)
      by-value false q = refl
  push_told h (Err x) r e = rw e (record { number = refl; value = λ shown. unchanged _ })
