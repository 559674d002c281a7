-- The number and the value of an answer by handle, as the rule book's answer has them.
use Rattle.std.specs.Prelude.{◌≡◌, ℕ, Some, Ok, Err, Option, Result}
use Rattle.rules.specs.Answers.{Answer, answer_number, answer_value, refusal_number, refusal_value}
use Rattle.handles.specs.declared.attempts.Closed.{Closed}
use Rattle.handles.specs.declared.attempts.Closed.TheVariants as closed
use Rattle.handles.specs.declared.commits.Pushed.{Pushed}
use Rattle.handles.specs.declared.commits.Pushed.TheVariants as pushed
use Rattle.handles.specs.declared.refusals.Refused.{Refused}

-- a granted close returns 0, or 1 if there is something to push
abbrev pub closed_number : Closed → ℕ
closed_number (closed.Complete n) = 0
closed_number (closed.WritingBack h n) = 1

-- and tells the attempts of the transaction
abbrev pub closed_value : Closed → ℕ
closed_value (closed.Complete n) = n
closed_value (closed.WritingBack h n) = n

-- a granted push returns 0
abbrev pub pushed_number : Pushed → ℕ
pushed_number pushed.Done = 0
pushed_number (pushed.Left h n) = 0

-- and tells the slots that are left
abbrev pub pushed_value : Pushed → ℕ
pushed_value pushed.Done = 0
pushed_value (pushed.Left h n) = n

module _ {A H : Type 0} where
  -- the number of an answer, by that of what a granted call gives: a refused one has that of its refusal
  abbrev pub number_of : (A → ℕ) → Result A (Refused H) → ℕ
  number_of number (Ok x) = number x
  number_of number (Err r) = refusal_number r.refusal

  -- and its value likewise
  abbrev pub value_of : (A → ℕ) → Result A (Refused H) → Option ℕ
  value_of value (Ok x) = Some (value x)
  value_of value (Err r) = refusal_value r.refusal

  -- the answer has the number and the value of the rule book's, which is no word
  pub record AnswersAs {W : Type 0} (numbers values : A → ℕ) (result : Result A (Refused H)) (answer : Answer W) : Type 0 where
    pub number : number_of numbers result ≡ answer_number answer
    pub value : (shown : W → ℕ) → value_of values result ≡ answer_value shown (λ n. n) answer
