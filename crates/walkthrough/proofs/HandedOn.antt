-- What a handle's answer says of the handle that comes of it, and of what is left to push.
use Rattle.std.proofs.Common.{◌≡◌, ℕ, ℤ, Some, None, Ok, Err, Option, Result, refl, ap}
use Rattle.rules.specs.declared.types.Closing.{Closing}
use Rattle.rules.specs.declared.types.Closing.TheVariants as closing
use Rattle.rules.specs.declared.types.Head.{Head}
use Rattle.rules.specs.declared.types.Refusal.{Refusal}
use Rattle.rules.specs.Bench.{Bench}
use Rattle.handles.specs.declared.attempts.Running.{Running}
use Rattle.handles.specs.declared.attempts.Aborted.{Aborted}
use Rattle.handles.specs.declared.attempts.Closed.TheVariants as closed
use Rattle.handles.specs.declared.commits.WritingBack.{WritingBack}
use Rattle.handles.specs.declared.refusals.Refused.{Refused}
use Rattle.handles.specs.Handles.{running_caller, aborted_caller, writing_back_caller, after_close, exchange_of, or_given_back, pushes_of, unless_refused, why_not_exchanged}
use Rattle.walkthrough.specs.Walk.{with_pushes}

-- an exchanged handle calls as the one that it was exchanged for
pub exchanged : (h : Running) (found : Option Head) (x : Aborted) → Ok x ≡ or_given_back h (exchange_of h found) → aborted_caller x ≡ running_caller h
exchanged h found x = by-refusal (why_not_exchanged (running_caller h) found)
  where
    by-refusal : (o : Option Refusal) → Ok x ≡ or_given_back h (unless_refused (record { transaction = h.transaction }) o) → aborted_caller x ≡ running_caller h
    by-refusal None e = let same : x ≡ record { transaction = h.transaction } = cc in ap aborted_caller same
    by-refusal (Some r) e = cc

module _ (h : Running) (b : Bench ℤ) where
  -- a close that is refused leaves nothing to push
  pub none_to_push : (a : Result Closing Refusal) (r : Refused Running) → Err r ≡ after_close h a → b ≡ with_pushes (running_caller h) a b
  none_to_push (Ok (closing.Complete n)) r e = cc
  none_to_push (Ok (closing.WritingBack n)) r e = cc
  none_to_push (Err x) r e = refl

  -- and one that gives a handle leaves the pushes of that handle
  pub all_to_push : (a : Result Closing Refusal) (x : WritingBack) (n : ℕ) → Ok (closed.WritingBack x n) ≡ after_close h a
      → pushes_of b (writing_back_caller x) ≡ with_pushes (running_caller h) a b
  all_to_push (Ok (closing.Complete m)) x n e = cc
  all_to_push (Ok (closing.WritingBack m)) x n e =
      let same : x ≡ record { transaction = h.transaction } = cc in ap (λ (w : WritingBack). pushes_of b (writing_back_caller w)) same
  all_to_push (Err y) x n e = cc
