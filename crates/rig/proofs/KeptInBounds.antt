-- What a call leaves is in bounds if the rule book's outcome is, and its lists match if they did.
use Rattle.std.proofs.Common.{◌≡◌, ◌∙◌, ℕ, Result, sym, ap, subst}
use Rattle.parts.specs.declared.calls.Call.{Call}
use Rattle.rules.specs.declared.types.Caller.{Caller}
use Rattle.rules.specs.declared.types.Refusal.{Refusal}
use Rattle.rules.specs.Kit.{Kit}
use Rattle.rules.specs.Bench.{Bench}
use Rattle.rules.specs.Bounds.{InBounds}
use Rattle.rules.specs.Refusals.{lengths_match}
use Rattle.rules.specs.Calls.{Outcome, outcome}
use Rattle.rules.specs.Answers.{call_of}
use Rattle.rules.proofs.KeptBounds.{right_lengths_stay}

pub left_in_bounds : {A W : Type 0} (r : Result A Refusal) (b : Bench W) (o : Outcome A W) → outcome r b ≡ o → InBounds o.left.table → InBounds b.table
left_in_bounds r b o e = subst InBounds (sym (ap (λ (x : Outcome _ _). x.left.table) e))

pub left_lengths : {A W : Type 0} (kit : Kit W) (who : Caller) (before : Bench W) (call : Call ℕ W) (r : Result A Refusal) {after : Bench W} {o : Outcome A W} → outcome r after ≡ o
    → o.left ≡ (call_of kit before who call).1 → InBounds before.table → lengths_match after ≡ lengths_match before
left_lengths kit who before call r e is bounds = ap (λ (x : Outcome _ _). lengths_match x.left) e ∙ ap lengths_match is ∙ right_lengths_stay kit before who call bounds
