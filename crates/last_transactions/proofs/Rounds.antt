-- One time more.
use Rattle.std.proofs.Common.{◌≡◌, ℕ, ◌+◌, suc, ℤ, List, [], ◌∷◌, ◌++◌, ap, sym, ◌∙◌, append_assoc, arith}
use Rattle.parts.specs.declared.calls.Call.TheVariants.{Open, Drop}
use Rattle.rules.specs.declared.types.MadeCall.{MadeCall}
use Rattle.last_transactions.specs.Calls.{made_by, opens_and_drops}

pub one_more : (k n : ℕ) (xs ys zs : List (MadeCall ℤ)) (a b : MadeCall ℤ) → xs ≡ opens_and_drops k n → ys ≡ xs ++ (a ∷ []) → zs ≡ ys ++ (b ∷ []) → a ≡ made_by k Open → b ≡ made_by k Drop
    → zs ≡ opens_and_drops k (n + 1)
unfolding opens_and_drops
one_more k n xs ys zs a b ex ey ez ea eb =
    let next : n + 1 ≡ suc n = omega arith in
    ez ∙ ap (λ l. l ++ (b ∷ [])) ey ∙ append_assoc xs (a ∷ []) (b ∷ [])
    ∙ (λ i. ex i ++ (ea i ∷ eb i ∷ [])) ∙ ap (opens_and_drops k) (sym next)
