-- A list from a place on.
use Rattle.std.proofs.Common.{◌≡◌, ℕ, suc, ◌+◌, ◌-◌, ◌<◌, ◌≤◌, List, [], ◌∷◌, length, take, drop, set, arith, sym, ap, ◌∙◌}
use Rattle.std.proofs.lemmas.List.{drop-drop, drop-set-lt, drop-take, length-drop}

module _ {X : Type 0} (xs : List X) (at : ℕ) where
  -- what comes behind the element at a place
  pub rest_behind : (x : X) (ys : List X) → drop at xs ≡ x ∷ ys → ys ≡ drop (at + 1) xs
  rest_behind x ys e = sym (ap (drop 1) e) ∙ drop-drop 1 at xs

  pub one_there : (x : X) (ys : List X) → drop at xs ≡ x ∷ ys → at + 1 ≤ length xs
  one_there x ys e = omega (arith, length-drop at xs, ap length e)

  pub none_there : drop at xs ≡ [] → length xs ≤ at
  none_there e = omega (arith, length-drop at xs, ap length e)

  -- the same of the first elements alone
  pub rest_of_first : (n : ℕ) (x : X) → at < n → drop at xs ≡ x ∷ drop (at + 1) xs → drop at (take n xs) ≡ x ∷ drop (at + 1) (take n xs)
  rest_of_first n x lt e =
      let m = n - (at + 1) in
      let here : n ≡ at + suc m = omega arith in
      let next : n ≡ at + 1 + m = omega arith in
      ap (λ i. drop at (take i xs)) here ∙ drop-take at (suc m) xs ∙ ap (take (suc m)) e
      ∙ ap (λ ys. x ∷ ys) (sym (drop-take (at + 1) m xs) ∙ ap (λ i. drop (at + 1) (take i xs)) (sym next))

  -- what comes behind a place that is written
  pub behind_set : (zs : List X) (x : X) → drop at xs ≡ drop at zs → drop (at + 1) (set xs at x) ≡ drop (at + 1) zs
  behind_set zs x e =
      drop-set-lt (at + 1) xs at x (omega arith) ∙ sym (drop-drop 1 at xs) ∙ ap (drop 1) e ∙ drop-drop 1 at zs
