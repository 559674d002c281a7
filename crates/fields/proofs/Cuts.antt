-- Bytes that are cut at their first byte b.
use Rattle.std.proofs.Common.{◌≡◌, ℕ, suc, ◌+◌, ◌-◌, ◌<◌, ◌≤◌, not, eqb, ltb, List, [], ◌∷◌, ◌++◌, length, get_or, take, drop, Some, None, sym, ap, ◌∙◌, arith, position, add-one}
use Rattle.std.specs.List.{position_or_len}
use Rattle.std.proofs.Math.Seq.{drop-cons}
use Rattle.std.proofs.lemmas.List.{take-append-drop}
use Rattle.std.proofs.lemmas.List.{take_rest, take_all}
use Rattle.std.proofs.lemmas.List.Sums.{passes_at_first}
use Rattle.std.proofs.lemmas.Bool.{cond_both, not-true, eqb-true, eqb-false, ltb-true, ltb-false}
use Rattle.fields.specs.Parts.{Without}

module _ (b : ℕ) where
  abbrev up_to : List ℕ → ℕ
  up_to bs = position_or_len (λ x. eqb x b) bs

  none-before : (bs : List ℕ) → Without b (take (up_to bs) bs)
  none-before [] = tt
  none-before (x ∷ xs) = cond_both (not (eqb x b)) (1 + up_to xs) 0 (λ n. Without b (take n (x ∷ xs)))
      (λ e. let k : 1 + up_to xs ≡ suc (up_to xs) = omega arith in rw k (eqb-false x b (not-true _ e), none-before xs))
      (λ _. tt)

  joined : (bs : List ℕ) → up_to bs < length bs → bs ≡ take (up_to bs) bs ++ (b ∷ drop (up_to bs + 1) bs)
  joined bs h =
      let here : get_or bs (up_to bs) 0 ≡ b = eqb-true _ b (passes_at_first (λ x. eqb x b) bs 0 h) in
      sym (take-append-drop (up_to bs) bs) ∙ ap (λ (l : List ℕ). take (up_to bs) bs ++ l) (drop-cons bs (up_to bs) 0 h ∙ rw (← add-one (up_to bs), here))

  pub cut-some : (n : ℕ) (bs : List ℕ) → position (λ x. eqb x b) bs ≡ Some n → (bs ≡ take n bs ++ (b ∷ take (length bs - (n + 1)) (drop (n + 1) bs))) × Without b (take n bs)
  cut-some n bs e =
      cond_both (ltb (up_to bs) (length bs)) (Some (up_to bs)) None (λ r. r ≡ Some n → (bs ≡ take n bs ++ (b ∷ take (length bs - (n + 1)) (drop (n + 1) bs))) × Without b (take n bs))
      (λ h q. let k : up_to bs ≡ n = cc in rw (← k, take_rest) (joined bs (ltb-true _ _ h), none-before bs))
      (λ h q. absurd cc) e

  pub cut-none : (bs : List ℕ) → position (λ x. eqb x b) bs ≡ None → Without b bs
  cut-none bs e =
      cond_both (ltb (up_to bs) (length bs)) (Some (up_to bs)) None (λ r. r ≡ None → Without b bs)
      (λ h q. absurd cc)
      (λ h q. let k : length bs ≤ up_to bs = ltb-false _ _ h in rw take_all at (none-before bs)) e
