-- Lines touched.
use Rattle.std.proofs.Common.{true, ◌≡◌, ℕ, suc, ◌+◌, ◌%◌, ◌-◌, ◌<◌, ◌≤◌, Bool, false, not, ◌||◌, get_or, set, drop, length, sym, eqb, List, [], ◌∷◌, ◌++◌, arith, refl, ap, ◌∙◌}
use Rattle.std.specs.List.{list_any}
use Rattle.std.proofs.lemmas.List.Folds.{list_any-append}
use Rattle.std.proofs.lemmas.List.{get_or-set_other, drop_more}
use Rattle.std.proofs.lemmas.Grind.{get_or-set_at}
use Rattle.std.proofs.lemmas.Bool.{eqb-true, eqb-false}
use Rattle.rules.specs.declared.types.Slot.{Slot}
use Rattle.rules.specs.Logs.{touches, lines_of, distinct_count}
use Rattle.rules.proofs.Basics.{by-test}
use Rattle.logs.specs.Lines.{Marked}

turned : (b v : Bool) → not b ≡ v → b ≡ not v
turned true v e = ap not e
turned false v e = ap not e

-- one element more, from the back
pub one_before : {X : Type 0} (xs ys : List X) (left : ℕ) (d : X) → 0 < left → left ≤ length xs
    → drop (left - 1) xs ++ ys ≡ get_or xs (left - 1) d ∷ (drop left xs ++ ys)
one_before xs ys left d some le =
    let here : left - 1 < length xs = omega arith in
    let back : left - 1 + 1 ≡ left = omega arith in
    ap (λ zs. zs ++ ys) (drop_more xs (left - 1) d here ∙ ap (λ n. get_or xs (left - 1) d ∷ drop n xs) back)

module _ {W : Type 0} (line : ℕ → ℕ) where
  pub touches-lines : (l : ℕ) (log : List (Slot W)) → list_any (λ n. eqb l n) (lines_of line log) ≡ touches line l log
  touches-lines l [] = refl
  touches-lines l (s ∷ log) = ap (λ b. eqb l (line s.cell) || b) (touches-lines l log)

  either : (l : ℕ) (xs ys : List (Slot W)) → list_any (λ n. eqb l n) (lines_of line (xs ++ ys)) ≡ (touches line l xs || touches line l ys)
  either l xs ys = touches-lines l (xs ++ ys) ∙ list_any-append (λ (s : Slot W). eqb l (line s.cell)) xs ys

  pub none_more : (l n : ℕ) (xs ys : List (Slot W)) → n ≡ distinct_count (lines_of line (xs ++ ys)) → (touches line l xs || touches line l ys) ≡ true
      → n ≡ distinct_count (l ∷ lines_of line (xs ++ ys))
  none_more l n xs ys e t = rw (either l xs ys, t) e

  pub one_more : (l n : ℕ) (xs ys : List (Slot W)) → n ≡ distinct_count (lines_of line (xs ++ ys)) → (touches line l xs || touches line l ys) ≡ false
      → n + 1 ≡ distinct_count (l ∷ lines_of line (xs ++ ys))
  one_more l n xs ys e t = rw (either l xs ys, t) (let q : n + 1 ≡ suc n = omega arith in q ∙ ap suc e)

  -- the count after one line more, new or not
  pub counted_new : (l n m : ℕ) (xs ys : List (Slot W)) (fresh : Bool) → fresh ≡ not (touches line l xs || touches line l ys)
      → n ≡ distinct_count (lines_of line (xs ++ ys)) → fresh ≡ true → m ≡ n + 1 → m ≡ distinct_count (l ∷ lines_of line (xs ++ ys))
  counted_new l n m xs ys fresh f e t q = q ∙ one_more l n xs ys e (turned (touches line l xs || touches line l ys) true (sym f ∙ t))

  pub counted_known : (l n m : ℕ) (xs ys : List (Slot W)) (fresh : Bool) → fresh ≡ not (touches line l xs || touches line l ys)
      → n ≡ distinct_count (lines_of line (xs ++ ys)) → fresh ≡ false → m ≡ n → m ≡ distinct_count (l ∷ lines_of line (xs ++ ys))
  counted_known l n m xs ys fresh f e t q = q ∙ none_more l n xs ys e (turned (touches line l xs || touches line l ys) false (sym f ∙ t))

  -- once its remainder is marked, a line more may be touched
  pub marked_more : (marks : List Bool) (s : Slot W) (log : List (Slot W)) → length marks ≡ 64 → Marked line marks log → Marked line (set marks (line s.cell % 64) true) (s ∷ log)
  marked_more marks s log long m l t = by-test (eqb l (line s.cell)) (λ b. (b || touches line l log) ≡ true → get_or (set marks i true) (l % 64) false ≡ true) here before t
    where
      i : ℕ
      i = line s.cell % 64

      at : (j : ℕ) → j ≡ i → get_or (set marks i true) j false ≡ true
      at j e = get_or-set_at marks i j true false e (omega (arith, long))

      here : eqb l (line s.cell) ≡ true → true ≡ true → get_or (set marks i true) (l % 64) false ≡ true
      here e q = at (l % 64) (ap (λ n. n % 64) (eqb-true l (line s.cell) e))

      before : eqb l (line s.cell) ≡ false → touches line l log ≡ true → get_or (set marks i true) (l % 64) false ≡ true
      before e q =
          by-test (eqb (l % 64) i) (λ _. get_or (set marks i true) (l % 64) false ≡ true)
          (λ same. at (l % 64) (eqb-true (l % 64) i same))
          (λ off. get_or-set_other marks i (l % 64) true false (eqb-false (l % 64) i off) ∙ m l q)
