-- A list that is mapped place by place.
use Rattle.std.proofs.Common.{◌≡◌, ℕ, zero, suc, ◌+◌, ◌<◌, ◌≤◌, List, [], ◌∷◌, ◌++◌, length, map, take, drop, set, get_or, refl, ap, ◌∙◌, sym, subst, arith, All}
use Rattle.std.proofs.lemmas.List.Elements.{All-nil, All-cons, All-head, All-tail}
use Rattle.std.proofs.Math.ListN.{drop_of_length-le}
use Rattle.std.proofs.lemmas.List.{take_all, append-nil, set-get_or}
use Rattle.rules.specs.Bench.{map_at}

module _ {X : Type 0} where
  -- the first k places mapped, and the others as they were
  abbrev pub mapped_to : (ℕ → X → X) → ℕ → List X → List X
  mapped_to f k xs = take k (map_at f 0 xs) ++ drop k xs

  -- place k is as it was, and once it is mapped too, one place more is
  at : (f : ℕ → X → X) (j k : ℕ) (xs : List X) (d : X) → k < length xs → get_or (take k (map_at f j xs) ++ drop k xs) k d ≡ get_or xs k d
  at f j k [] d lt = absurd (omega arith)
  at f j zero (x ∷ xs) d lt = refl
  at f j (suc k) (x ∷ xs) d lt = at f (j + 1) k xs d (omega arith)

  one : (f : ℕ → X → X) (j k i : ℕ) (xs : List X) (d : X) → k < length xs → i ≡ j + k
      → set (take k (map_at f j xs) ++ drop k xs) k (f i (get_or xs k d)) ≡ take (suc k) (map_at f j xs) ++ drop (suc k) xs
  one f j k i [] d lt e = absurd (omega arith)
  one f j zero i (x ∷ xs) d lt e = let q : i ≡ j = omega arith in ap (λ n. f n x ∷ xs) q
  one f j (suc k) i (x ∷ xs) d lt e = ap (λ ys. f j x ∷ ys) (one f (j + 1) k i xs d (omega arith) (omega arith))

  length-mapped : (f : ℕ → X → X) (j : ℕ) (xs : List X) → length (map_at f j xs) ≡ length xs
  length-mapped f j [] = refl
  length-mapped f j (x ∷ xs) = ap suc (length-mapped f (j + 1) xs)

  pub mapped_holds : (P : X → Type 0) (f : ℕ → X → X) (k : ℕ) (xs ys : List X) (d : X) → All P xs → k < length xs → ys ≡ mapped_to f k xs → P (get_or ys k d)
  mapped_holds P f k xs ys d all lt e = subst P (sym (ap (λ zs. get_or zs k d) e ∙ at f 0 k xs d lt)) (all k d lt)

  pub mapped_more : (f : ℕ → X → X) (k : ℕ) (xs ys : List X) (d x : X) → k < length xs → ys ≡ mapped_to f k xs → x ≡ f k (get_or ys k d) → set ys k x ≡ mapped_to f (k + 1) xs
  mapped_more f k xs ys d x lt e q =
      let was = ap (λ zs. get_or zs k d) e ∙ at f 0 k xs d lt in
      let more : suc k ≡ k + 1 = omega arith in
      ap (set ys k) (q ∙ ap (f k) was) ∙ ap (λ zs. set zs k (f k (get_or xs k d))) e ∙ one f 0 k k xs d lt (omega arith)
      ∙ ap (λ n. mapped_to f n xs) more

  -- a place that the map leaves as it is need not be written
  pub mapped_same : (f : ℕ → X → X) (k : ℕ) (xs ys : List X) (d : X) → k < length xs → ys ≡ mapped_to f k xs → get_or ys k d ≡ f k (get_or ys k d) → ys ≡ mapped_to f (k + 1) xs
  mapped_same f k xs ys d lt e q = sym (set-get_or ys k d) ∙ mapped_more f k xs ys d (get_or ys k d) lt e q

  pub mapped_all : (f : ℕ → X → X) (k : ℕ) (xs ys : List X) → length xs ≤ k → ys ≡ mapped_to f k xs → ys ≡ map_at f 0 xs
  mapped_all f k xs ys le e = e ∙ whole
    where
      whole : mapped_to f k xs ≡ map_at f 0 xs
      whole =
          let q = length-mapped f 0 xs in
          ap (λ zs. zs ++ drop k xs) (take_all k (map_at f 0 xs) (omega arith))
          ∙ ap (λ zs. map_at f 0 xs ++ zs) (drop_of_length-le xs le) ∙ append-nil (map_at f 0 xs)

  -- where the place does not matter, it is a map
  pub mapped_alike : (f : X → X) (j : ℕ) (xs : List X) → map_at (λ _ x. f x) j xs ≡ map f xs
  mapped_alike f j [] = refl
  mapped_alike f j (x ∷ xs) = ap (λ ys. f x ∷ ys) (mapped_alike f (j + 1) xs)

  pub mapped_keeps : (P : X → Type 0) (f : ℕ → X → X) (j : ℕ) (xs : List X) → ((i : ℕ) (x : X) → P x → P (f i x)) → All P xs → All P (map_at f j xs)
  mapped_keeps P f j [] keep all = All-nil P
  mapped_keeps P f j (x ∷ xs) keep all = All-cons P (f j x) (map_at f (j + 1) xs) (keep j x (All-head P x xs all)) (mapped_keeps P f (j + 1) xs keep (All-tail P x xs all))

  -- maps that do the same to each element
  pub map_alike : (P : X → Type 0) (f g : ℕ → X → X) (i : ℕ) (xs : List X) → ((j : ℕ) (x : X) → P x → f j x ≡ g j x) → All P xs → map_at f i xs ≡ map_at g i xs
  map_alike P f g i [] e all = refl
  map_alike P f g i (x ∷ xs) e all =
      ap (λ y. y ∷ map_at f (i + 1) xs) (e i x (All-head P x xs all)) ∙ ap (λ ys. g i x ∷ ys) (map_alike P f g (i + 1) xs e (All-tail P x xs all))
