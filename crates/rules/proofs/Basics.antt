-- What the rules' proof needs of lists, tests and options.
use Rattle.std.proofs.Common.{◌≡◌, ℕ, zero, suc, Bool, true, false, eqb, ◌⊎◌, List, [], ◌∷◌, ◌++◌, map, set, Some, None, Option, sym, refl, ap, ◌∙◌, subst, inl, inr, ⊎_elim, All, get_or, ◌<◌, length, arith}
use Rattle.std.specs.List.{slice_get, list_any}
use Rattle.std.specs.Option.{option_map}
use Rattle.std.proofs.lemmas.Bool.{cases_eq, or_parts, eqb-false, ne_eqb}
use Rattle.std.proofs.lemmas.Option.{slice_get-map}
use Rattle.rules.specs.Logs.{is_empty}
use Rattle.std.proofs.lemmas.List.Elements.{All-nil, All-cons, All-head, All-tail}

-- a property of what a test or an option decides
pub by-test : (b : Bool) (P : Bool → Type 0) → (b ≡ true → P true) → (b ≡ false → P false) → P b
by-test true P p q = p refl
by-test false P p q = q refl

pub by-option : {X : Type 0} (o : Option X) (P : Option X → Type 0) → (o ≡ None → P None) → ((x : X) → o ≡ Some x → P (Some x)) → P o
by-option None P p q = p refl
by-option (Some x) P p q = q x refl

pub wrong : {X : Type 0} → false ≡ true → X
wrong e = cc

pub some-length : {X : Type 0} (xs : List X) → is_empty xs ≡ false → 0 < length xs
some-length [] e = wrong (sym e)
some-length (x ∷ xs) e = omega arith

pub eqb-flip : (a b : ℕ) → eqb a b ≡ false → eqb b a ≡ false
eqb-flip a b e = ne_eqb b a (λ q. eqb-false a b e (sym q))

module _ {X : Type 0} where
  pub nth-set-same : (xs : List X) (i : ℕ) (x y : X) → slice_get xs i ≡ Some y → slice_get (set xs i x) i ≡ Some x
  nth-set-same [] i x y e = cc
  nth-set-same (z ∷ xs) zero x y e = refl
  nth-set-same (z ∷ xs) (suc i) x y e = nth-set-same xs i x y e

  pub nth-set-other : (xs : List X) (i j : ℕ) (x : X) → (i ≡ j → ⊥) → slice_get (set xs i x) j ≡ slice_get xs j
  nth-set-other [] i j x ne = refl
  nth-set-other (z ∷ xs) zero zero x ne = absurd (ne refl)
  nth-set-other (z ∷ xs) zero (suc j) x ne = refl
  nth-set-other (z ∷ xs) (suc i) zero x ne = refl
  nth-set-other (z ∷ xs) (suc i) (suc j) x ne = nth-set-other xs i j x (λ e. ne (ap suc e))

  -- no element passes
  pub any_none : (p : X → Bool) (xs : List X) → list_any p xs ≡ false → All (λ x. p x ≡ false) xs
  any_none p [] e = All-nil _
  any_none p (x ∷ xs) e = let h = or_parts (p x) (list_any p xs) e in All-cons (λ x. p x ≡ false) x xs h.0 (any_none p xs h.1)

  pub all-map-get : {Y : Type 0} (f : X → Y) (xs : List X) (k : ℕ) (y : Y) → slice_get (map f xs) k ≡ Some y → (x : X) × (slice_get xs k ≡ Some x) × (y ≡ f x)
  all-map-get f [] k y e = cc
  all-map-get f (x ∷ xs) zero y e = (x, refl, cc)
  all-map-get f (x ∷ xs) (suc k) y e = all-map-get f xs k y e

  pub nth-map-some : {Y : Type 0} (f : X → Y) (xs : List X) (k : ℕ) (x : X) → slice_get xs k ≡ Some x → slice_get (map f xs) k ≡ Some (f x)
  nth-map-some f xs k x e = slice_get-map f xs k ∙ ap (option_map f) e

  pub all_both : (P Q R : X → Type 0) → ((x : X) → P x → Q x → R x) → (xs : List X) → All P xs → All Q xs → All R xs
  all_both P Q R f xs p q k d lt = f (get_or xs k d) (p k d lt) (q k d lt)

  pub all-append-left : (P : X → Type 0) (xs ys : List X) → All P (xs ++ ys) → All P xs
  all-append-left P [] ys h = All-nil P
  all-append-left P (x ∷ xs) ys h = All-cons P x xs (All-head P x (xs ++ ys) h) (all-append-left P xs ys (All-tail P x (xs ++ ys) h))

  pub all-append-right : (P : X → Type 0) (xs ys : List X) → All P (xs ++ ys) → All P ys
  all-append-right P [] ys h = h
  all-append-right P (x ∷ xs) ys h = all-append-right P xs ys (All-tail P x (xs ++ ys) h)

-- the heads after a turn: this one, or another as it was done to
pub after_turn : {X : Type 0} (f : X → X) (xs : List X) (h k : ℕ) (me old x : X) → slice_get xs h ≡ Some old → slice_get (set (map f xs) h me) k ≡ Some x
    → ((k ≡ h) × (x ≡ me)) ⊎ ((k ≡ h → ⊥) × ((y : X) × (slice_get xs k ≡ Some y) × (x ≡ f y)))
after_turn f xs h k me old x here there =
    ⊎_elim
    (λ (e : k ≡ h). let at : slice_get (set (map f xs) h me) h ≡ Some me = nth-set-same (map f xs) h me (f old) (nth-map-some f xs h old here) in
    let now : slice_get (set (map f xs) h me) h ≡ Some x = subst (λ i. slice_get (set (map f xs) h me) i ≡ Some x) e there in
    inl (e, cc))
    (λ (ne : k ≡ h → ⊥). inr (ne, all-map-get f xs k x (sym (nth-set-other (map f xs) h k me (λ e. ne (sym e))) ∙ there)))
    (cases_eq k h)

-- what holds of this head and of each other as it was done to holds of each head after a turn
pub after-each : {X : Type 0} (f : X → X) (xs : List X) (h : ℕ) (me old : X) → slice_get xs h ≡ Some old → (P : ℕ → X → Type 0) → P h me
    → ((k : ℕ) (y : X) → slice_get xs k ≡ Some y → (k ≡ h → ⊥) → P k (f y)) → (k : ℕ) (x : X) → slice_get (set (map f xs) h me) k ≡ Some x → P k x
after-each {X} f xs h me old here P mine others k x there =
    ⊎_elim
    (λ (r : (k ≡ h) × (x ≡ me)). subst (λ i. P i x) (sym r.0) (subst (P h) (sym r.1) mine))
    (λ (r : (k ≡ h → ⊥) × ((y : X) × (slice_get xs k ≡ Some y) × (x ≡ f y))). subst (P k) (sym r.1.2) (others k r.1.0 r.1.1 r.0))
    (after_turn f xs h k me old x here there)
