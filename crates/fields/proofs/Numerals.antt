-- Digits and the numerals of numbers.
use Rattle.std.specs.Option.{SomeIff}
use Rattle.std.specs.Result.{OkIff, result_ok}
use Rattle.std.specs.Char.{digit_value}
use Rattle.std.specs.Str.Parse.{digits_value, digits_value_after}
use Rattle.std.proofs.Math.Seq.{drop-cons}
use Rattle.std.proofs.lemmas.Str.{digit_value_digit}
use Rattle.std.proofs.Common.{◌≡◌, ℕ, suc, ◌+◌, ◌*◌, ◌-◌, ◌^◌, ◌<◌, ◌≤◌, true, List, [], ◌∷◌, length, get_or, drop, Result, Ok, Err, ◌≢◌, FitsSigned, w32, ℤ, pos, negsuc, Some, None, decimal, Option, sym, refl, ap, ◌∙◌, ⊎_elim, arith}
use Rattle.std.specs.Str.{all_ascii_digits}
use Rattle.std.proofs.lemmas.Bool.{leb-true, and_parts, cases_eq}
use Rattle.std.proofs.lemmas.Str.Parse.{IsNumeralModel, numerals_by_value, tells_all_ascii_digits}
use Rattle.std.proofs.lemmas.Fmt.{decimal-digits_value, digits_decimal, digits_value-decimal, decimal_nonempty, first_decimal, decimal_digit, decimal_injective}
use Rattle.fields.specs.Numbers.{Reads, Number, Amount}

pub own : IsNumeralModel (λ ds. all_ascii_digits ds ≡ true) (digits_value 10)
own = numerals_by_value _ tells_all_ascii_digits

-- more digits make no number smaller
grows : (n : ℕ) (ds : List ℕ) → n ≤ digits_value_after 10 n ds
grows n [] = omega arith
grows n (d ∷ ds) = omega (arith, grows (n * 10 + digit_value d) ds)

pub grown_by : (n i : ℕ) (bs : List ℕ) → i < length bs → 48 ≤ get_or bs i 0 → get_or bs i 0 ≤ 57 → 10 * n + (get_or bs i 0 - 48) ≤ digits_value_after 10 n (drop i bs)
grown_by n i bs l low high =
    let d = digit_value_digit (get_or bs i 0) (low, high) in
    rw (drop-cons bs i 0 l) (omega (arith, d, grows (n * 10 + digit_value (get_or bs i 0)) (drop (suc i) bs)))

pub digits_of : (bs : List ℕ) (n : ℕ) → Number bs n → (all_ascii_digits bs ≡ true) × (digits_value 10 bs ≡ n)
digits_of bs n (e, small) = let l : n < 2 ^ 64 = omega arith in (ap all_ascii_digits e ∙ digits_decimal own n l, ap (digits_value 10) e ∙ digits_value-decimal own n l)

pub some_of : (bs : List ℕ) (n : ℕ) → Number bs n → 0 < length bs
some_of bs n (e, small) = let l : n < 2 ^ 64 = omega arith in omega (arith, ap length e, decimal_nonempty n l)

-- its first byte is a digit
pub first-digit : (bs : List ℕ) (n : ℕ) → Number bs n → 48 ≤ get_or bs 0 0
first-digit [] n s = omega (arith, some_of [] n s)
first-digit (b ∷ bs) n s = leb-true 48 b (and_parts _ _ (and_parts _ _ (digits_of (b ∷ bs) n s).0).0).0

lead-of : (bs : List ℕ) (n : ℕ) → Number bs n → get_or bs 0 0 ≡ 48 → length bs ≡ 1
lead-of bs n (e, small) z =
    let l : n < 2 ^ 64 = omega arith in
    ⊎_elim (λ (h : n ≡ 0). ap length (e ∙ ap decimal h ∙ decimal_digit 0 (omega arith)))
    (λ (h : n ≡ 0 → ⊥). let p : 0 < n = omega arith in absurd (omega (arith, first_decimal n p l, ap (λ l. get_or l 0 0) e)))
    (cases_eq n 0)

-- the answers of `number_of`, way by way
pub none-empty : (bs : List ℕ) → length bs ≡ 0 → Reads (Number bs) None
none-empty bs e n s = omega (arith, some_of bs n s)

pub none-lead : (bs : List ℕ) → get_or bs 0 0 ≡ 48 → 2 ≤ length bs → Reads (Number bs) None
none-lead bs h l n s = omega (arith, lead-of bs n s h)

-- a numeral is its number's one text
pub plain : (bs : List ℕ) (r : Option ℕ) → 0 < length bs → (get_or bs 0 0 ≡ 48 → length bs ≤ 1) → SomeIff r ((all_ascii_digits bs ≡ true) × (digits_value 10 bs < 2 ^ 32)) (digits_value 10 bs) → Reads (Number bs) r
plain bs (Some n) some lead ((d, small), e) = rw e (sym (decimal-digits_value own bs d some (λ z. omega (arith, lead z)) (omega arith)), small)
plain bs None some lead none = λ n s. let d = digits_of bs n s in none (d.0, omega (arith, d.1, s.1))

-- the answers of `amount_of`, by how the field begins

neg_of : (bs ds : List ℕ) (z : ℤ) → bs ≡ 45 ∷ ds → Amount bs z → (m : ℕ) × (z ≡ negsuc m) × (ds ≡ decimal (suc m)) × (m < 2 ^ 31)
neg_of bs ds (pos n) e (s, l) = absurd (omega (arith, first-digit bs n (s, omega arith), ap (λ l. get_or l 0 0) e))
neg_of bs ds (negsuc n) e (s, l) = (n, refl, cc, omega (arith, l))

pos_of : (bs : List ℕ) (z : ℤ) → (get_or bs 0 0 ≡ 45 → ⊥) → Amount bs z → (m : ℕ) × (z ≡ pos m) × (bs ≡ decimal m) × (m < 2 ^ 31)
pos_of bs (pos n) e (s, l) = (n, refl, s, omega (arith, l))
pos_of bs (negsuc n) e (s, l) = absurd (e (ap (λ l. get_or l 0 0) s))

same : (m n : ℕ) (ds : List ℕ) → ds ≡ decimal m → ds ≡ decimal n → m < 2 ^ 32 → n < 2 ^ 32 → m ≡ n
same m n ds p q h k = decimal_injective m n (omega arith) (omega arith) (sym p ∙ q)

module _ (bs ds : List ℕ) (e : bs ≡ 45 ∷ ds) where
  pub minus-none : Reads (Number ds) None → Reads (Amount bs) None
  minus-none h z s = let p = neg_of bs ds z e s in h (suc p.0) (p.2, omega arith)

  pub minus-some : (n : ℕ) (r : Option ℤ) → Number ds n → SomeIff r ((n ≢ 0) × (n ≤ 2 ^ 31)) (negsuc (n - 1)) → Reads (Amount bs) r
  minus-some n (Some x) (s, l) ((some, fits), is) = let k : n ≡ suc (n - 1) = omega arith in rw is (e ∙ ap (λ l. 45 ∷ l) (s ∙ ap decimal k), omega arith)
  minus-some n None (s, l) none = λ z a. let p = neg_of bs ds z e a in let k : n ≡ suc p.0 = same n (suc p.0) ds s p.2 l (omega arith) in none (omega arith, omega arith)

pub plain-some : {E : Type 0} (bs ds : List ℕ) (n : ℕ) (r : Result ℤ E) → (ds ≡ bs) × (get_or bs 0 0 ≡ 45 → ⊥) → Number ds n → OkIff r (FitsSigned w32 (pos n)) (pos n) → Reads (Amount bs) (result_ok r)
plain-some bs ds n (Ok x) (d, e) (s, l) (fits, is) = rw is (sym d ∙ s, omega (arith, fits))
plain-some bs ds n (Err x) (d, e) (s, l) wide = λ y a. let p = pos_of bs y e a in wide (omega (arith, same n p.0 ds s (d ∙ p.2) l (omega arith)))
