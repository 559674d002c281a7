-- What the bytes of a field write, by the one numeral that each value has.
use Rattle.std.specs.Prelude.{◌≡◌, ℕ, ◌^◌, ◌<◌, List, ◌∷◌, ℤ, Some, None, Ok, Err, decimal, Option, Result, ◌≢◌, slice_index, FitsSigned}
use Rattle.std.specs.Int.{w32}
use Rattle.std.specs.Fmt.{signed_decimal}
use Rattle.fields.specs.declared.numbers.TheConstants.{MINUS}
use Rattle.fields.specs.declared.types.Field.{Field}
use Rattle.fields.specs.declared.types.Field.TheVariants.{Minus, Plain}
use Rattle.faults.specs.declared.types.FieldFault.{FieldFault}

-- `decimal n` is the numeral of n: digits, without plus sign or leading zeros. A number fits into 32 bits.
abbrev pub Number : List ℕ → ℕ → Type 0
Number bytes n = (bytes ≡ decimal n) × (n < 2 ^ 32)

-- `signed_decimal z` is the numeral of z: that of its size, after a minus sign if z is below 0.
-- An amount fits into 32 signed bits.
abbrev pub Amount : List ℕ → ℤ → Type 0
Amount bytes z = (bytes ≡ signed_decimal z) × FitsSigned w32 z

-- what a field is read as: a value that it writes, or this fault where it writes none
abbrev pub FieldRead : {V : Type 0} → (V → Type 0) → FieldFault → Result V FieldFault → Type 0
FieldRead Writes fault (Ok v) = Writes v
FieldRead {V = V} Writes fault (Err f) = (f ≡ fault) × ((v : V) → Writes v → ⊥)

-- how a field begins: with a minus sign, or in another way
abbrev pub Begins : Field → List ℕ → Type 0
Begins (Minus digits) bytes = bytes ≡ MINUS ∷ digits.now
Begins (Plain all) bytes = (all.now ≡ bytes) × (slice_index bytes 0 ≢ MINUS)

-- The words below are for the steps of reading a number.

-- Some value that is written, or None where none is
abbrev pub Reads : {V : Type 0} → (V → Type 0) → Option V → Type 0
Reads {V = V} Writes None = (v : V) → Writes v → ⊥
Reads Writes (Some v) = Writes v
