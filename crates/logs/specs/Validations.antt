-- What a validation finds.
use Rattle.std.specs.Prelude.{◌≡◌, ℕ, Bool, true, false, List, map}
use Rattle.rules.specs.declared.types.Slot.{Slot}
use Rattle.logs.specs.declared.validation.Validation.{Validation}
use Rattle.logs.specs.declared.validation.Validation.TheVariants as validation

-- whether all words are the same, and which cells have been loaded
pub record Found {W : Type 0} (same : Bool) (cells : List ℕ) (valid : Bool) (loaded : List (Slot W)) : Type 0 where
  pub holding : same ≡ valid
  pub loads : map (λ s. s.cell) loaded ≡ cells

abbrev pub Finds : {W : Type 0} → Bool → List ℕ → Validation W → Type 0
Finds same cells (validation.Valid loaded) = Found same cells true loaded
Finds same cells (validation.Changed loaded) = Found same cells false loaded
