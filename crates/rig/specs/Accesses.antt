-- The cells that an access loads.
use Rattle.std.specs.Prelude.{ℕ, List, [], ◌∷◌, ◌++◌, map, Some, None, Option}
use Rattle.rules.specs.declared.types.Slot.{Slot}

-- one element, or none
abbrev pub option_list : {X : Type 0} → Option X → List X
option_list None = []
option_list (Some x) = x ∷ []

-- the cells of a log, and perhaps one more
abbrev pub cells_of : {W : Type 0} → List (Slot W) → Option ℕ → List ℕ
cells_of log cell = map (λ s. s.cell) log ++ option_list cell
