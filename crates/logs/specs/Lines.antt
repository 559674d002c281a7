-- Lines, log by log.
use Rattle.std.specs.List.{list_any}
use Rattle.std.specs.Prelude.{◌≡◌, ℕ, ◌%◌, Bool, true, false, List, slice_index_or}
use Rattle.rules.specs.declared.types.Slot.{Slot}
use Rattle.rules.specs.Logs.{touches}

-- the most slots of a log that has them by a count of 8 bits
abbrev pub most_counted : ℕ
most_counted = 255

module _ {W : Type 0} (line : ℕ → ℕ) where
  -- whether a cell of the one log is on the line of one of the other's
  abbrev pub shares_line : List (Slot W) → List (Slot W) → Bool
  shares_line log other = list_any (λ s. touches line (line s.cell) other) log

  -- for each line that the log touches the remainder by 64 is marked; so a line whose remainder is not is none of them
  abbrev pub Marked : List Bool → List (Slot W) → Type 0
  Marked marks log = (l : ℕ) → touches line l log ≡ true → slice_index_or marks (l % 64) false ≡ true
