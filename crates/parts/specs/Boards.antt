-- The line of a cell, and which attempts fit, on each board.
use Rattle.std.specs.Prelude.{ℕ, ◌+◌, ◌/◌, min, Bool, nat_le}

-- a count of 16 bits, held at 65,535
abbrev pub held_count : ℕ → ℕ
held_count n = min n 65535

abbrev pub stores_line : ℕ → ℕ
stores_line cell = cell / 8

abbrev pub stores_fit : ℕ → ℕ → Bool
stores_fit stores lines = nat_le stores 32

abbrev pub lines_line : ℕ → ℕ
lines_line cell = cell / 4

abbrev pub lines_fit : ℕ → ℕ → Bool
lines_fit stores lines = nat_le lines 4

-- what fits under a margin is what fits below with four stores and one line more
abbrev pub with_margin : (ℕ → ℕ → Bool) → ℕ → ℕ → Bool
with_margin fits stores lines = fits (held_count (stores + 4)) (held_count (lines + 1))
