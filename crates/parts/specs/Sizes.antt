-- How large a rig may be.
use Rattle.std.specs.Prelude.{ℕ, Bool, ◌&&◌, nat_le}
use Rattle.parts.specs.declared.sizes.TheConstants.{MOST_HEADS, MOST_CELLS}

-- 1 to 8 heads, and 1 to 1,024 cells
abbrev pub in_range : ℕ → ℕ → Bool
in_range heads cells = (nat_le 1 heads && nat_le heads MOST_HEADS) && (nat_le 1 cells && nat_le cells MOST_CELLS)
