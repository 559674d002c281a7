-- When two words are the same: in every part.
use Rattle.std.specs.Prelude.{Bool, true, false, ◌&&◌, ℤ, pos, negsuc, ◌==◌}
use Rattle.parts.specs.declared.types.Prices.{Prices}
use Rattle.parts.specs.declared.types.Rate.{Rate}
use Rattle.parts.specs.declared.types.Rate.TheVariants.{Unset, PerKilogram, PerPiece}

-- negsuc n is the integer -(n + 1)
abbrev pub same_amount : ℤ → ℤ → Bool
same_amount (pos a) (pos b) = a == b
same_amount (negsuc a) (negsuc b) = a == b
same_amount a b = false

abbrev pub same_prices : Prices → Prices → Bool
same_prices p q = p.retail == q.retail && p.wholesale == q.wholesale

abbrev pub same_rate : Rate → Rate → Bool
same_rate Unset Unset = true
same_rate (PerKilogram p) (PerKilogram q) = same_prices p q
same_rate (PerPiece p) (PerPiece q) = same_prices p q
same_rate a b = false
