-- The calls that are made.
use Rattle.std.specs.Prelude.{ℕ, zero, suc, ℤ, pos, List, [], ◌∷◌, ◌++◌}
use Rattle.parts.specs.declared.calls.Call.{Call}
use Rattle.parts.specs.declared.calls.Call.TheVariants.{Open, Read, Write, Close, Drop}
use Rattle.rules.specs.declared.types.LentLists.TheVariants as lent
use Rattle.rules.specs.declared.types.MadeCall.{MadeCall}
use Rattle.rules.specs.Refusals.{by_number}

-- a call by its head's number, with lists of right length
abbrev pub made_by : ℕ → Call ℕ ℤ → MadeCall ℤ
made_by k call = record { lent = lent.Right; caller = by_number k; call = call }

-- the head k opens a transaction and drops it, so many times
unfoldable pub opens_and_drops : ℕ → ℕ → List (MadeCall ℤ)
opens_and_drops k zero = []
opens_and_drops k (suc n) = opens_and_drops k n ++ (made_by k Open ∷ made_by k Drop ∷ [])

-- head 0 opens the last but one, and head 1 the last; both are then refused another
abbrev pub shown : List (MadeCall ℤ)
shown =
    made_by 0 Open ∷ made_by 0 Drop ∷ made_by 1 Open ∷ made_by 0 Open
    ∷ made_by 1 (Read 0) ∷ made_by 1 (Write 0 (pos 7)) ∷ made_by 1 Close ∷ made_by 1 Open ∷ made_by 0 Open ∷ []
