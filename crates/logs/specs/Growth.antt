-- What becomes of a head's part of the slots when its log is added to.
use Rattle.std.specs.Prelude.{ℕ, not, ◌&&◌, List, ◌++◌, length, drop, Ok, Err, Result, nat_le, slice_set, min, ◌+◌, if◌then◌else◌}
use Rattle.rules.specs.declared.limits.TheConstants.{SLOTS}
use Rattle.rules.specs.declared.types.Refusal.{Refusal}
use Rattle.rules.specs.declared.types.Refusal.TheVariants as refuse
use Rattle.rules.specs.declared.types.Slot.{Slot}
use Rattle.rules.specs.Logs.{names}

-- how many slots a log over this part can have
abbrev pub room_in : {W : Type 0} → List (Slot W) → ℕ
room_in part = min (length part) SLOTS

-- the part with this log laid over its first slots
abbrev pub laid : {W : Type 0} → List (Slot W) → List (Slot W) → List (Slot W)
laid log part = log ++ drop (length log) part

-- what adding to a log answers, and the part and the count that it leaves
pub record Grown (W : Type 0) : Type 0 where
  pub answer : Result (Unit {0}) Refusal
  pub part : List (Slot W)
  pub count : ℕ

-- the log over the part becomes this one, unless that needs a new slot for the cell and there is none
abbrev pub grown : {W : Type 0} → ℕ → List (Slot W) → List (Slot W) → List (Slot W) → Grown W
grown c new log part =
    if not (names c log) && nat_le (room_in part) (length log)
    then record { answer = Err refuse.Full; part = part; count = length log }
    else record { answer = Ok tt; part = laid new part; count = length new }

-- the slot becomes the n-th of the part, if a log over it can have one more than n
abbrev pub pushed : {W : Type 0} → Slot W → List (Slot W) → ℕ → Grown W
pushed s part n =
    if nat_le (room_in part) n
    then record { answer = Err refuse.Full; part = part; count = n }
    else record { answer = Ok tt; part = slice_set part n s; count = n + 1 }
