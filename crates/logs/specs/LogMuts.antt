-- What a log that is added to holds.
use Rattle.std.specs.Prelude.{◌≡◌, List, Result, take}
use Rattle.std.specs.Borrow.{MutBor}
use Rattle.rules.specs.declared.types.Refusal.{Refusal}
use Rattle.rules.specs.declared.types.Slot.{Slot}
use Rattle.logs.specs.declared.growing.LogMut.{LogMut}
use Rattle.logs.specs.Growth.{Grown}

module _ {W : Type 0} (l : LogMut W) where
  -- its head's part of the slots
  abbrev pub part_in : List (Slot W)
  part_in = l.part.now

  -- the slots of the log, which are the first of them
  abbrev pub log_in : List (Slot W)
  log_in = take l.count l.part.now

-- it is over this memory, and stays over the same
abbrev pub IsOver : {W : Type 0} → MutBor (List (Slot W)) → LogMut W → Type 0
IsOver slots l = l.part.ghost_name ≡ slots.ghost_name

abbrev pub StaysOver : {W : Type 0} → LogMut W → LogMut W → Type 0
StaysOver old new = new.part.ghost_name ≡ old.part.ghost_name

-- with what adding to it answered
abbrev pub grown_to : {W : Type 0} → Result (Unit {0}) Refusal → LogMut W → Grown W
grown_to answer l = record { answer = answer; part = l.part.now; count = l.count }
