-- A rig, and the lists that are lent to it, in the words of the rule book.
use Rattle.std.specs.Prelude.{◌≡◌, ℕ, List, Ok, Err, Option, Result}
use Rattle.parts.specs.declared.words.Word.{Ghosts as Words}
use Rattle.parts.specs.declared.boards.Board.{Ghosts as Boards}
use Rattle.parts.specs.declared.policies.Policy.{Ghosts as Policies}
use Rattle.rules.specs.declared.types.Head.{Head}
use Rattle.rules.specs.declared.types.Lists.{Lists}
use Rattle.rules.specs.declared.types.Refusal.{Refusal}
use Rattle.rules.specs.declared.types.Slot.{Slot}
use Rattle.rules.specs.Kit.{Kit, kit_of}
use Rattle.rules.specs.Bench.{Bench, bench, bench_with, head_of}
use Rattle.rules.specs.Refusals.{lengths_match}
use Rattle.rules.specs.Calls.{new_table, set_up}
use Rattle.rig.specs.declared.rig.Rig.{Rig}

module _ {B P : Type 0} where
  -- a rig and three lists on the bench
  abbrev pub rig_bench : {W : Type 0} → Rig B P → List W → List (Slot W) → List (Slot W) → Bench W
  rig_bench rig cells reads writes = bench rig.table cells reads writes

  -- and three lists that are only looked into
  abbrev pub rig_bench_with : {W : Type 0} → Rig B P → Lists W → Bench W
  rig_bench_with rig lists = bench_with rig.table lists

  -- what the rig is over, by what its words, its board and its policy mean
  abbrev pub rig_kit : {W : Type 0} → Words W → Boards B → Policies P → Rig B P → Kit W
  rig_kit words boards policies rig = kit_of words boards policies rig.board rig.policy

  -- what the rig keeps of the head k, if there is such a head
  abbrev pub head_in : Rig B P → ℕ → Option Head
  head_in rig k = head_of rig.table k

  -- what every call keeps: the rig its board and its policy, and whether the lists have the right lengths
  pub record Kept {W : Type 0} (old new : Rig B P) (before after : Bench W) : Type 0 where
    pub board : new.board ≡ old.board
    pub policy : new.policy ≡ old.policy
    pub lengths : lengths_match after ≡ lengths_match before

  -- the rig has this board and this policy
  pub record IsOver (on : B) (under : P) (rig : Rig B P) : Type 0 where
    pub board : rig.board ≡ on
    pub policy : rig.policy ≡ under

  -- the rig is as set-up makes it
  pub record IsNew (heads cells : ℕ) (on : B) (under : P) (rig : Rig B P) : Type 0 where
    pub table : rig.table ≡ new_table heads cells
    pub over : IsOver on under rig

  -- a rig is set up, or refused, as the rule book says
  abbrev pub SetUpAs : ℕ → ℕ → B → P → Result (Rig B P) Refusal → Type 0
  SetUpAs heads cells board policy (Ok rig) = (set_up heads cells ≡ Ok (new_table heads cells)) × IsNew heads cells board policy rig
  SetUpAs heads cells board policy (Err e) = set_up heads cells ≡ Err e
