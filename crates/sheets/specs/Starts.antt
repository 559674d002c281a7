-- What a run begins with.
use Rattle.std.specs.Prelude.{ℕ, ◌*◌, ◌<◌, ℤ, pos, List, fold, replicate, slice_set, All, IsTrue}
use Rattle.entries.specs.declared.types.Setting.{Setting}
use Rattle.entries.specs.declared.types.HeadCall.{HeadCall}
use Rattle.rules.specs.declared.limits.TheConstants.{SLOTS}
use Rattle.rules.specs.declared.types.LentLists.TheVariants as lent
use Rattle.rules.specs.declared.types.MadeCall.{MadeCall}
use Rattle.rules.specs.Logs.{slot}
use Rattle.rules.specs.Bench.{Bench, bench}
use Rattle.parts.specs.Sizes.{in_range}
use Rattle.rules.specs.Calls.{new_table}
use Rattle.rules.specs.Refusals.{by_number}

-- each call is made by its head's number, with lists of right length
abbrev pub made_call : HeadCall → MadeCall ℤ
made_call k = record { lent = lent.Right; caller = by_number k.head; call = k.call }

-- the cells before the first call: all 0, and then each setting in its order puts its amount into its cell
abbrev pub cells_before : ℕ → List Setting → List ℤ
cells_before cells settings =
    fold (λ words (s : Setting). slice_set words s.cell s.amount) (replicate cells (pos 0)) settings

-- the bench before the first call: a rig newly set up, those cells, and slots that no log holds
abbrev pub first_bench : ℕ → ℕ → List Setting → Bench ℤ
first_bench heads cells settings =
    let slots = replicate (SLOTS * heads) (slot 0 (pos 0)) in
    bench (new_table heads cells) (cells_before cells settings) slots slots

-- a run can begin: such a rig is set up, and the settings name cells of it
pub record CanBegin (heads cells : ℕ) (settings : List Setting) : Type 0 where
  pub in_range : IsTrue (in_range heads cells)
  pub within : All (λ (s : Setting). s.cell < cells) settings
