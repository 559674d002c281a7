-- Worked examples, computed by the rule book: amounts, on either board under a margin, with the plain policy. The first
-- two stand in docs/RULES.md.
use Rattle.std.specs.Prelude.{◌≡◌, ℕ, ◌*◌, List, [], ◌∷◌, ◌++◌, map, replicate, ℤ, pos, Some, None, Option}
use Rattle.parts.specs.Words.{same_amount}
use Rattle.parts.specs.Boards.{stores_line, stores_fit, lines_line, lines_fit, with_margin}
use Rattle.parts.specs.Policies.{plain_mode}
use Rattle.parts.specs.declared.policies.TheConstants.{PLAIN_PATIENCE}
use Rattle.parts.specs.declared.calls.Call.{Call}
use Rattle.parts.specs.declared.calls.Call.TheVariants.{Open, Read, Write, Close, Push, Jolt, Again, Drop}
use Rattle.rules.specs.declared.limits.TheConstants.{SLOTS}
use Rattle.rules.specs.declared.types.LentLists.TheVariants as lent
use Rattle.rules.specs.declared.types.MadeCall.{MadeCall}
use Rattle.rules.specs.Kit.{Kit}
use Rattle.rules.specs.Logs.{slot}
use Rattle.rules.specs.Bench.{Bench}
use Rattle.rules.specs.Refusals.{by_number, by_handle}
use Rattle.rules.specs.Calls.{new_table}
use Rattle.rules.specs.Answers.{Answer, answer_number, answer_value}
use Rattle.rules.specs.Runs.{answers_of, left_by}

-- the two boards, each under a margin
abbrev pub on_lines : Kit ℤ
on_lines = record {
  memory = record { same = same_amount; line = lines_line; fits = with_margin lines_fit };
  policy = record { next = plain_mode; patience = PLAIN_PATIENCE };
}

abbrev pub on_stores : Kit ℤ
on_stores = record {
  memory = record { same = same_amount; line = stores_line; fits = with_margin stores_fit };
  policy = record { next = plain_mode; patience = PLAIN_PATIENCE };
}

-- a rig of so many heads and cells that is set up, and the amounts that its cells hold
abbrev pub rig_with : ℕ → ℕ → List ℕ → Bench ℤ
rig_with heads cells amounts =
    let slots = replicate (SLOTS * heads) (slot 0 (pos 0)) in
    record { table = new_table heads cells; cells = map pos amounts; reads = slots; writes = slots }

-- a value, as an amount
abbrev pub as_amount : Option ℕ → Option ℤ
as_amount None = None
as_amount (Some n) = Some (pos n)

-- the value of an answer
abbrev pub value_shown : Answer ℤ → Option ℤ
value_shown = answer_value (λ w. w) pos

-- a call, and the number and the value that it returns
pub record Row : Type 0 where
  pub made : MadeCall ℤ
  pub number : ℕ
  pub value : Option ℕ

-- by a head's number
abbrev pub row : ℕ → Call ℕ ℤ → ℕ → Option ℕ → Row
row k call n v = record { made = record { lent = lent.Right; caller = by_number k; call = call }; number = n; value = v }

-- by a handle of the transaction t
abbrev pub handle_row : ℕ → ℕ → Call ℕ ℤ → ℕ → Option ℕ → Row
handle_row k t call n v = record { made = record { lent = lent.Right; caller = by_handle k t; call = call }; number = n; value = v }

-- with a list of wrong length
abbrev pub short_row : ℕ → Call ℕ ℤ → ℕ → Option ℕ → Row
short_row k call n v = record { made = record { lent = lent.Wrong; caller = by_number k; call = call }; number = n; value = v }

abbrev pub calls_of : List Row → List (MadeCall ℤ)
calls_of rows = map (λ (r : Row). r.made) rows

-- the rule book answers the calls of these rows, from this rig on, with their numbers and values, and leaves these amounts
pub record Sheet (kit : Kit ℤ) (b : Bench ℤ) (rows : List Row) (amounts : List ℕ) : Type 0 where
  pub numbers : map answer_number (answers_of kit b (calls_of rows)) ≡ map (λ (r : Row). r.number) rows
  pub values : map value_shown (answers_of kit b (calls_of rows)) ≡ map (λ (r : Row). as_amount r.value) rows
  pub cells : (left_by kit b (calls_of rows)).cells ≡ map pos amounts

-- the plain policy sends a head to software after three interrupts
abbrev pub to_software : ℕ → List Row
to_software k =
    row k Open 0 (Some 1) ∷
    row k Jolt 6 (Some 4) ∷
    row k Again 0 (Some 1) ∷
    row k Jolt 6 (Some 4) ∷
    row k Again 0 (Some 1) ∷
    row k Jolt 6 (Some 4) ∷
    row k Again 0 (Some 2) ∷ []

-- one head reads two cells while another reprices both, in hardware
abbrev pub RepricingSheet : Type 0
RepricingSheet =
    Sheet on_lines (rig_with 2 2 (1450 ∷ 1120 ∷ []))
    (
    row 0 Open 0 (Some 1) ∷
    row 0 (Read 0) 0 (Some 1450) ∷
    row 1 Open 0 (Some 1) ∷
    row 1 (Write 0 (pos 1500)) 0 None ∷
    row 1 (Write 1 (pos 1160)) 0 None ∷
    row 1 Close 0 (Some 1) ∷
    row 0 (Read 1) 6 (Some 1) ∷
    row 0 Again 0 (Some 1) ∷
    row 0 (Read 0) 0 (Some 1500) ∷
    row 0 (Read 1) 0 (Some 1160) ∷
    row 0 Close 0 (Some 2) ∷ []
    )
    (1500 ∷ 1160 ∷ [])

-- three interrupts send one head to software; the other changes what it has read, and is then locked out while it writes back
abbrev pub SoftwareSheet : Type 0
SoftwareSheet =
    Sheet on_lines (rig_with 2 2 (5 ∷ 7 ∷ []))
    (
    row 0 Open 0 (Some 1) ∷
    row 0 Jolt 6 (Some 4) ∷
    row 0 Again 0 (Some 1) ∷
    row 0 Jolt 6 (Some 4) ∷
    row 0 Again 0 (Some 1) ∷
    row 0 Jolt 6 (Some 4) ∷
    row 0 Again 0 (Some 2) ∷
    row 0 (Read 0) 0 (Some 5) ∷
    row 1 Open 0 (Some 1) ∷
    row 1 (Write 0 (pos 6)) 0 None ∷
    row 1 Close 0 (Some 1) ∷
    row 0 (Read 1) 6 (Some 5) ∷
    row 0 Again 0 (Some 2) ∷
    row 0 (Read 0) 0 (Some 6) ∷
    row 0 (Write 1 (pos 9)) 0 None ∷
    row 0 (Read 1) 0 (Some 9) ∷
    row 1 Open 0 (Some 1) ∷
    row 1 (Read 0) 0 (Some 6) ∷
    row 0 Close 1 (Some 5) ∷
    row 1 (Read 1) 6 (Some 3) ∷
    row 1 Again 7 None ∷
    row 0 Push 0 (Some 0) ∷
    row 1 Again 0 (Some 1) ∷
    row 1 (Read 1) 0 (Some 9) ∷
    row 1 Close 0 (Some 2) ∷ []
    )
    (6 ∷ 9 ∷ [])

-- what loads and validation do to other heads: nothing is validated while the snapshot is current; else each cell is
-- loaded, up to the first whose word differs
abbrev pub ValidationSheet : Type 0
ValidationSheet =
    Sheet on_lines (rig_with 3 9 (replicate 9 0))
    (to_software 0 ++ (
    row 0 (Read 0) 0 (Some 0) ∷
    row 1 Open 0 (Some 1) ∷
    row 1 (Write 1 (pos 5)) 0 None ∷
    row 0 (Read 4) 0 (Some 0) ∷
    row 1 (Read 1) 0 (Some 5) ∷
    row 2 Open 0 (Some 1) ∷
    row 2 (Write 8 (pos 9)) 0 None ∷
    row 2 Close 0 (Some 1) ∷
    row 0 (Read 8) 0 (Some 9) ∷
    row 1 (Read 1) 6 (Some 1) ∷
    row 2 Open 0 (Some 1) ∷
    row 2 (Write 4 (pos 3)) 0 None ∷
    row 2 Close 0 (Some 1) ∷
    row 1 Again 0 (Some 1) ∷
    row 1 (Write 6 (pos 6)) 0 None ∷
    row 2 Open 0 (Some 1) ∷
    row 2 (Write 8 (pos 7)) 0 None ∷
    row 0 (Read 1) 6 (Some 5) ∷
    row 1 (Read 6) 6 (Some 1) ∷
    row 2 (Read 8) 0 (Some 7) ∷
    row 2 Close 0 (Some 1) ∷ []
    ))
    (0 ∷ 0 ∷ 0 ∷ 0 ∷ 3 ∷ 0 ∷ 0 ∷ 0 ∷ 7 ∷ [])

-- what fits on the lines board under a margin: three lines touched, over both logs and with the cell of a read
abbrev pub LinesSheet : Type 0
LinesSheet =
    Sheet on_lines (rig_with 2 13 (replicate 13 0))
    (
    row 0 Open 0 (Some 1) ∷
    row 0 (Read 0) 0 (Some 0) ∷
    row 0 (Read 3) 0 (Some 0) ∷
    row 0 (Write 4 (pos 1)) 0 None ∷
    row 0 (Read 8) 0 (Some 0) ∷
    row 0 (Read 12) 6 (Some 2) ∷
    row 0 Again 0 (Some 1) ∷
    row 0 (Read 0) 0 (Some 0) ∷
    row 0 (Read 4) 0 (Some 0) ∷
    row 0 (Read 8) 0 (Some 0) ∷
    row 0 (Write 12 (pos 1)) 6 (Some 2) ∷ []
    )
    (0 ∷ 0 ∷ 0 ∷ 0 ∷ 0 ∷ 0 ∷ 0 ∷ 0 ∷ 0 ∷ 0 ∷ 0 ∷ 0 ∷ 0 ∷ [])

-- what fits on the stores board under a margin: 28 stores, also to one cell; the next attempt begins with none
abbrev pub StoresSheet : Type 0
StoresSheet =
    let store = Write 0 (pos 1) in
    Sheet on_stores (rig_with 1 1 (0 ∷ []))
    (
    row 0 Open 0 (Some 1) ∷
    (replicate 28 (row 0 store 0 None) ++ (
    row 0 store 6 (Some 2) ∷
    row 0 Again 0 (Some 1) ∷
    row 0 store 0 None ∷ []
    ))
    )
    (0 ∷ [])

-- while a head is writing back it takes only push; of the others, reads of own writes, writes, and closes without writes
-- do not wait
abbrev pub LockSheet : Type 0
LockSheet =
    Sheet on_lines (rig_with 3 2 (1 ∷ 2 ∷ []))
    (to_software 0 ++ (to_software 1 ++ (to_software 2 ++ (
    row 0 (Write 0 (pos 7)) 0 None ∷
    row 0 (Write 1 (pos 9)) 0 None ∷
    row 1 (Write 1 (pos 8)) 0 None ∷
    row 2 (Read 1) 0 (Some 2) ∷
    row 0 Close 1 (Some 4) ∷
    row 0 (Read 0) 5 None ∷
    row 0 Drop 5 None ∷
    row 1 (Read 1) 0 (Some 8) ∷
    row 1 (Write 0 (pos 3)) 0 None ∷
    row 1 Close 7 None ∷
    row 2 (Read 0) 7 None ∷
    row 2 Close 0 (Some 4) ∷
    row 2 Open 7 None ∷
    row 0 Push 0 (Some 1) ∷
    row 0 Push 0 (Some 0) ∷
    row 1 Close 1 (Some 4) ∷
    row 1 Push 0 (Some 1) ∷
    row 1 Push 0 (Some 0) ∷
    row 1 Push 5 None ∷ []
    ))))
    (3 ∷ 8 ∷ [])

-- refusals in their order, by head and by handle
abbrev pub RefusalsSheet : Type 0
RefusalsSheet =
    Sheet on_lines (rig_with 2 2 (1 ∷ 2 ∷ []))
    (
    short_row 9 (Read 9) 2 None ∷
    row 2 Open 3 None ∷
    handle_row 2 1 Open 3 None ∷
    row 0 (Read 2) 4 None ∷
    row 0 (Write 2 (pos 7)) 4 None ∷
    row 0 (Read 0) 5 None ∷
    row 0 Open 0 (Some 1) ∷
    handle_row 0 2 (Read 2) 12 None ∷
    handle_row 0 1 (Read 0) 0 (Some 1) ∷
    row 0 Open 5 None ∷
    row 0 Push 5 None ∷
    row 0 Jolt 6 (Some 4) ∷
    row 0 (Read 2) 4 None ∷
    row 0 (Read 0) 6 (Some 4) ∷
    row 0 (Write 0 (pos 7)) 6 (Some 4) ∷
    row 0 Close 6 (Some 4) ∷
    row 0 Jolt 5 None ∷
    row 0 Drop 0 None ∷
    row 0 Again 5 None ∷
    row 0 Open 0 (Some 1) ∷
    handle_row 0 1 Drop 12 None ∷
    handle_row 0 2 Drop 0 None ∷ []
    )
    (1 ∷ 2 ∷ [])
