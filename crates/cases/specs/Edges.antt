-- The cases at the edges, as one list: what is asked of a rig, and what comes of it.
use Rattle.std.specs.Prelude.{◌≡◌, ℕ, zero, suc, ◌+◌, length, List, [], ◌∷◌, ◌++◌, map, replicate, ℤ, pos, Bool, false, Ok, Err, Option, Some, None, Result, All}
use Rattle.parts.specs.declared.calls.Call.TheVariants.{Open, Read, Write, Close, Jolt, Again}
use Rattle.parts.specs.declared.types.Prices.{Prices}
use Rattle.parts.specs.declared.types.Rate.{Rate}
use Rattle.parts.specs.declared.types.Rate.TheVariants.{PerKilogram, PerPiece}
use Rattle.rules.specs.declared.types.Refusal.{Refusal}
use Rattle.rules.specs.declared.types.Table.{Table}
use Rattle.rules.specs.declared.limits.TheConstants.{MOST_TRANSACTIONS, MOST_ATTEMPTS}
use Rattle.rules.specs.Kit.{Kit}
use Rattle.rules.specs.Bench.{Bench}
use Rattle.rules.specs.Calls.{set_up}
use Rattle.rules.specs.Answers.{answer_number, refusal_number}
use Rattle.rules.specs.Runs.{answers_of}
use Rattle.rules.specs.Examples.{Row, row, rig_with, to_software, as_amount, value_shown, calls_of}

-- what is asked, and what comes of it
pub data Case : Type 0 where
  -- set-up of so many heads and cells returns the number
  SetUp : ℕ → ℕ → ℕ → Case
  -- on a rig of so many heads, with these amounts in its cells, the calls return these numbers and values
  Calls : Kit ℤ → ℕ → List ℕ → List Row → Case
  -- whether two rates are the same
  Rates : (Rate → Rate → Bool) → Rate → Rate → Bool → Case

-- set-up returns 0 or the number of its refusal
abbrev pub set_up_number : Result Table Refusal → ℕ
set_up_number (Ok t) = 0
set_up_number (Err e) = refusal_number e

-- the number and the value of each answer
abbrev pub returned : Kit ℤ → Bench ℤ → List Row → List (ℕ × Option ℤ)
returned kit b rows = map (λ a. (answer_number a, value_shown a)) (answers_of kit b (calls_of rows))

abbrev pub wanted : List Row → List (ℕ × Option ℤ)
wanted rows = map (λ (r : Row). (r.number, as_amount r.value)) rows

-- what a case says is what the rule book says
abbrev pub Holds : Case → Type 0
Holds (SetUp heads cells n) = set_up_number (set_up heads cells) ≡ n
Holds (Calls kit heads amounts rows) = returned kit (rig_with heads (length amounts) amounts) rows ≡ wanted rows
Holds (Rates same a b told) = same a b ≡ told

-- the rows so many times over
abbrev pub times : ℕ → List Row → List Row
times zero rows = []
times (suc n) rows = rows ++ times n rows

-- the cells first, first + step, and so on, so many of them
abbrev pub cells_by : ℕ → ℕ → ℕ → List ℕ
cells_by step first zero = []
cells_by step first (suc n) = first ∷ cells_by step (first + step) n

abbrev pub zeros : ℕ → List ℕ
zeros n = replicate n 0

-- the head k reads these cells, and finds 0 in each
abbrev pub reads_zero : ℕ → List ℕ → List Row
reads_zero k cells = map (λ c. row k (Read c) 0 (Some 0)) cells

-- an interrupt, and how the next attempt runs: 1 in hardware, 2 in software
abbrev pub interrupted : ℕ → ℕ → List Row
interrupted k mode = row k Jolt 6 (Some 4) ∷ row k Again 0 (Some mode) ∷ []

-- a conflict: the head k writes a cell, which the head j reads in software; then its next attempt
abbrev pub in_conflict : ℕ → ℕ → ℕ → List Row
in_conflict k j mode =
    row k (Write 0 (pos 7)) 0 None ∷ row j (Read 0) 0 (Some 0) ∷ row k Close 6 (Some 1) ∷ row k Again 0 (Some mode) ∷ []

-- the head k is in software by the careful policy
abbrev pub carefully_to_software : ℕ → List Row
carefully_to_software k = row k Open 0 (Some 1) ∷ (times 4 (interrupted k 1) ++ interrupted k 2)

-- head 0, in software, has read 5 in cell 0; head 1 stores an amount there in hardware, and closes
abbrev pub stored_meanwhile : ℕ → List Row
stored_meanwhile n =
    to_software 0 ++ (
    row 0 (Read 0) 0 (Some 5) ∷
    row 1 Open 0 (Some 1) ∷
    row 1 (Write 0 (pos n)) 0 None ∷
    row 1 Close 0 (Some 1) ∷ []
    )

abbrev pub prices : ℕ → ℕ → Prices
prices retail wholesale = record { retail = retail; wholesale = wholesale }

-- with amounts on the stores board and on the lines board, each under a margin, by the plain policy; on the lines board by the
-- careful one; and with the test of rates
module _ (stores lines careful : Kit ℤ) (same : Rate → Rate → Bool) where
  abbrev pub edge_cases : List Case
  edge_cases =
      -- set-up
      SetUp 8 1024 0 ∷
      SetUp 1 1 0 ∷
      SetUp 0 1024 11 ∷
      SetUp 9 1024 11 ∷
      SetUp 8 1025 11 ∷
      SetUp 8 0 11 ∷
      -- a read log of 32 cells in software, with a current snapshot: rereading one needs no slot, a 33rd does
      Calls lines 1 (zeros 33) (
      to_software 0 ++ (reads_zero 0 (cells_by 1 0 32) ++ (
      row 0 (Read 0) 0 (Some 0) ∷
      row 0 (Read 31) 0 (Some 0) ∷
      row 0 (Read 32) 8 None ∷ []
      ))) ∷
      -- the stores board: 28 stores fit, one more does not
      Calls stores 1 (zeros 1) (
      row 0 Open 0 (Some 1) ∷ (times 28 (row 0 (Write 0 (pos 7)) 0 None ∷ []) ++ (
      row 0 (Write 0 (pos 7)) 6 (Some 2) ∷ []
      ))) ∷
      -- the lines board: three lines fit, one more does not
      Calls lines 1 (zeros 13) (
      row 0 Open 0 (Some 1) ∷ (reads_zero 0 (cells_by 4 0 3) ++ (
      row 0 (Read 12) 6 (Some 2) ∷ []
      ))) ∷
      -- the plain policy: hardware after abort 2, software after abort 3
      Calls lines 1 (zeros 1) (
      row 0 Open 0 (Some 1) ∷ (times 2 (interrupted 0 1) ++ interrupted 0 2)) ∷
      -- the careful policy, by interrupts: hardware after abort 4, software after abort 5
      Calls careful 1 (zeros 1) (carefully_to_software 0) ∷
      -- and by conflicts: hardware after abort 15, software after abort 16
      Calls careful 2 (zeros 1) (
      carefully_to_software 1 ++ (
      row 0 Open 0 (Some 1) ∷ (times 15 (in_conflict 0 1 1) ++ in_conflict 0 1 2)
      )) ∷
      -- the same prices, but per kilogram and per piece
      Rates same (PerKilogram (prices 1450 1120)) (PerPiece (prices 1450 1120)) false ∷
      -- what was read is stored again: the software transaction goes on
      Calls lines 2 (5 ∷ 0 ∷ []) (stored_meanwhile 5 ++ (row 0 (Read 1) 0 (Some 0) ∷ [])) ∷
      -- another amount is stored: it aborts
      Calls lines 2 (5 ∷ 0 ∷ []) (stored_meanwhile 6 ++ (row 0 (Read 1) 6 (Some 5) ∷ [])) ∷
      -- three aborts and then a close in software are four attempts
      Calls lines 1 (zeros 1) (to_software 0 ++ (row 0 Close 0 (Some 4) ∷ [])) ∷ []

  -- all of them
  abbrev pub EdgeCasesHold : Type 0
  EdgeCasesHold = All Holds edge_cases

-- the most transactions and the most attempts, to which no row comes
abbrev pub MostAreRight : Type 0
MostAreRight = (MOST_TRANSACTIONS ≡ 60000) × (MOST_ATTEMPTS ≡ 70000)
