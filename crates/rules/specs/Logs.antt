-- Logs. A log is a list of slots, the lowest first; the lowest slot that names a cell counts.
use Rattle.std.specs.List.{slice_get, list_any}
use Rattle.std.specs.Prelude.{ℕ, suc, ◌+◌, ◌*◌, Bool, true, false, not, ◌&&◌, List, [], ◌∷◌, ◌++◌, map, length, take, drop, Some, None, Option, ◌==◌, nat_lt, nat_le, slice_set, if◌then◌else◌}
use Rattle.rules.specs.declared.limits.TheConstants.{SLOTS}
use Rattle.rules.specs.declared.types.Slot.{Slot}

abbrev pub is_empty : {X : Type 0} → List X → Bool
is_empty [] = true
is_empty (x ∷ xs) = false

abbrev pub slot : {W : Type 0} → ℕ → W → Slot W
slot c w = record { cell = c; word = w }

-- whether the log has a slot for the cell
abbrev pub names : {W : Type 0} → ℕ → List (Slot W) → Bool
names c log = list_any (λ s. c == s.cell) log

-- the log's word for the cell
abbrev pub word_for : {W : Type 0} → ℕ → List (Slot W) → Option W
word_for c [] = None
word_for c (s ∷ log) = if c == s.cell then Some s.word else word_for c log

-- the log after a write: the cell's slot is replaced, or one is added
abbrev pub put : {W : Type 0} → ℕ → W → List (Slot W) → List (Slot W)
put c w [] = slot c w ∷ []
put c w (s ∷ log) = if c == s.cell then slot c w ∷ log else s ∷ put c w log

-- the log after a read: a slot is added if the cell has none
abbrev pub note : {W : Type 0} → ℕ → W → List (Slot W) → List (Slot W)
note c w log = if names c log then log else log ++ (slot c w ∷ [])

-- a new slot is needed for the cell, and the log has them all
abbrev pub lacks_room_for : {W : Type 0} → ℕ → List (Slot W) → Bool
lacks_room_for c log = not (names c log) && nat_le SLOTS (length log)

-- whether a cell of the log is on the line
abbrev pub touches : {W : Type 0} → (ℕ → ℕ) → ℕ → List (Slot W) → Bool
touches line l log = list_any (λ s. l == line s.cell) log

-- the line of each slot's cell
abbrev pub lines_of : {W : Type 0} → (ℕ → ℕ) → List (Slot W) → List ℕ
lines_of line log = map (λ s. line s.cell) log

-- how many different numbers there are
abbrev pub distinct_count : List ℕ → ℕ
distinct_count [] = 0
distinct_count (x ∷ xs) = if list_any (x ==◌) xs then distinct_count xs else suc (distinct_count xs)

-- lines touched: how many different lines the cells of both logs are on, and with one cell more
module _ {W : Type 0} (line : ℕ → ℕ) where
  abbrev pub lines_touched : List (Slot W) → List (Slot W) → ℕ
  lines_touched reads writes = distinct_count (lines_of line (reads ++ writes))

  abbrev pub lines_touched_with : ℕ → List (Slot W) → List (Slot W) → ℕ
  lines_touched_with c reads writes = distinct_count (line c ∷ lines_of line (reads ++ writes))

-- the cells with the log's words put in, in order; a cell that is not there gets none
abbrev pub put_in : {W : Type 0} → List (Slot W) → List W → List W
put_in [] cells = cells
put_in (s ∷ log) cells = put_in log (slice_set cells s.cell s.word)

-- whether the word that a cell holds, if there is one, is the same as v
abbrev pub holds_same : {W : Type 0} → (W → W → Bool) → W → Option W → Bool
holds_same same v None = false
holds_same same v (Some w) = same w v

-- validation of a log, by the test of words and by the cells
module _ {W : Type 0} (same : W → W → Bool) (cells : List W) where
  -- whether the slot's cell holds the slot's word; a cell that is not there does not
  abbrev pub holds : Slot W → Bool
  holds s = holds_same same s.word (slice_get cells s.cell)

  -- the cells that validation loads, slot by slot, up to the first whose word differs; that one too, if it is there
  abbrev pub cells_loaded : List (Slot W) → List ℕ
  cells_loaded [] = []
  cells_loaded (s ∷ log) =
      if holds s then s.cell ∷ cells_loaded log else (if nat_lt s.cell (length cells) then s.cell ∷ [] else [])

-- the log of the head k: the first n of its slots
abbrev pub log_of : {W : Type 0} → ℕ → ℕ → List (Slot W) → List (Slot W)
log_of k n slots = take n (drop (SLOTS * k) slots)

-- the slots with a log laid over the first ones of the head k
abbrev pub slots_with : {W : Type 0} → ℕ → List (Slot W) → List (Slot W) → List (Slot W)
slots_with k log slots = take (SLOTS * k) slots ++ (log ++ drop (SLOTS * k + length log) slots)
