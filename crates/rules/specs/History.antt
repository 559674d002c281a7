-- What calls and answers alone tell of a run: the commits in their order, every attempt and every transaction.
use Rattle.std.specs.Prelude.{ℕ, ◌+◌, Bool, true, false, not, ◌&&◌, List, [], ◌∷◌, ◌++◌, length, take, drop, Some, None, Ok, filter, Option, ◌==◌, if◌then◌else◌, reverse}
use Rattle.parts.specs.declared.calls.Call.{Call}
use Rattle.parts.specs.declared.calls.Call.TheVariants.{Open, Read, Write, Close, Push, Again, Drop}
use Rattle.rules.specs.declared.types.Closing.{Closing}
use Rattle.rules.specs.declared.types.Closing.TheVariants as closing
use Rattle.rules.specs.declared.types.Granted.TheVariants as granted
use Rattle.rules.specs.declared.types.MadeCall.{MadeCall}
use Rattle.rules.specs.declared.types.Slot.{Slot}
use Rattle.rules.specs.Logs.{is_empty, slot, names, word_for, put_in}
use Rattle.rules.specs.Answers.{Answer, attempts_told}

-- a granted close: whose it was, and the granted writes of the transaction's last attempt, in their order
pub record GrantedClose (W : Type 0) : Type 0 where
  pub head : ℕ
  pub writes : List (Slot W)

-- a word that was read of a cell which the attempt had written, and the latest word that it had written there
pub record OwnRead (W : Type 0) : Type 0 where
  pub word : W
  pub latest : Option W

-- an attempt: how many closes were granted before it began, the words that it read from the cells, those that it read of
-- its own writes, its granted writes, and, if it closed, how many closes were granted before its own
pub record Attempt (W : Type 0) : Type 0 where
  pub began : ℕ
  pub reads : List (Slot W)
  pub own_reads : List (OwnRead W)
  pub writes : List (Slot W)
  pub closed : Option ℕ

-- a transaction that has ended: how many closes were granted before its open and before its end, its attempts, and
-- the number that its granted close told
pub record EndedTransaction : Type 0 where
  pub head : ℕ
  pub since : ℕ
  pub until : ℕ
  pub attempts : ℕ
  pub told : Option ℕ

-- what is known of a head: its present or latest attempt, how many closes were granted before its latest open, the
-- attempts of that transaction so far, and whether it is writing back
pub record Page (W : Type 0) : Type 0 where
  pub attempt : Attempt W
  pub since : ℕ
  pub attempts : ℕ
  pub writing_back : Bool

-- the granted closes, a page for each head, the earlier attempts, and the transactions that have ended
pub record History (W : Type 0) : Type 0 where
  pub closes : List (GrantedClose W)
  pub pages : ℕ → Page W
  pub past : List (Attempt W)
  pub ended : List EndedTransaction

-- an attempt that begins after so many closes
abbrev pub new_attempt : {W : Type 0} → ℕ → Attempt W
new_attempt n = record { began = n; reads = []; own_reads = []; writes = []; closed = None }

-- before any call
abbrev pub blank_page : {W : Type 0} → Page W
blank_page = record { attempt = new_attempt 0; since = 0; attempts = 0; writing_back = false }

abbrev pub nothing_yet : {W : Type 0} → History W
nothing_yet = record { closes = []; pages = λ _. blank_page; past = []; ended = [] }

-- the word that was put last into the cell by these writes
abbrev pub last_written : {W : Type 0} → ℕ → List (Slot W) → Option W
last_written c writes = word_for c (reverse writes)

-- the pages with another one for the head k
abbrev pub pages_with : {X : Type 0} → (ℕ → X) → ℕ → X → ℕ → X
pages_with pages k page j = if j == k then page else pages j

-- whether a granted close left writes to be pushed
abbrev pub starts_write_back : Closing → Bool
starts_write_back (closing.Complete n) = false
starts_write_back (closing.WritingBack n) = true

module _ {W : Type 0} (l : History W) (k : ℕ) where
  abbrev page : Page W
  page = l.pages k

  abbrev count : ℕ
  count = length l.closes

  -- the history with another page of the head k
  abbrev with_page : Page W → History W
  with_page p = record l { pages = pages_with l.pages k p }

  -- an attempt of the head k has begun
  abbrev with_attempt : ℕ → ℕ → History W
  with_attempt since attempts =
      let new : Page W = record { attempt = new_attempt count; since = since; attempts = attempts; writing_back = false } in
      record (with_page new) { past = page.attempt ∷ l.past }

  -- its transaction has ended
  abbrev with_end : Option ℕ → History W → History W
  with_end told h =
      let end : EndedTransaction = record { head = k; since = page.since; until = count; attempts = page.attempts; told = told } in
      record h { ended = end ∷ l.ended }

  -- a granted read: the word is one from the cells if no earlier granted write of the attempt names the cell
  abbrev attempt_read : ℕ → W → Attempt W
  attempt_read c w =
      let a = page.attempt in
      if names c a.writes
      then record a { own_reads = a.own_reads ++ (record { word = w; latest = last_written c a.writes } ∷ []) }
      else record a { reads = a.reads ++ (slot c w ∷ []) }

  abbrev after_read : ℕ → W → History W
  after_read c w = with_page (record page { attempt = attempt_read c w })

  -- a granted write
  abbrev after_write : ℕ → W → History W
  after_write c w =
      let a = page.attempt in
      with_page (record page { attempt = record a { writes = a.writes ++ (slot c w ∷ []) } })

  -- a granted close
  abbrev after_close : Closing → History W
  after_close how =
      let a = page.attempt in
      let new = record page { attempt = record a { closed = Some count }; writing_back = starts_write_back how } in
      let close : GrantedClose W = record { head = k; writes = a.writes } in
      with_end (Some (attempts_told how)) (record (with_page new) { closes = l.closes ++ (close ∷ []) })

  -- a push that leaves so many slots
  abbrev after_push : ℕ → History W
  after_push n = if n == 0 then with_page (record page { writing_back = false }) else l

  -- the history after one more call of the head k, by what a granted call gave; a refusal leaves it as it is
  abbrev pub history_after : Call ℕ W → Answer W → History W
  history_after Open (Ok g) = with_attempt count 1
  history_after (Read c) (Ok (granted.Word w)) = after_read c w
  history_after (Write c w) (Ok g) = after_write c w
  history_after Close (Ok (granted.Closed how)) = after_close how
  history_after Push (Ok (granted.SlotsLeft n)) = after_push n
  history_after Again (Ok g) = with_attempt page.since (page.attempts + 1)
  history_after Drop (Ok g) = with_end None l
  history_after call answer = l

-- the history of calls and their answers
abbrev pub history_of : {W : Type 0} → History W → List (MadeCall W) → List (Answer W) → History W
history_of l [] answers = l
history_of l (call ∷ calls) [] = l
history_of l (call ∷ calls) (a ∷ answers) = history_of (history_after l call.caller.head call.call a) calls answers

-- the cells after these closes: each puts its writes in
abbrev pub cells_after : {W : Type 0} → List (GrantedClose W) → List W → List W
cells_after [] cells = cells
cells_after (c ∷ closes) cells = cells_after closes (put_in c.writes cells)

-- a close with writes, of another head than k
abbrev pub is_other : {W : Type 0} → ℕ → GrantedClose W → Bool
is_other k c = not (k == c.head) && not (is_empty c.writes)

-- how many of them were granted after the first `since` closes and among the first `until`
abbrev pub closes_of_others : {W : Type 0} → List (GrantedClose W) → ℕ → ℕ → ℕ → ℕ
closes_of_others closes k since until = length (filter (is_other k) (drop since (take until closes)))
