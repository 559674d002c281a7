-- The laws of a run: three of what its transactions see and do, and one of handles. They speak of calls, answers and cells
-- alone, so every rig that answers alike and leaves the same cells has them.
use Rattle.std.specs.Prelude.{◌≡◌, ℕ, ◌+◌, ◌<◌, ◌≤◌, Bool, true, false, List, length, take, Some, Ok, All}
use Rattle.std.specs.List.{slice_get}
use Rattle.parts.specs.declared.calls.Call.{Call}
use Rattle.parts.specs.declared.calls.Call.TheVariants.{Open, Close, Push, Drop}
use Rattle.rules.specs.declared.types.Granted.{Granted}
use Rattle.rules.specs.declared.types.Granted.TheVariants as granted
use Rattle.rules.specs.declared.types.MadeCall.{MadeCall}
use Rattle.rules.specs.declared.types.Slot.{Slot}
use Rattle.rules.specs.Kit.{Kit}
use Rattle.rules.specs.Logs.{is_empty}
use Rattle.rules.specs.Bench.{Bench}
use Rattle.rules.specs.Refusals.{by_handle}
use Rattle.rules.specs.Calls.{set_up}
use Rattle.rules.specs.Answers.{Answer}
use Rattle.rules.specs.History.{History, GrantedClose, OwnRead, Attempt, EndedTransaction, starts_write_back, nothing_yet, history_of, cells_after, closes_of_others}
use Rattle.rules.specs.Runs.{answers_of, left_by}

-- each word is its cell's word
abbrev pub Agrees : {W : Type 0} → List W → List (Slot W) → Type 0
Agrees cells log = All (λ s. slice_get cells s.cell ≡ Some s.word) log

-- the most attempts of a transaction, by the policy's patience and the closes with writes of other heads since its open
abbrev pub most_attempts : ℕ → ℕ → ℕ
most_attempts patience closes = patience + 1 + closes

module _ {W : Type 0} (closes : List (GrantedClose W)) where
  -- one prefix of the closes, with every close granted before the attempt began in it, explains the attempt: after it
  -- every word that the attempt read from the cells is its cell's word; and if the attempt closed with writes, the
  -- prefix is exactly the closes before its own. Every other word that it read is the one that it wrote there last
  pub record Explained (cells : List W) (a : Attempt W) : Type 0 where
    pub prefix : ℕ
    pub is_prefix : prefix ≤ length closes
    pub has_earlier : a.began ≤ prefix
    pub explains : Agrees (cells_after (take prefix closes) cells) a.reads
    pub own_place : (q : ℕ) → a.closed ≡ Some q → is_empty a.writes ≡ false → prefix ≡ q
    pub own_reads : All (λ (r : OwnRead W). r.latest ≡ Some r.word) a.own_reads

  -- a transaction that has ended made no more, and its granted close told how many
  abbrev pub Bounded : ℕ → EndedTransaction → Type 0
  Bounded patience e =
      (e.attempts ≤ most_attempts patience (closes_of_others closes e.head e.since e.until))
      × ((n : ℕ) → e.told ≡ Some n → n ≡ e.attempts)

pub record ThreeLaws {W : Type 0} (patience : ℕ) (cells now : List W) (l : History W) : Type 0 where
  -- while no head is writing back, the cells are those at set-up with the writes of all closes put in, in order
  pub settled : ((k : ℕ) → (l.pages k).writing_back ≡ false) → now ≡ cells_after l.closes cells
  -- every attempt is explained: the earlier ones, and each head's present or latest one
  pub explained : All (Explained l.closes cells) l.past
  pub explained_now : (k : ℕ) → Explained l.closes cells (l.pages k).attempt
  -- every transaction is bounded: those that have ended, and each head's present one as far as it has come
  pub bounded : All (Bounded l.closes patience) l.ended
  pub bounded_now : (k : ℕ) →
      (l.pages k).attempts ≤ most_attempts patience (closes_of_others l.closes k (l.pages k).since (length l.closes))

-- the laws hold of these calls and answers, from these cells to those
abbrev pub LawsHold : {W : Type 0} → ℕ → List W → List W → List (MadeCall W) → List (Answer W) → Type 0
LawsHold patience cells now calls answers = ThreeLaws patience cells now (history_of nothing_yet calls answers)

-- the three laws, of every list of calls on every rig that is set up, whatever the lists hold then, as long as nobody
-- else writes them between two calls
abbrev pub LawsOfRuns : {W : Type 0} → Kit W → Type 0
LawsOfRuns {W} kit =
    (heads cells : ℕ) (b : Bench W) (calls : List (MadeCall W)) → set_up heads cells ≡ Ok b.table
    → LawsHold kit.policy.patience b.cells (left_by kit b calls).cells calls (answers_of kit b calls)

-- the calls that end a transaction, where they are granted
abbrev pub ends : {W : Type 0} → Call ℕ W → Bool
ends Close = true
ends Drop = true
ends call = false

-- whether there is something to push once that has been granted
abbrev pub leaves_pushes : {W : Type 0} → Granted W → Bool
leaves_pushes (granted.Closed how) = starts_write_back how
leaves_pushes g = false

-- which calls the handle may still be granted then: an open, as any caller of an idle head, and pushes if there are some
abbrev pub may_follow : {W : Type 0} → Bool → Call ℕ W → Bool
may_follow pushes Open = true
may_follow pushes Push = pushes
may_follow pushes call = false

-- the i-th call of a run was this one, and was granted
pub record GrantedAt {W : Type 0} (calls : List (MadeCall W)) (answers : List (Answer W)) (i : ℕ) (call : MadeCall W) : Type 0 where
  pub made : slice_get calls i ≡ Some call
  pub given : Granted W
  pub granted : slice_get answers i ≡ Some (Ok given)

-- once a close or a drop by a handle has been granted, the handle is granted no other calls than those
abbrev pub HandlesEnd : {W : Type 0} → List (MadeCall W) → List (Answer W) → Type 0
HandlesEnd {W} calls answers =
    (i j k n : ℕ) (first later : MadeCall W) → i < j → (end : GrantedAt calls answers i first) → GrantedAt calls answers j later
    → first.caller ≡ by_handle k n → later.caller ≡ by_handle k n → ends first.call ≡ true → may_follow (leaves_pushes end.given) later.call ≡ true

-- of every list of calls on every rig that is set up
abbrev pub HandlesEndInRuns : {W : Type 0} → Kit W → Type 0
HandlesEndInRuns {W} kit =
    (heads cells : ℕ) (b : Bench W) (calls : List (MadeCall W)) → set_up heads cells ≡ Ok b.table → HandlesEnd calls (answers_of kit b calls)
