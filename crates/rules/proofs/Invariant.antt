-- What ties the rig to the history, and holds after every call.
use Rattle.std.proofs.Common.{◌≡◌, ℕ, ◌+◌, ◌<◌, ◌≤◌, true, false, ◌||◌, eqb, List, length, take, drop, Some, None, All}
use Rattle.std.specs.List.{slice_get}
use Rattle.rules.specs.Logs.{is_empty, names, put_in, word_for}
use Rattle.rules.specs.Kit.{Kit}
use Rattle.rules.specs.Heads.{is_hardware, is_software, is_aborted, is_writing_back}
use Rattle.rules.specs.Bench.{is_odd}
use Rattle.rules.proofs.Seats.{Seat, Rig, meets}
use Rattle.rules.specs.History.{History, GrantedClose, Attempt, Page, cells_after, closes_of_others, last_written}
use Rattle.rules.specs.RunLaws.{Agrees, Explained, Bounded, most_attempts}
use Rattle.rules.proofs.LogLaws.{Distinct}

-- a running head's logs against what the history has of its attempt
pub record Linked {W : Type 0} (me : Seat W) (a : Attempt W) : Type 0 where
  pub words : (c : ℕ) → names c me.writes ≡ names c a.writes
  pub puts : (xs : List W) → put_in me.writes xs ≡ put_in a.writes xs
  pub some : is_empty me.writes ≡ is_empty a.writes
  pub apart : Distinct me.writes
  pub reads : (xs : List W) → Agrees xs me.reads → Agrees xs a.reads
  pub latest : (c : ℕ) → word_for c me.writes ≡ last_written c a.writes
  pub unclosed : a.closed ≡ None

-- by what is common to the heads: the sequence number S, the commit counter C, the cells and the closes
module _ {W : Type 0} (patience : ℕ) (start : List W) (S C : ℕ) (cells : List W) (closes : List (GrantedClose W)) where
  -- a hardware head's reads are valid now
  pub record HardwareOk (k : ℕ) (me : Seat W) (page : Page W) : Type 0 where
    pub valid : Agrees cells me.reads
    pub under : me.head.hardware_aborts < patience
    pub budget : me.head.attempts ≤ me.head.hardware_aborts + 1 + closes_of_others closes k page.since (length closes)

  -- a software head's are valid after the first p closes, and now if its snapshot is the present one
  pub record SoftwareOk (k : ℕ) (me : Seat W) (page : Page W) : Type 0 where
    pub even : is_odd me.head.snapshot.sequence ≡ false
    pub low-S : me.head.snapshot.sequence ≤ S
    pub low-C : me.head.snapshot.commits ≤ C
    pub valid : me.head.snapshot.sequence ≡ S → me.head.snapshot.commits ≡ C → Agrees cells me.reads
    pub p : ℕ
    pub before : page.attempt.began ≤ p
    pub within : p ≤ length closes
    pub valid-then : Agrees (cells_after (take p closes) start) me.reads
    pub since : page.since ≤ p
    pub under : me.head.hardware_aborts ≤ patience
    pub budget : me.head.attempts ≤ me.head.hardware_aborts + 1 + closes_of_others closes k page.since p

  pub record AbortedOk (k : ℕ) (me : Seat W) (page : Page W) : Type 0 where
    pub under : me.head.hardware_aborts ≤ patience
    pub budget : me.head.attempts ≤ me.head.hardware_aborts + closes_of_others closes k page.since (length closes)

  pub record HeadOk (k : ℕ) (me : Seat W) (page : Page W) : Type 0 where
    pub attempts : page.attempts ≡ me.head.attempts
    pub since : page.since ≤ length closes
    pub mark : page.writing_back ≡ is_writing_back me.head.state
    pub going : (is_hardware me.head.state || (is_software me.head.state || is_aborted me.head.state)) ≡ true → All (λ s. eqb k s.head ≡ false) (drop page.since closes)
    pub live : (is_hardware me.head.state || is_software me.head.state) ≡ true → Linked me page.attempt
    pub hardware : is_hardware me.head.state ≡ true → HardwareOk k me page
    pub software : is_software me.head.state ≡ true → SoftwareOk k me page
    pub aborted : is_aborted me.head.state ≡ true → AbortedOk k me page

-- while the sequence number is even no head writes back and the cells are settled; while it is odd one head writes back,
-- none is in hardware, and what is left of its write log settles the cells
pub record Lone {W : Type 0} (heads : List (Seat W)) (cells now : List W) : Type 0 where
  pub no-hardware : (k : ℕ) (me : Seat W) → slice_get heads k ≡ Some me → is_hardware me.head.state ≡ false
  pub who : ℕ
  pub it : Seat W
  pub there : slice_get heads who ≡ Some it
  pub is : is_writing_back it.head.state ≡ true
  pub more : it.head.written < length it.writes
  pub settles : put_in (drop it.head.written it.writes) cells ≡ now
  pub lone : (k : ℕ) (me : Seat W) → slice_get heads k ≡ Some me → is_writing_back me.head.state ≡ true → k ≡ who

pub record Calm {W : Type 0} (heads : List (Seat W)) (cells now : List W) : Type 0 where
  pub settled : cells ≡ now
  pub no-writing : (k : ℕ) (me : Seat W) → slice_get heads k ≡ Some me → is_writing_back me.head.state ≡ false

-- no cell of the one's write log is on a line of the other's read log
abbrev pub Clear : {W : Type 0} → Kit W → Seat W → Seat W → Type 0
Clear kit me it = All (λ s. meets kit s.cell it.reads ≡ false) me.writes

pub record Inv {W : Type 0} (kit : Kit W) (start : List W) (m : Rig W) (l : History W) : Type 0 where
  pub calm : is_odd m.sequence ≡ false → Calm m.heads m.cells (cells_after l.closes start)
  pub lone : is_odd m.sequence ≡ true → Lone m.heads m.cells (cells_after l.closes start)
  pub heads : (k : ℕ) (me : Seat W) → slice_get m.heads k ≡ Some me → HeadOk kit.policy.patience start m.sequence m.commits m.cells l.closes k me (l.pages k)
  pub clear : (j k : ℕ) (me it : Seat W) → slice_get m.heads j ≡ Some me → slice_get m.heads k ≡ Some it → (j ≡ k → ⊥)
      → is_hardware me.head.state ≡ true → is_hardware it.head.state ≡ true → Clear kit me it
  pub past : All (Explained l.closes start) l.past
  pub present : (k : ℕ) → Explained l.closes start (l.pages k).attempt
  pub ended : All (Bounded l.closes kit.policy.patience) l.ended
  pub bound : (k : ℕ) → (l.pages k).attempts ≤ most_attempts kit.policy.patience (closes_of_others l.closes k (l.pages k).since (length l.closes))
