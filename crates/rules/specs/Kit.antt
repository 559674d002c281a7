-- What a rig is over: a kind of word and a board, which are its memory, and a policy.
use Rattle.std.specs.Prelude.{ℕ, Bool}
use Rattle.parts.specs.declared.words.Word.{Ghosts as Words}
use Rattle.parts.specs.declared.boards.Board.{Ghosts as Boards}
use Rattle.parts.specs.declared.policies.Policy.{Ghosts as Policies}
use Rattle.parts.specs.declared.types.Cause.{Cause}
use Rattle.parts.specs.declared.types.Mode.{Mode}

-- the words' test, the board's lines and what fits it
pub record Memory (W : Type 0) : Type 0 where
  pub same : W → W → Bool
  pub line : ℕ → ℕ
  pub fits : ℕ → ℕ → Bool

-- the policy's answer and its patience
pub record Retries : Type 0 where
  pub next : Cause → ℕ → Mode
  pub patience : ℕ

pub record Kit (W : Type 0) : Type 0 where
  pub memory : Memory W
  pub policy : Retries

-- by what a kind of word, a kind of board and a kind of policy mean, for one board and one policy
abbrev pub memory_of : {W B : Type 0} → Words W → Boards B → B → Memory W
memory_of words boards board = record { same = words.same; line = boards.line board; fits = boards.fits board }

abbrev pub retries_of : {P : Type 0} → Policies P → P → Retries
retries_of policies policy = record { next = policies.next policy; patience = policies.patience policy }

abbrev pub kit_of : {W B P : Type 0} → Words W → Boards B → Policies P → B → P → Kit W
kit_of words boards policies board policy = record { memory = memory_of words boards board; policy = retries_of policies policy }
