-- What a scenario runs over: amounts, the board that its rig line names under a margin, and the policy named there.
use Rattle.std.specs.Prelude.{ℕ, ℤ, Bool}
use Rattle.parts.specs.Boards.{stores_line, stores_fit, lines_line, lines_fit, with_margin}
use Rattle.parts.specs.Policies.{plain_mode, careful_mode}
use Rattle.parts.specs.Words.{same_amount}
use Rattle.parts.specs.declared.policies.TheConstants.{PLAIN_PATIENCE, CAREFUL_PATIENCE}
use Rattle.parts.specs.declared.types.Cause.{Cause}
use Rattle.parts.specs.declared.types.Mode.{Mode}
use Rattle.entries.specs.declared.types.BoardName.{BoardName}
use Rattle.entries.specs.declared.types.BoardName.TheVariants as board
use Rattle.entries.specs.declared.types.PolicyName.{PolicyName}
use Rattle.entries.specs.declared.types.PolicyName.TheVariants as policy
use Rattle.rules.specs.Kit.{Kit}

abbrev pub line_named : BoardName → ℕ → ℕ
line_named board.Stores = stores_line
line_named board.Lines = lines_line

abbrev pub fits_named : BoardName → ℕ → ℕ → Bool
fits_named board.Stores = with_margin stores_fit
fits_named board.Lines = with_margin lines_fit

abbrev pub next_named : PolicyName → Cause → ℕ → Mode
next_named policy.Plain = plain_mode
next_named policy.Careful = careful_mode

abbrev pub patience_named : PolicyName → ℕ
patience_named policy.Plain = PLAIN_PATIENCE
patience_named policy.Careful = CAREFUL_PATIENCE

-- amounts on any board, under a policy by its name
abbrev pub kit_on : (ℕ → ℕ) → (ℕ → ℕ → Bool) → PolicyName → Kit ℤ
kit_on line fits p = record {
  memory = record { same = same_amount; line = line; fits = fits };
  policy = record { next = next_named p; patience = patience_named p };
}

abbrev pub kit_named : BoardName → PolicyName → Kit ℤ
kit_named b p = kit_on (line_named b) (fits_named b) p
