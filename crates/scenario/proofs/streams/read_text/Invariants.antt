-- What is held was taken from the reader.
use Rattle.std.proofs.Common.{◌≤◌, ◌+◌, ◌-◌, vec_len, vec_items}
use Rattle.std.specs.Io.KnownBytes.{Consumes}
use Rattle.faults.specs.declared.texts.TheConstants.{LONGEST}
use Rattle.scenario.proofs.streams.read_text.Given as goal

abbrev pub invariant-loop-piece : goal.invariant-loop-piece
invariant-loop-piece g l = (vec_len l.text ≤ LONGEST + 1) × Consumes (g.R.Read.remaining l.fn.input) (g.R.Read.remaining l.input) (vec_items l.text)

abbrev pub decreases-loop-piece : goal.decreases-loop-piece
decreases-loop-piece g l = (LONGEST + 1) - vec_len l.text
