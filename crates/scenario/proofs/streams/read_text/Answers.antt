use Rattle.std.proofs.Common.{rules}
use Rattle.scenario.proofs.Passed.{all_read}
use Rattle.scenario.proofs.streams.read_text.Goals as goal

pub returns-in-Ok-eq0-clause-text : goal.returns-in-Ok-eq0-clause-text
returns-in-Ok-eq0-clause-text g c =
    let read = c.in-Ok-eq0.ensures in
    let (short, taken) = c.loop-piece.invariant in
    all_read _ _ (g.R.Read.remaining c.read_some.new.input) c.loop-piece.text.items taken (search rules) (search rules) (search rules)
