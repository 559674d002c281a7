-- Each call so far was interrupted.
use Rattle.std.specs.Io.KnownBytes.{Keeps}
use Rattle.scenario.proofs.streams.write_some.Given as goal

abbrev pub invariant-loop : goal.invariant-loop
invariant-loop g l = Keeps (g.W.Write.contents l.initial.output) (g.W.Write.contents l.output)
