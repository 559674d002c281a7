use Rattle.std.proofs.Common.{Ok, take}
use Rattle.scenario.specs.Steps.{WritesLines}
use Rattle.scenario.proofs.render.write_lines.Given as goal

abbrev pub invariant-loop-item : goal.invariant-loop-item
invariant-loop-item g l = WritesLines g.W.Write.write_str_gives g.T.Display.output l.initial.f (take l.item-index l.items) (Ok tt) l.f
