use Rattle.scenario.specs.Texts.{lines_of_text}
use Rattle.scenario.specs.Steps.{held}
use Rattle.scenario.proofs.Onward.{Come}
use Rattle.scenario.proofs.texts.take_lines.Given as goal

abbrev pub invariant-loop-said : goal.invariant-loop-said
invariant-loop-said l = record {
  can : (goal.iterator-loop-said).can_next l.said-iterator;
  ends : (goal.iterator-loop-said).is_finite l.said-iterator;
  come : Come (lines_of_text l.text) l.said-iterator (held l.scenario);
}
