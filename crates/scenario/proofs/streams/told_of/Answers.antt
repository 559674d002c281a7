use Rattle.scenario.specs.Laws.{ReadBack}
use Rattle.scenario.proofs.Passed.{print_of, readback_of_first}
use Rattle.scenario.proofs.streams.told_of.Goals as goal

pub returns : goal.returns
returns g c = print_of ReadBack readback_of_first _ _ _ _ c.in_ok-text.ensures.text c.deref.ensures.value c.in_ok-told.ensures.says
