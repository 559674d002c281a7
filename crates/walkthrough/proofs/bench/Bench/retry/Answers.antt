use Rattle.std.proofs.Common.{sym, ap, ◌∙◌}
use Rattle.rules.specs.Calls.{again_of}
use Rattle.rules.specs.Examples.{on_lines}
use Rattle.walkthrough.specs.Walk.{on_bench}
use Rattle.walkthrough.proofs.HandedOn.{exchanged}
use Rattle.walkthrough.proofs.bench.Bench.retry.Goals as goal

pub returns-in_err-begun-clause-left : goal.returns-in_err-begun-clause-left
returns-in_err-begun-clause-left c =
    c.again.ensures.left
    ∙ ap (λ who. (again_of on_lines.policy (on_bench c.args.self.now) who).left) (exchanged c.args.handle _ c.in_ok-aborted.aborted (sym c.in_ok-aborted.was ∙ c.into_aborted.ensures))
