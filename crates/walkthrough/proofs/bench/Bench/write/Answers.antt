use Rattle.std.proofs.Common.{ℤ, w32, ap, ◌∙◌}
use Rattle.std.proofs.lemmas.Int.{to_z-of_z}
use Rattle.rules.specs.Calls.{Outcome, write_of}
use Rattle.rules.specs.Examples.{on_lines}
use Rattle.handles.specs.Handles.{running_caller}
use Rattle.walkthrough.specs.Walk.{on_bench}
use Rattle.walkthrough.proofs.bench.Bench.write.Goals as goal

pub returns-in_err-write-clause-left : goal.returns-in_err-write-clause-left
returns-in_err-write-clause-left c =
    let who = running_caller c.args.handle.now in
    ap (λ (o : Outcome (Unit {0}) ℤ). o.left) c.write.ensures.outcome
    ∙ ap (λ (z : ℤ). (write_of on_lines.memory (on_bench c.args.self.now) who c.args.cell z).left) (to_z-of_z w32 c.args.word c.ranges.word)
