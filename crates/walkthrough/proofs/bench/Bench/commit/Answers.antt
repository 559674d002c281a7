use Rattle.std.proofs.Common.{Ok, sym, ap, ◌∙◌}
use Rattle.rules.specs.Calls.{close_of}
use Rattle.rules.specs.Examples.{on_lines}
use Rattle.handles.specs.Handles.{pushes_of, running_caller, writing_back_caller}
use Rattle.walkthrough.specs.Walk.{on_bench}
use Rattle.walkthrough.proofs.HandedOn.{none_to_push, all_to_push}
use Rattle.walkthrough.proofs.bench.Bench.commit.Goals as goal

pub returns-in_err-attempts : goal.returns-in_err-attempts
returns-in_err-attempts c =
    let o = close_of on_lines.memory (on_bench c.args.self.now) (running_caller c.args.handle) in
    c.close.ensures.left ∙ none_to_push c.args.handle o.left o.answer c.in_err-attempts.field-0.0 (sym c.in_err-attempts.was ∙ c.close.ensures.answer)

pub returns-in_err-pushes-in-WritingBack : goal.returns-in_err-pushes-in-WritingBack
returns-in_err-pushes-in-WritingBack c =
    let o = close_of on_lines.memory (on_bench c.args.self.now) (running_caller c.args.handle) in
    c.finish.ensures.left
    ∙ ap (λ b. pushes_of b (writing_back_caller c.in-WritingBack.handle)) c.close.ensures.left
    ∙ all_to_push c.args.handle o.left o.answer c.in-WritingBack.handle c.in-WritingBack.attempts (ap Ok (sym c.in-WritingBack.is) ∙ sym c.in_ok-attempts.was ∙ c.close.ensures.answer)
