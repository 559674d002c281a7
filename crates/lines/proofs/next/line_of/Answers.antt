use Rattle.std.proofs.Common.{rules}
use Rattle.fields.specs.Parts.{line_piece}
use Rattle.lines.proofs.Firsts.{led, line-misplaced, line-shaped}
use Rattle.lines.proofs.next.line_of.Goals as goal

pub returns-then-not-takes : goal.returns-then-not-takes
returns-then-not-takes c =
    line-misplaced c.args.stage (line_piece c.args.line) _ _ (led c.args.stage (line_piece c.args.line) _ _ _ _ _ c.fields-fields.ensures.fields c.leading_word.ensures c.in_ok-word.ensures.value) (search rules)

pub returns : goal.returns
returns c =
    rw c.ok_or-2.ensures.value
    (line-shaped c.args.stage (line_piece c.args.line) _ _ (led c.args.stage (line_piece c.args.line) _ _ _ _ _ c.fields-fields.ensures.fields c.leading_word.ensures c.in_ok-word.ensures.value) _ (search rules) c.shape.ensures)
