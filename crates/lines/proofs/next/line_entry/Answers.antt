use Rattle.std.proofs.lemmas.Result.{err_from_is_err_and}
use Rattle.fields.specs.Parts.{line_piece}
use Rattle.lines.proofs.Firsts.{line-bad}
use Rattle.lines.proofs.Texts.{refused, line-said}
use Rattle.lines.proofs.next.line_entry.Goals as goal

pub returns-in_err-parts : goal.returns-in_err-parts
returns-in_err-parts c =
    let p = err_from_is_err_and c.from_residual.result c.from_residual.ensures.1 in
    rw (p.1, p.2) (refused c.args.stage (line_piece c.args.line) _ c.in_err-parts.ensures)

pub returns-in_err-said : goal.returns-in_err-said
returns-in_err-said c =
    let p = err_from_is_err_and c.from_residual-in_err-said.result c.from_residual-in_err-said.ensures.1 in
    let line = c.in_ok-parts.ensures in
    rw (p.1, p.2) (refused c.args.stage (line_piece c.args.line) _ (line-bad c.args.stage (line_piece c.args.line) c.in_ok-parts.parts _ line.0 line.1 c.in_err-said.ensures))

pub returns : goal.returns
returns c = line-said c.args.stage (line_piece c.args.line) c.in_ok-parts.parts c.in_ok-said.said c.in_ok-parts.ensures c.in_ok-said.ensures
