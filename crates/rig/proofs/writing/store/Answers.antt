use Rattle.std.proofs.Common.{◌∙◌, sym}
use Rattle.rules.specs.Bench.{bench_with}
use Rattle.rules.specs.Kit.{memory_of}
use Rattle.rig.proofs.WriteSteps.{stored_ok}
use Rattle.rig.proofs.writing.store.Goals as goal

pub returns : goal.returns
returns g c =
    stored_ok (memory_of g.W.Word g.B.Board c.args.board.now) (bench_with c.args.table.now c.args.lists) c.args.head c.args.me c.args.cell
    c.abort_hit.new.heads (sym c.fits.ensures ∙ c.if-not-fits.false) (c.abort_hit.ensures.heads c.args.table.now)
