use Rattle.std.proofs.Common.{◌∙◌, sym, ap, Some}
use Rattle.rules.specs.Bench.{bench, after_loads}
use Rattle.rig.specs.Accesses.{cells_of}
use Rattle.rules.specs.Kit.{memory_of}
use Rattle.rig.proofs.ReadSteps.{hardware_noted}
use Rattle.rig.proofs.reading.read_in_hardware.Goals as goal

pub returns : goal.returns
returns g c w at =
    let b = bench c.args.table.now c.args.cells.now c.args.reads.now c.args.writes.now in
    let memory = memory_of g.W.Word g.B.Board c.args.board.now in
    let loaded = c.abort_hit.ensures.heads c.args.table.now ∙ ap (λ l. after_loads memory b c.args.who.head (cells_of l (Some c.args.cell))) c.of_head.ensures in
    hardware_noted memory b c.args.who.head c.args.cell c.args.me c.requires.admitted.own
    c.abort_hit.new.heads c.note_word-read_count.result c.note_word-read_count.new.slots c.index-cells-cell.result w
    (sym c.fits_with.ensures ∙ c.if-not-fits_with.false) loaded c.note_word-read_count.ensures.count c.note_word-read_count.ensures.slots c.index-cells-cell.is at
