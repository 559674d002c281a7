use Rattle.std.proofs.Common.{◌≡◌, ◌∙◌, ap, refl, map, sym, None, Some}
use Rattle.rules.specs.Bench.{bench, after_loads}
use Rattle.rules.specs.Kit.{memory_of}
use Rattle.rig.specs.Accesses.{cells_of}
use Rattle.rig.proofs.ReadSteps.{software_noted, software_changed}
use Rattle.rig.proofs.reading.read_in_software.Goals.{in-Valid, in-Changed}
use Rattle.rig.proofs.reading.read_in_software.Goals as goal

pub returns-in-None : goal.returns-in-None
returns-in-None g c w at =
    let b = bench c.args.table.now c.args.cells.now c.args.reads.now c.args.writes.now in
    let memory = memory_of g.W.Word g.B.Board c.args.board.now in
    elim c.match-revalidate.branch [
      | in-Valid v ↦ let wrong : Some c.args.cell ≡ None = ap (λ p. p.1) (sym v.log-is) ∙ c.in-None.is in cc
      | in-Changed v ↦
          let found = v.in-Changed.ensures memory refl in
          software_changed memory b c.args.who.head c.args.cell c.args.me c.requires.admitted.own c.abort_hit.new.heads c.abort.result
          (map (λ s. s.cell) v.in-Changed.log) w c.abort.ensures found.holding found.loads
          (c.abort_hit.ensures.heads c.args.table.now ∙ ap (λ p. after_loads memory b c.args.who.head (cells_of p.0 p.1)) v.log-is)
    ]

pub returns-in-Some : goal.returns-in-Some
returns-in-Some g c w at =
    let b = bench c.args.table.now c.args.cells.now c.args.reads.now c.args.writes.now in
    let memory = memory_of g.W.Word g.B.Board c.args.board.now in
    elim c.match-revalidate.branch [
      | in-Changed v ↦ let wrong : None ≡ Some c.in-Some.field-0 = ap (λ p. p.1) (sym v.log-is) ∙ c.in-Some.is in cc
      | in-Valid v ↦
          let found = v.in-Valid.ensures memory refl in
          software_noted memory b c.args.who.head c.args.cell c.args.me c.requires.admitted.own
          c.abort_hit.new.heads c.note_word-read_count.result c.present_snapshot-snapshot.result c.note_word-read_count.new.slots
          (map (λ s. s.cell) v.in-Valid.log) c.index-cells-cell.result w
          c.present_snapshot-snapshot.ensures found.holding found.loads
          (c.abort_hit.ensures.heads c.args.table.now ∙ ap (λ p. after_loads memory b c.args.who.head (cells_of p.0 p.1)) v.log-is)
          c.note_word-read_count.ensures.count c.note_word-read_count.ensures.slots c.index-cells-cell.is at
    ]
