use Rattle.std.proofs.Common.{◌≡◌, IfOk, string_bytes, sym, subst}
use Rattle.faults.specs.declared.texts.TheConstants.{NEWLINE}
use Rattle.fields.specs.Parts.{ended}
use Rattle.sheets.specs.Kits.{kit_on}
use Rattle.sheets.specs.Sheets.{held_run}
use Rattle.sheets.proofs.rigs.sheet_on.Goals as goal

pub returns-in-Plain : goal.returns-in-Plain
returns-in-Plain g c =
    subst (λ p. IfOk c.sheet_with.result (λ t. string_bytes t ≡ ended NEWLINE (held_run (kit_on (g.B.Board.line c.args.board) (g.B.Board.fits c.args.board) p) c.args.rig.heads c.args.rig.cells c.args.scenario.now c.args.fault)))
    (sym c.in-Plain.is) c.sheet_with.ensures

pub returns-in-Careful : goal.returns-in-Careful
returns-in-Careful g c =
    subst (λ p. IfOk c.sheet_with-in-Careful.result (λ t. string_bytes t ≡ ended NEWLINE (held_run (kit_on (g.B.Board.line c.args.board) (g.B.Board.fits c.args.board) p) c.args.rig.heads c.args.rig.cells c.args.scenario.now c.args.fault)))
    (sym c.in-Careful.is) c.sheet_with-in-Careful.ensures
