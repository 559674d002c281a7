use Rattle.std.proofs.Common.{◌≡◌, eqb, Some, None, ap, sym, ◌∙◌}
use Rattle.std.specs.List.{position}
use Rattle.rules.specs.declared.types.Slot.{Slot}
use Rattle.logs.specs.LogMuts.{log_in}
use Rattle.logs.proofs.Placed.{note_found, note_new}
use Rattle.logs.proofs.growing.LogMut.note.Goals as goal

pub returns-in-Some-clause-grown : goal.returns-in-Some-clause-grown
returns-in-Some-clause-grown g c =
    let l = c.args.self.now in
    let at : position (λ (s : Slot g.row.W.Denot). eqb c.args.cell s.cell) (log_in l) ≡ Some c.in-Some.field-0 =
    ap (position (λ (s : Slot g.row.W.Denot). eqb c.args.cell s.cell)) (sym c.as_log.ensures) ∙ sym c.place_of.ensures ∙ c.in-Some.is in
    note_found c.args.cell c.args.word l.part.now l.count l.within c.in-Some.field-0 at

pub returns-in-None-clause-grown : goal.returns-in-None-clause-grown
returns-in-None-clause-grown g c =
    let l = c.args.self.now in
    let none : position (λ (s : Slot g.row.W.Denot). eqb c.args.cell s.cell) (log_in l) ≡ None =
    ap (position (λ (s : Slot g.row.W.Denot). eqb c.args.cell s.cell)) (sym c.as_log.ensures) ∙ sym c.place_of.ensures ∙ c.in-None.is in
    c.push.ensures.pushed ∙ note_new c.args.cell c.args.word l.part.now l.count l.within none
