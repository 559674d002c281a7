use Rattle.std.proofs.Common.{rules, sym, subst}
use Rattle.parts.specs.declared.calls.Call.TheVariants.{Write}
use Rattle.rules.specs.Bench.{bench}
use Rattle.rules.specs.Calls.{admitted_write}
use Rattle.rules.specs.Kit.{memory_of}
use Rattle.rig.specs.Admission.{Admits}
use Rattle.rig.proofs.Refused.{refused}
use Rattle.rig.specs.Transitions.{Tells}
use Rattle.rig.proofs.writing.write.Goals as goal

pub returns-in_err-me : goal.returns-in_err-me
returns-in_err-me g c =
    let b = bench c.args.table.now c.args.cells.now c.args.reads.now c.args.writes.now in
    let memory = memory_of g.W.Word g.B.Board c.args.board.now in
    let h = refused b c.args.who (Write c.args.cell c.args.word) c.in_err-me.field-0.0 (admitted_write memory b c.args.who.head c.args.cell c.args.word) c.in_err-me.ensures.refused in
    search (rules, h)

pub write_admitted-requires-clause-admitted : goal.write_admitted-requires-clause-admitted
write_admitted-requires-clause-admitted g c =
    let b = bench c.args.table.now c.args.cells.now c.args.reads.now c.args.writes.now in
    let me = c.in_ok-me.field-0.head in
    let told = subst (Tells me.state (Write c.args.cell c.args.word)) c.in-Write.is c.in_ok-me.ensures.transition in
    subst (λ v. Admits b c.args.who (Write c.in-Write.cell v) me) (sym told.1.1) (subst (λ d. Admits b c.args.who (Write d c.args.word) me) (sym told.1.0) c.in_ok-me.ensures.known)
