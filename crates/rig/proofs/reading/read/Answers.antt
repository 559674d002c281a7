use Rattle.std.proofs.Common.{sym, subst}
use Rattle.parts.specs.declared.calls.Call.TheVariants.{Read}
use Rattle.rules.specs.Bench.{bench}
use Rattle.rig.specs.Admission.{Admits}
use Rattle.rig.specs.Transitions.{Tells}
use Rattle.rig.proofs.reading.read.Goals as goal

pub read_admitted-requires-clause-admitted : goal.read_admitted-requires-clause-admitted
read_admitted-requires-clause-admitted g c =
    let b = bench c.args.table.now c.args.cells.now c.args.reads.now c.args.writes.now in
    let me = c.in_ok-me.field-0.head in
    let told = subst (Tells me.state (Read c.args.cell)) c.in-Read.is c.in_ok-me.ensures.transition in
    subst (λ d. Admits b c.args.who (Read d) me) (sym told.1) c.in_ok-me.ensures.known
