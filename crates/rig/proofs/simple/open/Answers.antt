use Rattle.std.proofs.Common.{rules}
use Rattle.parts.specs.declared.calls.Call.TheVariants.{Open}
use Rattle.rules.specs.Bench.{bench_with}
use Rattle.rules.specs.Calls.{admitted_open}
use Rattle.rig.proofs.Refused.{refused}
use Rattle.rig.proofs.simple.open.Goals as goal

pub returns-in_err-me : goal.returns-in_err-me
returns-in_err-me g c =
    let b = bench_with c.args.table.now c.args.lists in
    let h = refused b c.args.who Open c.in_err-me.field-0.0 (admitted_open b c.args.who.head) c.in_err-me.ensures.refused in
    search (rules, h)
