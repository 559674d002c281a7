use Rattle.std.proofs.Common.{◌∙◌, sym, subst}
use Rattle.rig.specs.Transitions.{Decides}
use Rattle.rules.specs.Bench.{bench_with, head_at}
use Rattle.rig.proofs.Admitted.{admits}
use Rattle.rig.proofs.admission.admit.Goals as goal

pub returns-in-Ok-clause-known : goal.returns-in-Ok-clause-known
returns-in-Ok-clause-known g c =
    let right = c.if-not-lengths_match.false in
    let sizes = c.lengths_match.ensures in
    admits (bench_with c.args.table.now c.args.lists) c.args.who c.args.call c.requires
    (sym sizes.answer ∙ right) c.if-who-table.false (sizes.cells right) (sizes.reads right) (sizes.writes right)
    (sym c.is_stale.ensures ∙ c.if-is_stale.false) (sym c.is_beyond.ensures ∙ c.if-is_beyond.false) (subst (Decides (head_at (bench_with c.args.table.now c.args.lists) c.args.who.head).state c.args.call) c.in-Ok.is c.decide.ensures).0
