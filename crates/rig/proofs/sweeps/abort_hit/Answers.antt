use Rattle.std.proofs.Common.{subst, sym, ap, ◌∙◌, All, Bool, not, ◌&&◌, eqb, cond, length, get_or, ◌<◌, arith}
use Rattle.rules.specs.Heads.{new_head}
use Rattle.rules.specs.Bench.{bench_with, abort_if_hit}
use Rattle.rules.specs.Bounds.{HeadBounds}
use Rattle.std.proofs.lemmas.Bool.{cond_both}
use Rattle.parts.specs.declared.types.Cause.TheVariants.{Conflict}
use Rattle.rules.specs.Heads.{abort, is_hardware}
use Rattle.rules.specs.Logs.{log_of}
use Rattle.rules.proofs.HeadBounds.{abort-bounds}
use Rattle.rules.specs.Calls.{new_table}
use Rattle.rig.proofs.Mapped.{mapped_keeps, mapped_holds, mapped_more, mapped_same, mapped_all}
use Rattle.rig.proofs.sweeps.abort_hit.Goals.{then-is_hit, else-is_hit}
use Rattle.rig.proofs.sweeps.abort_hit.Goals as goal

pub abort-requires : goal.abort-requires
abort-requires g c =
    let near : c.loop-k.k < length c.args.heads.now = omega arith in
    mapped_holds HeadBounds _ c.loop-k.k c.args.heads.now c.loop-k.heads new_head c.requires near (c.loop-k.invariant (new_table 0 0))

pub loop-k-preserved : goal.loop-k-preserved
loop-k-preserved g c t =
    let near : c.loop-k.k < length c.args.heads.now = omega arith in
    let x = get_or c.loop-k.heads c.loop-k.k new_head in
    let told = λ (b : Bool). cond b (abort Conflict x) x in
    elim c.if-is_hit.branch [
      | then-is_hit w ↦
          w.heads-is ∙ mapped_more _ c.loop-k.k c.args.heads.now c.loop-k.heads new_head w.abort.result near (c.loop-k.invariant t)
          (w.abort.ensures ∙ ap told (sym w.if-is_hit.true ∙ c.is_hit.ensures))
      | else-is_hit w ↦
          w.heads-is ∙ mapped_same _ c.loop-k.k c.args.heads.now c.loop-k.heads new_head near (c.loop-k.invariant t)
          (ap told (sym w.if-is_hit.false ∙ c.is_hit.ensures))
    ]

pub returns-clause-heads : goal.returns-clause-heads
returns-clause-heads g c t = mapped_all _ c.loop-k.k c.args.heads.now c.loop-k.heads (omega arith) (c.loop-k.invariant t)

pub returns-clause-bounds : goal.returns-clause-bounds
returns-clause-bounds g c =
    let hit = g.A.Access.hits c.args.access.now (g.B.Board.line c.args.board.now) in
    let b = bench_with (new_table 0 0) c.args.lists in
    let f = abort_if_hit b c.args.me hit in
    subst (All HeadBounds) (sym (mapped_all f c.loop-k.k c.args.heads.now c.loop-k.heads (omega arith) (c.loop-k.invariant (new_table 0 0))))
    (mapped_keeps HeadBounds f 0 c.args.heads.now
    (λ j x p. cond_both (not (eqb j c.args.me) && (is_hardware x.state && hit (log_of j x.read_count c.args.lists.reads.now) (log_of j x.write_count c.args.lists.writes.now))) (abort Conflict x) x HeadBounds (λ _. abort-bounds x p Conflict) (λ _. p))
    c.requires)
