use Rattle.std.proofs.Common.{refl, map}
use Rattle.rules.specs.Bench.{bench_with}
use Rattle.rules.specs.Kit.{memory_of}
use Rattle.rig.proofs.CloseSteps.{closed_changed, closed_locked}
use Rattle.rig.proofs.closing.close_in_software.Goals as goal

pub returns-in-Changed : goal.returns-in-Changed
returns-in-Changed g c =
    let b = bench_with c.args.table.now c.args.lists in
    let memory = memory_of g.W.Word g.B.Board c.args.board.now in
    let found = c.in-Changed.ensures memory refl in
    closed_changed memory b c.args.who.head c.args.me c.requires.admitted.own c.abort_hit.new.heads c.abort.result
    (map (λ s. s.cell) c.in-Changed.log) c.abort.ensures found.holding found.loads (c.abort_hit.ensures.heads c.args.table.now)

pub returns-in-Valid : goal.returns-in-Valid
returns-in-Valid g c =
    let b = bench_with c.args.table.now c.args.lists in
    let memory = memory_of g.W.Word g.B.Board c.args.board.now in
    let found = c.in-Valid.ensures memory refl in
    closed_locked memory b c.args.who.head c.args.me c.requires.admitted.own c.abort_hit-in-Valid.new.heads c.lock_all_out.new.heads c.present_snapshot.result
    (map (λ s. s.cell) c.in-Valid.log) c.present_snapshot.ensures found.holding found.loads (c.abort_hit-in-Valid.ensures.heads c.args.table.now) c.lock_all_out.ensures
