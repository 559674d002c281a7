use Rattle.std.proofs.Common.{◌≡◌, ◌∙◌, sym, ap, subst, false}
use Rattle.rules.specs.Logs.{is_empty, log_of}
use Rattle.rules.specs.Bench.{bench}
use Rattle.rules.specs.Heads.{is_hardware, state_in}
use Rattle.rules.specs.Kit.{memory_of}
use Rattle.rig.proofs.CloseSteps.{close_software}
use Rattle.parts.specs.declared.calls.Call.TheVariants.{Close}
use Rattle.rig.specs.Transitions.{Tells}
use Rattle.rig.proofs.closing.close.Goals as goal

pub returns-in-Software-3 : goal.returns-in-Software-3
returns-in-Software-3 g c =
    let b = bench c.args.table.now c.args.cells.now c.args.reads.now c.args.writes.now in
    let memory = memory_of g.W.Word g.B.Board c.args.board.now in
    let me = c.in_ok-me.field-0.head in
    let told = subst (Tells me.state Close) c.in-Close.is c.in_ok-me.ensures.transition in
    let some : is_empty (log_of c.args.who.head me.write_count c.args.writes.now) ≡ false = ap is_empty (sym c.of_head-log.ensures) ∙ sym c.is_empty.ensures ∙ c.if-is_empty.false in
    close_software memory b c.args.who me c.in_ok-me.ensures.known _
    (ap is_hardware (told ∙ ap state_in c.in-Software.is)) some (sym c.is_locked.ensures ∙ c.if-is_locked.false) c.close_in_software.ensures
