use Rattle.std.proofs.Common.{◌≡◌, ◌∙◌, sym, ap, None, true, false, ◌&&◌}
use Rattle.rules.specs.Logs.{word_for, lacks_room_for, log_of}
use Rattle.rules.specs.Bench.{bench, is_odd}
use Rattle.rules.specs.Heads.{is_hardware, is_software, state_in}
use Rattle.rules.specs.Kit.{memory_of}
use Rattle.rig.proofs.ReadRows.{read_logged, read_busy, read_full, read_hardware, read_software}
use Rattle.rig.proofs.reading.read_admitted.Goals as goal

pub returns-in-Some : goal.returns-in-Some
returns-in-Some g c =
    let b = bench c.args.table.now c.args.cells.now c.args.reads.now c.args.writes.now in
    let memory = memory_of g.W.Word g.B.Board c.args.board.now in
    let me = c.args.me in
    let cell = c.args.cell in
    let known = c.requires.admitted in
    read_logged memory b c.args.who cell me known c.in-Some.word
    (ap (word_for cell) (sym c.of_head-write_log.ensures) ∙ sym c.word_for.ensures ∙ c.in-Some.is)

pub returns-then-must_wait : goal.returns-then-must_wait
returns-then-must_wait g c =
    let b = bench c.args.table.now c.args.cells.now c.args.reads.now c.args.writes.now in
    let memory = memory_of g.W.Word g.B.Board c.args.board.now in
    let me = c.args.me in
    let cell = c.args.cell in
    let known = c.requires.admitted in
    let none : word_for cell (log_of c.args.who.head me.write_count c.args.writes.now) ≡ None =
    ap (word_for cell) (sym c.of_head-write_log.ensures) ∙ sym c.word_for.ensures ∙ c.in_default.is in
    let waits : (is_software me.state && is_odd c.args.table.now.sequence) ≡ true =
    ap (λ s. is_software s && is_odd c.args.table.now.sequence) c.requires.mode ∙ sym c.must_wait.ensures ∙ c.if-must_wait.true in
    read_busy memory b c.args.who cell me known none waits

pub returns-then-lacks_room_for : goal.returns-then-lacks_room_for
returns-then-lacks_room_for g c =
    let b = bench c.args.table.now c.args.cells.now c.args.reads.now c.args.writes.now in
    let memory = memory_of g.W.Word g.B.Board c.args.board.now in
    let me = c.args.me in
    let cell = c.args.cell in
    let known = c.requires.admitted in
    let none : word_for cell (log_of c.args.who.head me.write_count c.args.writes.now) ≡ None =
    ap (word_for cell) (sym c.of_head-write_log.ensures) ∙ sym c.word_for.ensures ∙ c.in_default.is in
    let waits : (is_software me.state && is_odd c.args.table.now.sequence) ≡ false =
    ap (λ s. is_software s && is_odd c.args.table.now.sequence) c.requires.mode ∙ sym c.must_wait.ensures ∙ c.if-must_wait.false in
    let room : lacks_room_for cell (log_of c.args.who.head me.read_count c.args.reads.now) ≡ true =
    ap (lacks_room_for cell) (sym c.of_head-read_log.ensures) ∙ sym c.lacks_room_for.ensures ∙ c.if-lacks_room_for.true in
    read_full memory b c.args.who cell me known none waits room

pub returns-in-Hardware : goal.returns-in-Hardware
returns-in-Hardware g c =
    let b = bench c.args.table.now c.args.cells.now c.args.reads.now c.args.writes.now in
    let memory = memory_of g.W.Word g.B.Board c.args.board.now in
    let me = c.args.me in
    let cell = c.args.cell in
    let known = c.requires.admitted in
    let none : word_for cell (log_of c.args.who.head me.write_count c.args.writes.now) ≡ None =
    ap (word_for cell) (sym c.of_head-write_log.ensures) ∙ sym c.word_for.ensures ∙ c.in_default.is in
    let waits : (is_software me.state && is_odd c.args.table.now.sequence) ≡ false =
    ap (λ s. is_software s && is_odd c.args.table.now.sequence) c.requires.mode ∙ sym c.must_wait.ensures ∙ c.if-must_wait.false in
    let room : lacks_room_for cell (log_of c.args.who.head me.read_count c.args.reads.now) ≡ false =
    ap (lacks_room_for cell) (sym c.of_head-read_log.ensures) ∙ sym c.lacks_room_for.ensures ∙ c.if-lacks_room_for.false in
    read_hardware memory b c.args.who cell me known _ none waits room
    (ap is_hardware (c.requires.mode ∙ ap state_in c.in-Hardware.is)) c.read_in_hardware.ensures

pub returns-in-Software : goal.returns-in-Software
returns-in-Software g c =
    let b = bench c.args.table.now c.args.cells.now c.args.reads.now c.args.writes.now in
    let memory = memory_of g.W.Word g.B.Board c.args.board.now in
    let me = c.args.me in
    let cell = c.args.cell in
    let known = c.requires.admitted in
    let none : word_for cell (log_of c.args.who.head me.write_count c.args.writes.now) ≡ None =
    ap (word_for cell) (sym c.of_head-write_log.ensures) ∙ sym c.word_for.ensures ∙ c.in_default.is in
    let waits : (is_software me.state && is_odd c.args.table.now.sequence) ≡ false =
    ap (λ s. is_software s && is_odd c.args.table.now.sequence) c.requires.mode ∙ sym c.must_wait.ensures ∙ c.if-must_wait.false in
    let room : lacks_room_for cell (log_of c.args.who.head me.read_count c.args.reads.now) ≡ false =
    ap (lacks_room_for cell) (sym c.of_head-read_log.ensures) ∙ sym c.lacks_room_for.ensures ∙ c.if-lacks_room_for.false in
    read_software memory b c.args.who cell me known _ none waits room
    (ap is_hardware (c.requires.mode ∙ ap state_in c.in-Software.is)) c.read_in_software.ensures
