use Rattle.std.proofs.Common.{◌≡◌, ◌∙◌, sym, ap, leb, length, true, false, None, Option}
use Rattle.rules.specs.declared.limits.TheConstants.{SLOTS}
use Rattle.rules.specs.Logs.{word_for, lacks_room_for, log_of}
use Rattle.rules.specs.Heads.{is_hardware, state_in}
use Rattle.rules.specs.Bench.{bench}
use Rattle.rules.specs.Kit.{memory_of}
use Rattle.rig.proofs.WriteSteps.{counted, room_free, room_known, room_none, write_full, write_software, write_stored, wrote_bounds}
use Rattle.rig.proofs.writing.write_admitted.Goals.{in-Some, in-None+else-is_full}
use Rattle.rig.proofs.writing.write_admitted.Goals as goal

pub returns-in-None : goal.returns-in-None
returns-in-None g c =
    let b = bench c.args.table.now c.args.cells.now c.args.reads.now c.args.writes.now in
    let memory = memory_of g.W.Word g.B.Board c.args.board.now in
    let me = c.args.me in
    let cell = c.args.slot.cell in
    let word = c.args.slot.word in
    let known = c.requires.admitted in
    let log = log_of c.args.who.head me.write_count c.args.writes.now in
    let found = λ (o : Option g.row.W.Denot) (e : c.word_for.result ≡ o). ap (word_for cell) (sym c.of_head-log.ensures) ∙ sym c.word_for.ensures ∙ e in
    let full : lacks_room_for cell log ≡ true =
    room_none cell log (found None c.in-None.is) (ap (λ l. leb SLOTS (length l)) (sym c.of_head-log.ensures) ∙ sym c.is_full.ensures ∙ c.if-is_full.true) in
    write_full memory b c.args.who cell word me known full

pub put_word-write_count-requires-clause-room : goal.put_word-write_count-requires-clause-room
put_word-write_count-requires-clause-room g c =
    let b = bench c.args.table.now c.args.cells.now c.args.reads.now c.args.writes.now in
    let memory = memory_of g.W.Word g.B.Board c.args.board.now in
    let me = c.args.me in
    let cell = c.args.slot.cell in
    let word = c.args.slot.word in
    let known = c.requires.admitted in
    let log = log_of c.args.who.head me.write_count c.args.writes.now in
    let found = λ (o : Option g.row.W.Denot) (e : c.word_for.result ≡ o). ap (word_for cell) (sym c.of_head-log.ensures) ∙ sym c.word_for.ensures ∙ e in
    let room : lacks_room_for cell log ≡ false = elim c.match-word_for.branch [
      | in-Some w ↦ room_known cell _ log (found _ w.in-Some.is)
      | in-None+else-is_full w ↦ room_free cell log (found None w.in-None.is) (ap (λ l. leb SLOTS (length l)) (sym c.of_head-log.ensures) ∙ sym w.is_full.ensures ∙ w.if-is_full.false)
    ] in
    room

pub store-requires-clause-own : goal.store-requires-clause-own
store-requires-clause-own g c =
    let b = bench c.args.table.now c.args.cells.now c.args.reads.now c.args.writes.now in
    let memory = memory_of g.W.Word g.B.Board c.args.board.now in
    let me = c.args.me in
    let cell = c.args.slot.cell in
    let word = c.args.slot.word in
    let known = c.requires.admitted in
    let log = log_of c.args.who.head me.write_count c.args.writes.now in
    let found = λ (o : Option g.row.W.Denot) (e : c.word_for.result ≡ o). ap (word_for cell) (sym c.of_head-log.ensures) ∙ sym c.word_for.ensures ∙ e in
    let room : lacks_room_for cell log ≡ false = elim c.match-word_for.branch [
      | in-Some w ↦ room_known cell _ log (found _ w.in-Some.is)
      | in-None+else-is_full w ↦ room_free cell log (found None w.in-None.is) (ap (λ l. leb SLOTS (length l)) (sym c.of_head-log.ensures) ∙ sym w.is_full.ensures ∙ w.if-is_full.false)
    ] in
    wrote_bounds memory b c.args.who cell word me known c.with_write-me.result c.put_word-write_count.result
    room c.put_word-write_count.ensures.count (counted me c.with_write-me.result c.args.mode c.put_word-write_count.result c.requires.mode c.with_write-me.ensures)

pub returns-in-Hardware : goal.returns-in-Hardware
returns-in-Hardware g c =
    let b = bench c.args.table.now c.args.cells.now c.args.reads.now c.args.writes.now in
    let memory = memory_of g.W.Word g.B.Board c.args.board.now in
    let me = c.args.me in
    let cell = c.args.slot.cell in
    let word = c.args.slot.word in
    let known = c.requires.admitted in
    let log = log_of c.args.who.head me.write_count c.args.writes.now in
    let found = λ (o : Option g.row.W.Denot) (e : c.word_for.result ≡ o). ap (word_for cell) (sym c.of_head-log.ensures) ∙ sym c.word_for.ensures ∙ e in
    let room : lacks_room_for cell log ≡ false = elim c.match-word_for.branch [
      | in-Some w ↦ room_known cell _ log (found _ w.in-Some.is)
      | in-None+else-is_full w ↦ room_free cell log (found None w.in-None.is) (ap (λ l. leb SLOTS (length l)) (sym c.of_head-log.ensures) ∙ sym w.is_full.ensures ∙ w.if-is_full.false)
    ] in
    write_stored memory b c.args.who cell word me known _ c.with_write-me.result c.put_word-write_count.result c.put_word-write_count.new.slots
    c.requires.bounds.heads room (ap is_hardware (c.requires.mode ∙ ap state_in c.in-Hardware.is)) c.put_word-write_count.ensures.count (counted me c.with_write-me.result c.args.mode c.put_word-write_count.result c.requires.mode c.with_write-me.ensures) c.put_word-write_count.ensures.slots c.store.ensures

pub returns-in-Software : goal.returns-in-Software
returns-in-Software g c =
    let b = bench c.args.table.now c.args.cells.now c.args.reads.now c.args.writes.now in
    let memory = memory_of g.W.Word g.B.Board c.args.board.now in
    let me = c.args.me in
    let cell = c.args.slot.cell in
    let word = c.args.slot.word in
    let known = c.requires.admitted in
    let log = log_of c.args.who.head me.write_count c.args.writes.now in
    let found = λ (o : Option g.row.W.Denot) (e : c.word_for.result ≡ o). ap (word_for cell) (sym c.of_head-log.ensures) ∙ sym c.word_for.ensures ∙ e in
    let room : lacks_room_for cell log ≡ false = elim c.match-word_for.branch [
      | in-Some w ↦ room_known cell _ log (found _ w.in-Some.is)
      | in-None+else-is_full w ↦ room_free cell log (found None w.in-None.is) (ap (λ l. leb SLOTS (length l)) (sym c.of_head-log.ensures) ∙ sym w.is_full.ensures ∙ w.if-is_full.false)
    ] in
    write_software memory b c.args.who cell word me known c.with_write-me.result c.put_word-write_count.result c.put_word-write_count.new.slots
    room (ap is_hardware (c.requires.mode ∙ ap state_in c.in-Software.is)) c.put_word-write_count.ensures.count (counted me c.with_write-me.result c.args.mode c.put_word-write_count.result c.requires.mode c.with_write-me.ensures) c.put_word-write_count.ensures.slots
