use Rattle.std.proofs.Common.{◌<◌, ◌++◌, length, take, rules}
use Rattle.std.proofs.lemmas.Result.{err_from_is_err_and}
use Rattle.std.proofs.KnownBytes.{Appends-trans}
use Rattle.scenario.proofs.Writing.{part_more, written_part}
use Rattle.scenario.proofs.streams.write_text.Goals as goal

pub returns-in_err-count : goal.returns-in_err-count
returns-in_err-count g c =
    let (done, split, added) = c.loop-rest.invariant in
    let p = err_from_is_err_and c.from_residual.result c.from_residual.ensures.1 in
    let some : 0 < length c.loop-rest.rest.now = search rules in
    rw (p.1, p.2) (c.in_err-count.ensures.lasting, written_part _ _ _ _ done _ split some added c.in_err-count.ensures.kept)

pub loop-rest-preserved : goal.loop-rest-preserved
loop-rest-preserved g c =
    let (done, split, added) = c.loop-rest.invariant in
    let rest = c.loop-rest.rest.now in
    let n = c.in_ok-count.count in
    (done ++ take n rest, part_more _ done rest n split, Appends-trans _ _ _ _ _ added c.in_ok-count.ensures.added)
