use Rattle.std.proofs.Common.{◌≡◌, ℕ, ◌+◌, ◌++◌, ◌-◌, ◌∷◌, ◌≤◌, ◌%◌, true, drop, set, sym, subst, ap, ◌∙◌, arith, get_or}
use Rattle.rules.specs.Logs.{lines_of, distinct_count}
use Rattle.logs.specs.Lines.{Marked}
use Rattle.logs.proofs.Counted.{one_before, counted_new, counted_known, marked_more}
use Rattle.logs.proofs.lines.count_beside.Goals.{then-is_new, else-is_new}
use Rattle.logs.proofs.lines.count_beside.Goals as goal

pub loop-left-preserved : goal.loop-left-preserved
loop-left-preserved g c =
    let line = g.B.Board.line c.args.board.now in
    let log = c.args.log.now in
    let other = c.args.other.now in
    let n = c.loop-left.left in
    let later = drop n log in
    let s = get_or log (n - 1) c.index-slots-left.result in
    let before = c.loop-left.count in
    let after = c.if-is_new.count in
    let told = c.line-line.ensures ∙ ap (λ xs. line (get_or xs (n - 1) c.index-slots-left.result).cell) c.slots-slots.ensures.slots in
    let back = one_before log other n c.index-slots-left.result c.loop-left-test.true c.loop-left.invariant.within in
    let more : after ≤ before + 1 = elim c.if-is_new.branch [
      | then-is_new w ↦ let q = w.count-is in omega arith
      | else-is_new w ↦ let q = w.count-is in omega arith
    ] in
    let counted : after ≡ distinct_count (c.line-line.result ∷ lines_of line (later ++ other)) = elim c.if-is_new.branch [
      | then-is_new w ↦ counted_new line c.line-line.result before after later other c.is_new.result c.is_new.ensures c.loop-left.invariant.count w.if-is_new.true w.count-is
      | else-is_new w ↦ counted_known line c.line-line.result before after later other c.is_new.result c.is_new.ensures c.loop-left.invariant.count w.if-is_new.false w.count-is
    ] in
    record {
      within = omega arith;
      bound = omega arith;
      count = counted ∙ ap (λ (l : ℕ). distinct_count (l ∷ lines_of line (later ++ other))) told ∙ ap (λ xs. distinct_count (lines_of line xs)) (sym back);
      marked = subst (Marked line (set c.loop-left.marks (c.line-line.result % 64) true)) (sym back)
          (subst (λ (l : ℕ). Marked line (set c.loop-left.marks (l % 64) true) (s ∷ (later ++ other))) (sym told) (marked_more line c.loop-left.marks s (later ++ other) (omega arith) c.loop-left.invariant.marked));
    }
