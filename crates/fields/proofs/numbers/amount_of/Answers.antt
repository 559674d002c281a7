use Rattle.fields.proofs.Numerals.{minus-none, minus-some, plain-some}
use Rattle.fields.proofs.numbers.amount_of.Goals as goal

pub returns-in_err-number_of-in-Minus : goal.returns-in_err-number_of-in-Minus
returns-in_err-number_of-in-Minus c = rw c.from_residual.ensures (minus-none c.args.bytes.now _ c.in-Minus.ensures c.in_err-number_of-in-Minus.ensures)

pub returns-in_ok-number_of-in-Minus : goal.returns-in_ok-number_of-in-Minus
returns-in_ok-number_of-in-Minus c = minus-some c.args.bytes.now _ c.in-Minus.ensures _ _ c.in_ok-number_of-in-Minus.ensures c.negated.ensures

pub returns-in_ok-number_of-in-Plain : goal.returns-in_ok-number_of-in-Plain
returns-in_ok-number_of-in-Plain c = rw c.ok.ensures.value (plain-some c.args.bytes.now _ _ _ c.in-Plain.ensures c.in_ok-number_of-in-Plain.ensures c.try_from.ensures)
