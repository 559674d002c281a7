use Rattle.std.proofs.Common.{rules}
use Rattle.fields.proofs.Numerals.{none-empty, none-lead, plain}
use Rattle.fields.proofs.numbers.number_of.Goals as goal

pub returns-in-empty : goal.returns-in-empty
returns-in-empty c = none-empty c.args.bytes.now (search rules)

pub returns-in-48 : goal.returns-in-48
returns-in-48 c = none-lead c.args.bytes.now (search rules) (search rules)

pub returns-in_default : goal.returns-in_default
returns-in_default c = plain c.args.bytes.now _ (search rules) (search rules) c.digits_value.ensures
