use Rattle.fields.proofs.Joins.{last-field, next-field}
use Rattle.fields.proofs.reader.first_field.Goals as goal

pub returns-in_default : goal.returns-in_default
returns-in_default c = last-field _ _ _ (rw c.in_default.is at c.cut.ensures)

pub returns : goal.returns
returns c = next-field _ _ _ _ (rw c.in-Some.is at c.cut.ensures)
