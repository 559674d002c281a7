use Rattle.fields.proofs.Joins.{fielded_at}
use Rattle.fields.proofs.parts.Line.fields.Goals as goal

pub returns-clause-parted : goal.returns-clause-parted
returns-clause-parted c = rw c.all_fields.ensures (fielded_at _)
