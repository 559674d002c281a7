use Rattle.std.proofs.Common.{refl}
use Rattle.fields.proofs.Joins.{first-line}
use Rattle.fields.proofs.reader.first_line.Goals as goal

pub returns-clause-handed : goal.returns-clause-handed
returns-clause-handed c = first-line _ _ _ _ _ _ c.requires.some c.cut.ensures c.unwrap_or-rest.ensures refl
