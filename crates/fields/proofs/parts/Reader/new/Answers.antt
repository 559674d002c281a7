use Rattle.fields.proofs.Joins.{lined}
use Rattle.fields.proofs.parts.Reader.new.Goals as goal

pub returns-clause-parted : goal.returns-clause-parted
returns-clause-parted c = rw c.all_lines.ensures (lined c.args.text.now)
