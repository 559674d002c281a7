use Rattle.std.proofs.Common.{refl}
use Rattle.fields.proofs.Cuts.{cut-some, cut-none}
use Rattle.fields.proofs.reader.cut.Goals as goal

pub returns-in-Some : goal.returns-in-Some
returns-in-Some c = cut-some c.args.b c.in-Some.n c.args.bytes.now cc

pub returns-in-None : goal.returns-in-None
returns-in-None c = (refl, cut-none c.args.b c.args.bytes.now cc)
