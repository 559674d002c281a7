use Rattle.std.proofs.Common.{arith, ap, length, length-drop}
use Rattle.std.proofs.lemmas.Fmt.{IsAscii-decimal, length-decimal-le}
use Rattle.std.proofs.lemmas.Str.{IsUtf8-append, IsUtf8-from_ascii}
use Rattle.sheets.proofs.line.Line.put_number.Goals as goal

pub write_digits-self-inside-requires : goal.write_digits-self-inside-requires
write_digits-self-inside-requires c = omega (arith, length-decimal-le 20 c.args.number, ap length c.self.view_is, length-drop c.self.inside.start c.self.inside.bytes)

pub invariant_of-self : goal.invariant_of-self
invariant_of-self c = (
  omega arith,
  rw c.write_digits-self-inside.ensures.written (IsUtf8-append _ _ (IsUtf8-from_ascii _ (IsAscii-decimal _ (omega arith))) c.self.invariant.1),
)

pub returns-clause-len : goal.returns-clause-len
returns-clause-len c = omega (arith, length-decimal-le 20 c.args.number, ap length c.self.view_is, length-drop c.self.inside.start c.self.inside.bytes, length-drop c.write_digits-self-inside.result c.write_digits-self-inside.new.buf)
