use Rattle.std.proofs.Common.{◌≤◌, ◌∙◌, ap, arith, length, length-append, length-drop}
use Rattle.std.proofs.lemmas.Str.{IsUtf8-append}
use Rattle.sheets.proofs.Putting.{drop_put}
use Rattle.sheets.proofs.line.Line.put.Goals as goal

pub invariant_of-self : goal.invariant_of-self
invariant_of-self c =
    let inside = c.self.inside in
    let room : length c.args.text.now ≤ inside.start = omega (arith, length-drop inside.start inside.bytes, ap length c.self.view_is) in (
      omega arith,
      rw (drop_put inside.bytes c.args.text.now _ inside.start room (omega arith) (c.copy_from_slice.ensures.after ∙ c.as_bytes.ensures.value)) (IsUtf8-append _ _ c.utf8.text c.self.invariant.1),
    )

pub returns : goal.returns
returns c =
    let inside = c.self.inside in
    let room : length c.args.text.now ≤ inside.start = omega (arith, length-drop inside.start inside.bytes, ap length c.self.view_is) in
    let put = drop_put inside.bytes c.args.text.now _ inside.start room (omega arith) (c.copy_from_slice.ensures.after ∙ c.as_bytes.ensures.value) in
    rw (← c.self.view_is) (record { text = put; len = ap length put ∙ length-append _ _ })
