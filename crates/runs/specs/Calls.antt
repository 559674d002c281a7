-- The calls of a run as an iterator over a list of them.
use Rattle.std.specs.Prelude.{◌≡◌, List, [], ◌∷◌, length, Some, None, Option, refl}
use Rattle.std.specs.declared.iter.Copied.{Copied}
use Rattle.std.specs.declared.slice.Iter.{Iter}
use Rattle.std.specs.Iterator.{YieldsFirst}
use Rattle.std.specs.Iterator.Adapters.{copied_source, copied_steps}
use Rattle.std.specs.Slice.Iter.{iter_rest, iter_steps}
use Rattle.std.proofs.Common.{sym, ap, ◌∙◌, subst}

nothing-left : {A : Type 0} (xs : List A) → length xs ≡ 0 → xs ≡ []
nothing-left [] e = refl
nothing-left (x ∷ xs) e = Prim.cc

-- an iterator over copies of what a list has yields what is left of it, in order
pub copied_in_order : {A : Type 0} (s t : Copied (Iter A)) (r : Option A) → copied_steps iter_steps s r t → YieldsFirst (λ (c : Copied (Iter A)). iter_rest (copied_source c)) s r t
copied_in_order {A} s t r (None, none, e) =
    let left : List A = iter_rest (copied_source s) in
    let P : Option A → Type 0 = λ o. YieldsFirst (λ (c : Copied (Iter A)). iter_rest (copied_source c)) s o t in
    subst P (sym e) (nothing-left left none.0, ap iter_rest none.1 ∙ nothing-left left none.0)
copied_in_order {A} s t r (Some x, some, e) =
    let P : Option A → Type 0 = λ o. YieldsFirst (λ (c : Copied (Iter A)). iter_rest (copied_source c)) s o t in
    subst P (sym e) some
