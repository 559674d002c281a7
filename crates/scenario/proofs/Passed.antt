-- A text that is read from a reader, and what is printed of it.
use Rattle.std.proofs.Common.{◌≡◌, ℕ, ◌≤◌, List, [], append-nil, ◌++◌, ◌+◌, length, take, min, Some, None, Option, refl, sym, subst, ap, ◌∙◌, arith}
use Rattle.std.specs.Option.{IfSome}
use Rattle.std.specs.Io.KnownBytes.{Consumes, IsAtEnd}
use Rattle.std.proofs.lemmas.List.{length-take, take_all}
use Rattle.std.proofs.Math.Seq.{take-append_seam}
use Rattle.entries.specs.declared.types.Entry.{Entry}
use Rattle.faults.specs.declared.types.RigFault.{RigFault}
use Rattle.faults.specs.declared.texts.TheConstants.{LONGEST}
use Rattle.scenario.specs.Texts.{TextSays, long, empty, lined}
use Rattle.scenario.specs.Laws.{ReadBack}
use Rattle.scenario.specs.Streams.{PrintOf}

-- a reader that is at its end has given all that it had, which is no more than is wanted
pub all_read : (had mid left : Option (List ℕ)) (text : List ℕ) → Consumes had mid text → Consumes mid left [] → IsAtEnd left → length text ≤ LONGEST + 1 → IfSome had (λ bytes. text ≡ take (LONGEST + 1) bytes)
all_read None mid left text first rest end short = tt
all_read (Some x) None left text first rest end short = absurd first
all_read (Some x) (Some y) None text first rest end short = absurd rest
all_read (Some x) (Some y) (Some z) text first rest end short =
    let whole : x ≡ text = first ∙ ap (λ l. text ++ l) (rest ∙ end) ∙ append-nil text in
    sym (ap (take (LONGEST + 1)) whole ∙ take_all (LONGEST + 1) text short)

-- as many bytes were read as are wanted
pub enough_read : (had left : Option (List ℕ)) (text : List ℕ) → Consumes had left text → length text ≡ LONGEST + 1 → IfSome had (λ bytes. text ≡ take (LONGEST + 1) bytes)
enough_read None left text first size = tt
enough_read (Some x) None text first size = absurd first
enough_read (Some x) (Some y) text first size = sym (ap (take (LONGEST + 1)) first ∙ ap (λ n. take n (text ++ y)) (sym size) ∙ take-append_seam text y)

-- a text says what its first 65,537 bytes say: with so many it is too long
pub says_of_first : (text : List ℕ) (es : List Entry) (fault : Option RigFault) → TextSays (take (LONGEST + 1) text) es fault → TextSays text es fault
says_of_first text es fault says = of es fault says
  where
    size : length (take (LONGEST + 1) text) ≡ min (LONGEST + 1) (length text)
    size = length-take (LONGEST + 1) text

    of : (es : List Entry) (fault : Option RigFault) → TextSays (take (LONGEST + 1) text) es fault → TextSays text es fault
    of _ _ (long h) = long (omega (arith, size))
    of _ _ (empty h) = empty (omega (arith, size))
    of _ _ (lined es fault some short read) =
        let P : List ℕ → Type 0 = λ t. TextSays t es fault in
        subst P (take_all (LONGEST + 1) text (omega (arith, size))) (lined es fault some short read)

-- what is printed of the first bytes is printed of the text
pub print_of : (Prints : List ℕ → List ℕ → Type 0) → ((text out : List ℕ) → Prints (take (LONGEST + 1) text) out → Prints text out) → (had : Option (List ℕ)) (text seen out : List ℕ)
    → IfSome had (λ bytes. text ≡ take (LONGEST + 1) bytes) → seen ≡ text → Prints seen out → PrintOf Prints had out
print_of Prints of None text seen out h is prints = (seen, (tt, prints))
print_of Prints of (Some bytes) text seen out h is prints = let P : List ℕ → Type 0 = λ t. Prints t out in (bytes, (refl, of bytes out (subst P (is ∙ h) prints)))

pub readback_of_first : (text out : List ℕ) → ReadBack (take (LONGEST + 1) text) out → ReadBack text out
readback_of_first text out r = (r.0, (r.1.0, says_of_first text r.0 r.1.0 r.1.1, r.1.2))
