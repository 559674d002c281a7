-- What a writer holds, from one write to the next.
use Rattle.std.proofs.Common.{◌≡◌, ◌<◌, ◌-◌, ℕ, List, ◌++◌, length, take, drop, Some, None, Option, sym, subst, ap, ◌∙◌, append_assoc, append-nil, take-append-drop, arith}
use Rattle.std.specs.Io.KnownBytes.{Appends, Keeps}
use Rattle.std.proofs.KnownBytes.{Appends-kept}
use Rattle.std.proofs.lemmas.List.{length-append, take_rest}
use Rattle.std.proofs.Math.Seq.{take-append_seam}
use Rattle.scenario.specs.Streams.{AppendsPart}

-- nothing was added, and then some bytes
pub after_kept : (a b c : Option (List ℕ)) (bs : List ℕ) → Keeps a b → Appends b c bs → Appends a c bs
after_kept None b c bs k h = tt
after_kept (Some x) None c bs k h = absurd k
after_kept (Some x) (Some y) None bs k h = absurd h
after_kept (Some x) (Some y) (Some z) bs k h = h ∙ ap (λ l. l ++ bs) k

-- a write that took no byte
pub none_taken : (a b : Option (List ℕ)) (bs : List ℕ) → Appends a b (take 0 bs) → Keeps a b
none_taken None b bs h = tt
none_taken (Some x) None bs h = absurd h
none_taken (Some x) (Some y) bs h = h ∙ append-nil x

-- a text of which these bytes are written, and that many more
pub part_more : (all done rest : List ℕ) (n : ℕ) → all ≡ done ++ rest → all ≡ (done ++ take n rest) ++ take (length rest - n) (drop n rest)
part_more all done rest n e =
    e ∙ ap (λ l. done ++ l) (sym (take-append-drop n rest)) ∙ sym (append_assoc done (take n rest) (drop n rest)) ∙ ap (λ l. (done ++ take n rest) ++ l) (sym (take_rest rest n))

-- a text that is written in part
pub written_part : (before mid after : Option (List ℕ)) (text done rest : List ℕ) → text ≡ done ++ rest → 0 < length rest → Appends before mid done → Keeps mid after → AppendsPart before after text
written_part before mid after text done rest split some adds keeps =
    let size : length text ≡ length (done ++ rest) = ap length split in
    let sizes : length (done ++ rest) ≡ _ = length-append done rest in
    let first : take (length done) text ≡ done = ap (take (length done)) split ∙ take-append_seam done rest in
    (length done, (omega (arith, size, sizes), subst (Appends before after) (sym first) (Appends-kept before mid after done adds keeps)))
