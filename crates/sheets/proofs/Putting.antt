-- A line that is written from its end.
use Rattle.std.proofs.Common.{◌≡◌, ℕ, ◌+◌, ◌-◌, ◌≤◌, List, ◌++◌, length, take, drop, ap, ◌∙◌, arith}
use Rattle.std.proofs.lemmas.List.{drop_at, drop-drop, length-take-le}
use borrow.Rule.Slice.PartMut.{put_mid}

-- a text is copied to before what stands from s on
pub drop_put : (bytes text copied : List ℕ) (s : ℕ) → length text ≤ s → s ≤ length bytes → copied ≡ text
    → drop (s - length text) (put_mid (s - length text) (s - (s - length text)) bytes copied) ≡ text ++ drop s bytes
drop_put bytes text copied s low high same =
    let a = s - length text in
    let within : a ≤ length bytes = omega arith in
    let back : a + (s - a) ≡ s = omega arith in
    drop_at (take a bytes) _ a (length-take-le a bytes within)
    ∙ ap (λ x. copied ++ x) (drop-drop (s - a) a bytes ∙ ap (λ n. drop n bytes) back)
    ∙ ap (λ x. x ++ drop s bytes) same
