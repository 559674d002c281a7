-- A validation that fails: the cells up to the first that differs are loaded, and the head aborts.
use Rattle.std.proofs.Common.{◌≡◌, ℕ, List, [], ◌++◌, set, Err, ap, ◌∙◌}
use Rattle.std.proofs.lemmas.List.{append-nil}
use Rattle.parts.specs.declared.types.Cause.TheVariants.{Changed}
use Rattle.rules.specs.declared.types.Head.{Head}
use Rattle.rules.specs.declared.types.Refusal.TheVariants as refuse
use Rattle.rules.specs.Kit.{Memory}
use Rattle.rules.specs.Heads.{abort}
use Rattle.rules.specs.Bench.{Bench, bench, head_at, after_loads, cells_validated}
use Rattle.rules.specs.Calls.{outcome, aborts_in}

pub changed : {A W : Type 0} (memory : Memory W) (b : Bench W) (k : ℕ) (me : Head) → me ≡ head_at b k → (ys : List Head) (h : Head) (loaded : List ℕ)
    → h ≡ abort Changed me → loaded ≡ cells_validated memory b k → ys ≡ after_loads memory b k (loaded ++ [])
    → outcome {A = A} (Err (refuse.Aborted Changed)) (bench (record b.table { heads = set ys k h }) b.cells b.reads b.writes)
    ≡ aborts_in b k (after_loads memory b k (cells_validated memory b k)) Changed (head_at b k)
changed {A} memory b k me own ys h loaded eh el es =
    ap (λ x. outcome {A = A} (Err (refuse.Aborted Changed)) (bench (record b.table { heads = set ys k x }) b.cells b.reads b.writes)) (eh ∙ ap (abort Changed) own)
    ∙ ap (λ zs. outcome {A = A} (Err (refuse.Aborted Changed)) (bench (record b.table { heads = set zs k (abort Changed (head_at b k)) }) b.cells b.reads b.writes))
    (es ∙ ap (after_loads memory b k) (append-nil loaded ∙ el))
