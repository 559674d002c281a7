-- One call more of a run.
use Rattle.std.proofs.Common.{◌≡◌, ℕ, ◌+◌, ◌<◌, ◌≤◌, min, List, [], ◌∷◌, ◌++◌, length, take, drop, set, get_or, sym, ap, ◌∙◌, append_assoc, arith}
use Rattle.std.proofs.lemmas.List.{take_more_set}
use Rattle.std.proofs.lemmas.List.{append-nil, drop_all, length-take-le, set-get_or}
use Rattle.rules.specs.declared.types.MadeCall.{MadeCall}
use Rattle.rules.specs.Kit.{Kit}
use Rattle.rules.specs.Bench.{Bench}
use Rattle.rules.specs.Answers.{Answer}
use Rattle.rules.specs.Runs.{step, answers_of, left_by}
use Rattle.rig.specs.declared.rig.Rig.{Rig}
use Rattle.rig.specs.Rigs.{Kept}
use Rattle.runs.proofs.Places.{none_there}

module _ {W : Type 0} (kit : Kit W) (now after : Bench W) (a : Answer W) (call : MadeCall W) (made rest : List (MadeCall W)) (em : made ≡ call ∷ rest) (eo : ◌≡◌ {A = Answer W × Bench W} (a, after) (step kit now call)) where
  pub next_answers : (ys all : List (Answer W)) (at : ℕ) → at < length ys → take at ys ++ answers_of kit now made ≡ all → take (at + 1) (set ys at a) ++ answers_of kit after rest ≡ all
  next_answers ys all at lt e =
      ap (λ xs. xs ++ answers_of kit after rest) (take_more_set ys at a lt)
      ∙ append_assoc (take at ys) (a ∷ []) (answers_of kit after rest)
      ∙ ap (λ (x : Answer W × Bench W). take at ys ++ (x.0 ∷ answers_of kit x.1 rest)) eo
      ∙ ap (λ m. take at ys ++ answers_of kit now m) (sym em) ∙ e

  pub next_left : (all : Bench W) → left_by kit now made ≡ all → left_by kit after rest ≡ all
  next_left all e = ap (λ (x : Answer W × Bench W). left_by kit x.1 rest) eo ∙ ap (left_by kit now) (sym em) ∙ e

-- a run whose calls are all made: as many were made as there are calls
module _ {W : Type 0} (kit : Kit W) (first now : Bench W) (all : List (MadeCall W)) (at room : ℕ) (within : at ≤ length all) (lt : at < room) (none : drop at all ≡ []) where
  pub count_made : at ≡ min (length all) room
  count_made = let gone = none_there all at none in omega arith

  nothing-more : drop at (take (min (length all) room) all) ≡ []
  nothing-more = ap (λ n. drop at (take n all)) (sym count_made) ∙ drop_all at (take at all) (let short = length-take-le at all within in omega arith)

  pub answers_made : (ys : List (Answer W)) (d : Answer W) → take at ys ++ answers_of kit now (drop at (take (min (length all) room) all)) ≡ answers_of kit first (take (min (length all) room) all)
      → take at (set ys at (get_or ys at d)) ≡ answers_of kit first (take at all)
  answers_made ys d e =
      ap (take at) (set-get_or ys at d) ∙ sym (append-nil (take at ys)) ∙ ap (λ cs. take at ys ++ answers_of kit now cs) (sym nothing-more) ∙ e
      ∙ ap (λ n. answers_of kit first (take n all)) (sym count_made)

  pub left_made : left_by kit now (drop at (take (min (length all) room) all)) ≡ left_by kit first (take (min (length all) room) all) → now ≡ left_by kit first (take at all)
  left_made e = ap (left_by kit now) (sym nothing-more) ∙ e ∙ ap (λ n. left_by kit first (take n all)) (sym count_made)

-- what calls keep, one after another
pub kept_on : {B P W : Type 0} {a b c : Rig B P} {x y z : Bench W} → Kept a b x y → Kept b c y z → Kept a c x z
kept_on p q = record { board = q.board ∙ p.board; policy = q.policy ∙ p.policy; lengths = q.lengths ∙ p.lengths }
