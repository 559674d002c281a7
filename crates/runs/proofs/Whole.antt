-- A whole run, from set-up on.
use Rattle.std.proofs.Common.{◌≡◌, ℕ, cond, IsTrue, List, Ok, Err, sym, ap, ◌∙◌, subst}
use Rattle.parts.specs.Sizes.{in_range}
use Rattle.rules.specs.declared.types.Refusal.TheVariants as refuse
use Rattle.rules.specs.declared.types.MadeCall.{MadeCall}
use Rattle.rules.specs.declared.types.Slot.{Slot}
use Rattle.rules.specs.declared.types.Table.{Table}
use Rattle.rules.specs.Kit.{Kit}
use Rattle.rules.specs.Bench.{Bench, bench}
use Rattle.rules.specs.Calls.{new_table, set_up}
use Rattle.rules.specs.Answers.{Answer}
use Rattle.rules.specs.Runs.{answers_of, left_by}
use Rattle.rules.specs.RunLaws.{LawsHold, HandlesEnd}
use Rattle.rules.proofs.Lawful.{Lawful}
use Rattle.rules.proofs.EndedHandles.{handles-end-in-runs}
use Rattle.rules.proofs.WholeRuns.{laws-of-runs}
use Rattle.runs.specs.Ran.{Ran}

module _ {W : Type 0} (kit : Kit W) (law : Lawful kit) (heads count : ℕ) (cells : List W) (reads writes : List (Slot W)) (calls : List (MadeCall W)) where
  pub ran-from : (t : Table) (k : Kit W) (given : List (Answer W)) (now : Bench W) → IsTrue (in_range heads count) → t ≡ new_table heads count → k ≡ kit
      → given ≡ answers_of k (bench t cells reads writes) calls → now ≡ left_by k (bench t cells reads writes) calls
      → Ran kit (bench (new_table heads count) cells reads writes) calls given now
  ran-from t k given now good new same eg en =
      let up : set_up heads count ≡ Ok (new_table heads count) = ap (λ b. cond b (Ok (new_table heads count)) (Err refuse.OutOfRange)) good in
      let start : Bench W = bench (new_table heads count) cells reads writes in
      let gives : given ≡ answers_of kit start calls =
      eg ∙ ap (λ x. answers_of x (bench t cells reads writes) calls) same ∙ ap (λ x. answers_of kit (bench x cells reads writes) calls) new in
      let leaves : now ≡ left_by kit start calls =
      en ∙ ap (λ x. left_by x (bench t cells reads writes) calls) same ∙ ap (λ x. left_by kit (bench x cells reads writes) calls) new in
      record {
        answers = gives;
        left = leaves;
        laws =
            subst (λ xs. LawsHold kit.policy.patience cells xs calls given) (sym (ap (λ (b : Bench W). b.cells) leaves))
            (subst (LawsHold kit.policy.patience cells (left_by kit start calls).cells calls) (sym gives) (laws-of-runs kit law heads count start calls up));
        handles = subst (HandlesEnd calls) (sym gives) (handles-end-in-runs kit heads count start calls up);
      }
