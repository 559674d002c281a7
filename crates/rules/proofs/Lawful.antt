-- Those of the traits' laws that the proofs use.
use Rattle.std.specs.Prelude.{◌≡◌, ◌≢◌, ℕ, ◌≤◌, IsTrue, ◌↔◌}
use Rattle.parts.specs.declared.types.Cause.{Cause}
use Rattle.parts.specs.declared.types.Cause.TheVariants.{Changed}
use Rattle.parts.specs.declared.types.Mode.TheVariants as mode
use Rattle.rules.specs.Kit.{Kit}

pub record Lawful {W : Type 0} (kit : Kit W) : Type 0 where
  -- two words are the same exactly when they are equal in every part
  pub exact : (x y : W) → IsTrue (kit.memory.same x y) ↔ (x ≡ y)
  -- from as many hardware aborts on, the policy says software, after each cause that ends a hardware attempt
  pub software_from_patience : (cause : Cause) (aborts : ℕ) → cause ≢ Changed → kit.policy.patience ≤ aborts → kit.policy.next cause aborts ≡ mode.Software
  pub at_least_one : 1 ≤ kit.policy.patience
