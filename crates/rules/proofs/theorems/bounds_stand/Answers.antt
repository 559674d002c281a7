use Rattle.rules.proofs.KeptBounds.{bounds-at-set-up, bounds-kept}
use Rattle.rules.proofs.theorems.bounds_stand.Goals as goal

pub returns : goal.returns
returns g c = record {
  set_up = bounds-at-set-up;
  calls = search bounds-kept;
}
