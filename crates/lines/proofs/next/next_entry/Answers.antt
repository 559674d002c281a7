use Rattle.lines.proofs.Once.{line-once}
use Rattle.lines.proofs.next.next_entry.Goals as goal

pub returns-in_err-line-clause-once : goal.returns-in_err-line-clause-once
returns-in_err-line-clause-once c = line-once

pub returns-clause-once : goal.returns-clause-once
returns-clause-once c = line-once
