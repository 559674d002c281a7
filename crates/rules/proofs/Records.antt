-- Short names for records with some parts given anew.
use Rattle.std.specs.Prelude.{ℕ, List}
use Rattle.rules.specs.declared.types.Head.{Head}
use Rattle.rules.specs.declared.types.Snapshot.{Snapshot}
use Rattle.rules.specs.declared.types.State.{State}
use Rattle.rules.specs.declared.types.State.TheVariants.{Idle}
use Rattle.rules.specs.declared.types.Table.{Table}
use Rattle.rules.specs.Heads.{empty_logs, stores_after}

abbrev pub with_heads : Table → List Head → Table
with_heads t heads = record t { heads = heads }

abbrev pub with_numbers : Table → List Head → ℕ → ℕ → ℕ → Table
with_numbers t heads sequence commits opened = record t { heads = heads; sequence = sequence; commits = commits; opened = opened }

abbrev pub become : State → Head → Head
become s h = record h { state = s }

abbrev pub cancel : Head → Head
cancel h = record (empty_logs h) { state = Idle }

abbrev pub wrote : ℕ → Head → Head
wrote n h = record h { written = n }

abbrev pub resnap : Snapshot → Head → Head
resnap s h = record h { snapshot = s }

abbrev pub read_more : ℕ → Head → Head
read_more n h = record h { read_count = n }

abbrev pub wrote_more : ℕ → Head → Head
wrote_more n h = record h { stores = stores_after h.state h.stores; write_count = n }
