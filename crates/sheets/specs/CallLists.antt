-- The calls of a scenario as an iterator over them.
use Rattle.std.specs.Prelude.{ℤ, List, map}
use Rattle.rules.specs.declared.types.MadeCall.{MadeCall}
use Rattle.sheets.specs.declared.starts.ByHead.{ByHead}
use Rattle.sheets.specs.Starts.{made_call}

-- the calls that are still to come
abbrev pub calls_left : ByHead → List (MadeCall ℤ)
calls_left list = map made_call list.calls.now
