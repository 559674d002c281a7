-- What the steps of the walk leave, by the rule book.
use Rattle.std.specs.Prelude.{◌+◌, ℕ, List, replicate, ℤ, pos, Ok, Err, Result, codes}
use Rattle.parts.specs.declared.types.Mode.{Mode}
use Rattle.parts.specs.declared.types.Mode.TheVariants.{Hardware, Software}
use Rattle.rules.specs.declared.types.Caller.{Caller}
use Rattle.rules.specs.declared.types.Closing.{Closing}
use Rattle.rules.specs.declared.types.Closing.TheVariants as closing
use Rattle.rules.specs.declared.types.Refusal.{Refusal}
use Rattle.rules.specs.Logs.{slot}
use Rattle.rules.specs.Bench.{Bench, bench}
use Rattle.rules.specs.Calls.{new_table, close_of}
use Rattle.rules.specs.Examples.{on_lines}
use Rattle.rig.specs.Rigs.{rig_bench}
use Rattle.handles.specs.Handles.{pushes_of}
use Rattle.walkthrough.specs.declared.bench.Bench.{Bench as Walk}

-- the rig of a walk, with the lists that it is lent
abbrev pub on_bench : Walk → Bench ℤ
on_bench walk = rig_bench walk.rig walk.cells walk.reads walk.writes

-- as it is set up: two idle heads over two cells of these amounts
abbrev pub new_bench : List ℤ → Bench ℤ
new_bench cells = let slots = replicate 64 (slot 0 (pos 0)) in bench (new_table 2 2) cells slots slots

-- the pushes until no slot is left, for what the first of them answers
abbrev pub pushes_told : Result ℕ Refusal → Result ℕ Refusal
pushes_told (Ok n) = Ok (1 + n)
pushes_told (Err e) = Err e

-- once a close has started to write back, pushes follow until no slot is left
abbrev pub with_pushes : Caller → Result Closing Refusal → Bench ℤ → Bench ℤ
with_pushes who (Ok (closing.WritingBack n)) b = pushes_of b who
with_pushes who (Ok (closing.Complete n)) b = b
with_pushes who (Err e) b = b

-- a close, and what is then to be pushed
abbrev pub committed : Bench ℤ → Caller → Bench ℤ
committed b who = with_pushes who (close_of on_lines.memory b who).answer (close_of on_lines.memory b who).left

abbrev pub mode_text : Mode → List ℕ
mode_text Hardware = codes "hardware"
mode_text Software = codes "software"
