-- The numbers of causes and of modes, as a run sheet shows them.
use Rattle.std.specs.Prelude.{ℕ}
use Rattle.parts.specs.declared.types.Cause.{Cause}
use Rattle.parts.specs.declared.types.Cause.TheVariants.{Conflict, Capacity, Lock, Other, Changed}
use Rattle.parts.specs.declared.types.Mode.{Mode}
use Rattle.parts.specs.declared.types.Mode.TheVariants.{Hardware, Software}

abbrev pub cause_number : Cause → ℕ
cause_number Conflict = 1
cause_number Capacity = 2
cause_number Lock = 3
cause_number Other = 4
cause_number Changed = 5

abbrev pub mode_number : Mode → ℕ
mode_number Hardware = 1
mode_number Software = 2
