-- How a transaction goes on after a hardware abort, by its cause and by how many there were.
use Rattle.std.specs.Prelude.{ℕ, nat_le, if◌then◌else◌}
use Rattle.parts.specs.declared.policies.TheConstants.{PLAIN_PATIENCE, CAREFUL_PATIENCE}
use Rattle.parts.specs.declared.types.Cause.{Cause}
use Rattle.parts.specs.declared.types.Cause.TheVariants.{Conflict, Capacity, Lock, Other, Changed}
use Rattle.parts.specs.declared.types.Mode.{Mode}
use Rattle.parts.specs.declared.types.Mode.TheVariants.{Hardware, Software}

-- in software from the n-th abort on
abbrev pub software_from : ℕ → ℕ → Mode
software_from n aborts = if nat_le n aborts then Software else Hardware

abbrev pub plain_mode : Cause → ℕ → Mode
plain_mode cause aborts = software_from PLAIN_PATIENCE aborts

-- a rig never asks after a change, which ends only software attempts
abbrev pub careful_mode : Cause → ℕ → Mode
careful_mode Conflict aborts = software_from CAREFUL_PATIENCE aborts
careful_mode Capacity aborts = Software
careful_mode Lock aborts = software_from 5 aborts
careful_mode Other aborts = software_from 5 aborts
careful_mode Changed aborts = Software
