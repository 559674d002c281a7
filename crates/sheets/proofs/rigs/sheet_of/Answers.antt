use Rattle.std.proofs.Common.{◌≡◌, IfOk, string_bytes, subst}
use Rattle.faults.specs.declared.texts.TheConstants.{NEWLINE}
use Rattle.fields.specs.Parts.{ended}
use Rattle.sheets.proofs.Scenarios.{lines_on_rig}
use Rattle.sheets.proofs.rigs.sheet_of.Goals as goal

pub returns-in-Some : goal.returns-in-Some
returns-in-Some c =
    subst (λ ls. IfOk c.sheet_of_rig.result (λ t. string_bytes t ≡ ended NEWLINE ls)) (lines_on_rig _ _ _ _ c.in-Some.rig c.in-Some.is) c.sheet_of_rig.ensures
