use Rattle.sheets.proofs.Scenarios.{says_to, can_begin}
use Rattle.sheets.proofs.printed.run_sheet.Goals as goal

pub sheet_of-requires : goal.sheet_of-requires
sheet_of-requires c = can_begin c.args.text.now _ _ _ _ (says_to _ _ _ _ c.read-scenario.ensures.says c.in_ok-fault.ensures.fault)
