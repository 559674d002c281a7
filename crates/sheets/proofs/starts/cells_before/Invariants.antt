use Rattle.std.proofs.Common.{◌≡◌, take, vec_len}
use Rattle.sheets.specs.Starts.{cells_before}
use Rattle.sheets.proofs.starts.cells_before.Given as goal

abbrev pub invariant-loop-setting : goal.invariant-loop-setting
invariant-loop-setting l = record {
  as_many : vec_len l.words ≡ l.cells;
  so_far : l.words.items ≡ cells_before l.cells (take l.setting-index l.settings);
}
