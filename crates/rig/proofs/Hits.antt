-- Loads of a log's cells, and perhaps of one more.
use Rattle.std.proofs.Common.{◌≡◌, ℕ, Bool, true, false, ◌||◌, List, [], ◌∷◌, map, Some, None, Option, refl, ap, ◌∙◌}
use Rattle.std.specs.List.{list_any}
use Rattle.std.proofs.lemmas.List.Folds.{list_any-append}
use Rattle.rules.specs.declared.types.Slot.{Slot}
use Rattle.rules.specs.Logs.{touches}
use Rattle.rules.proofs.Basics.{by-test}
use Rattle.logs.specs.Lines.{shares_line}
use Rattle.rig.specs.Accesses.{option_list, cells_of}

module _ {W : Type 0} (line : ℕ → ℕ) (writes : List (Slot W)) where
  -- whether a load of one of the cells hits the log
  abbrev hit : List ℕ → Bool
  hit cs = list_any (λ c. touches line (line c) writes) cs

  any-log : (log : List (Slot W)) → hit (map (λ (s : Slot W). s.cell) log) ≡ shares_line line log writes
  any-log [] = refl
  any-log (s ∷ log) = ap (λ b. touches line (line s.cell) writes || b) (any-log log)

  either : (log : List (Slot W)) (cell : Option ℕ) → hit (cells_of log cell) ≡ (shares_line line log writes || hit (option_list cell))
  either log cell =
      list_any-append (λ c. touches line (line c) writes) (map (λ (s : Slot W). s.cell) log) (option_list cell)
      ∙ ap (λ b. b || hit (option_list cell)) (any-log log)

  pub log_hits : (log : List (Slot W)) (cell : Option ℕ) → shares_line line log writes ≡ true → list_any (λ c. touches line (line c) writes) (cells_of log cell) ≡ true
  log_hits log cell e = either log cell ∙ rw e refl

  pub cell_hits : (log : List (Slot W)) (c : ℕ) → shares_line line log writes ≡ false → list_any (λ c. touches line (line c) writes) (cells_of log (Some c)) ≡ touches line (line c) writes
  cell_hits log c e = either log (Some c) ∙ rw e (by-test (touches line (line c) writes) (λ b. (b || false) ≡ b) (λ _. refl) (λ _. refl))

  pub none_hits : (log : List (Slot W)) → shares_line line log writes ≡ false → list_any (λ c. touches line (line c) writes) (cells_of log None) ≡ false
  none_hits log e = either log None ∙ rw e refl
