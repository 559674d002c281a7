-- What validation finds, by the number of slots that come before the first that does not hold.
use Rattle.std.proofs.Common.{drop, ◌≡◌, ℕ, suc, ◌+◌, ◌≤◌, ◌<◌, Bool, true, false, cond, ◌&&◌, List, [], ◌∷◌, map, length, take, get_or, sym, subst, refl, ap, ◌∙◌, arith}
use Rattle.std.proofs.lemmas.List.{take_all}
use Rattle.std.specs.List.{list_all, prefix_len}
use Rattle.std.specs.Prelude.{nat_lt}
use Rattle.rules.specs.declared.types.Slot.{Slot}
use Rattle.rules.specs.Logs.{holds, cells_loaded}
use Rattle.rules.proofs.Basics.{by-test}

module _ {W : Type 0} (same : W → W → Bool) (cells : List W) where
  abbrev ok : Slot W → Bool
  ok = holds same cells

  abbrev cell_of : Slot W → ℕ
  cell_of s = s.cell

  pub all_hold : (log : List (Slot W)) → length log ≤ prefix_len ok log → list_all ok log ≡ true
  all_hold [] le = refl
  all_hold (s ∷ log) le =
      by-test (ok s) (λ b. suc (length log) ≤ cond b (1 + prefix_len ok log) 0 → (b && list_all ok log) ≡ true)
      (λ _ h. all_hold log (omega arith)) (λ _ h. absurd (omega arith)) le

  loaded_whole : (log : List (Slot W)) → length log ≤ prefix_len ok log → map cell_of log ≡ cells_loaded same cells log
  loaded_whole [] le = refl
  loaded_whole (s ∷ log) le =
      by-test (ok s) (λ b. suc (length log) ≤ cond b (1 + prefix_len ok log) 0 → s.cell ∷ map cell_of log ≡ cond b (s.cell ∷ cells_loaded same cells log) (cond (nat_lt s.cell (length cells)) (s.cell ∷ []) []))
      (λ _ h. ap (λ xs. s.cell ∷ xs) (loaded_whole log (omega arith))) (λ _ h. absurd (omega arith)) le

  pub some_changed : (log : List (Slot W)) → prefix_len ok log < length log → list_all ok log ≡ false
  some_changed [] lt = absurd (omega arith)
  some_changed (s ∷ log) lt =
      by-test (ok s) (λ b. cond b (1 + prefix_len ok log) 0 < suc (length log) → (b && list_all ok log) ≡ false)
      (λ _ h. some_changed log (omega arith)) (λ _ h. refl) lt

  loaded_there : (log : List (Slot W)) (d : Slot W) (there : ℕ) → prefix_len ok log < length log
      → there ≡ cond (nat_lt (get_or log (prefix_len ok log) d).cell (length cells)) 1 0
      → map cell_of (take (prefix_len ok log + there) log) ≡ cells_loaded same cells log
  loaded_there [] d there lt t = absurd (omega arith)
  loaded_there (s ∷ log) d there lt t =
      by-test (ok s)
      (λ b. cond b (1 + prefix_len ok log) 0 < suc (length log)
      → there ≡ cond (nat_lt (get_or (s ∷ log) (cond b (1 + prefix_len ok log) 0) d).cell (length cells)) 1 0
      → map cell_of (take (cond b (1 + prefix_len ok log) 0 + there) (s ∷ log)) ≡ cond b (s.cell ∷ cells_loaded same cells log) (cond (nat_lt s.cell (length cells)) (s.cell ∷ []) []))
      (λ _ h q. let one : 1 + prefix_len ok log ≡ suc (prefix_len ok log) = omega arith in
      let more : (1 + prefix_len ok log) + there ≡ suc (prefix_len ok log + there) = omega arith in
      rw more (ap (λ xs. s.cell ∷ xs) (loaded_there log d there (omega arith) (subst (λ i. there ≡ cond (nat_lt (get_or (s ∷ log) i d).cell (length cells)) 1 0) one q))))
      (λ _ h q. by-test (nat_lt s.cell (length cells)) (λ b. there ≡ cond b 1 0 → map cell_of (take (0 + there) (s ∷ log)) ≡ cond b (s.cell ∷ []) [])
      (λ _ e. rw e refl) (λ _ e. rw e refl) q) lt t

  pub all_loaded : (log xs : List (Slot W)) (n : ℕ) → n ≡ prefix_len ok log → length log ≤ n → xs ≡ take n (drop 0 log) → map cell_of xs ≡ cells_loaded same cells log
  all_loaded log xs n e le q = ap (map cell_of) (q ∙ take_all n log le) ∙ loaded_whole log (omega arith)

  pub first_loaded : (log xs : List (Slot W)) (n there : ℕ) (d : Slot W) → n ≡ prefix_len ok log → n < length log
      → there ≡ cond (nat_lt (get_or log n d).cell (length cells)) 1 0 → xs ≡ take (n + there) (drop 0 log) → map cell_of xs ≡ cells_loaded same cells log
  first_loaded log xs n there d e lt t q =
      ap (map cell_of) q
      ∙ subst (λ i. i < length log → there ≡ cond (nat_lt (get_or log i d).cell (length cells)) 1 0 → map cell_of (take (i + there) log) ≡ cells_loaded same cells log)
      (sym e) (loaded_there log d there) lt t
