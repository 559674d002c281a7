-- A read, put together from its steps.
use Rattle.std.proofs.Common.{◌≡◌, ℕ, true, cond, List, [], ◌∷◌, ◌++◌, length, get_or, set, Some, Ok, sym, ap, ◌∙◌, subst, false, Err}
use Rattle.std.specs.List.{slice_get}
use Rattle.rules.specs.declared.types.Refusal.TheVariants as refuse
use Rattle.std.proofs.lemmas.Option.{get_or_from_slice_get}
use Rattle.parts.specs.declared.types.Cause.TheVariants.{Capacity, Changed}
use Rattle.rules.specs.declared.types.Head.{Head}
use Rattle.rules.specs.declared.types.Slot.{Slot}
use Rattle.rules.specs.declared.types.Snapshot.{Snapshot}
use Rattle.rules.specs.Heads.{abort}
use Rattle.rules.specs.Kit.{Memory}
use Rattle.rules.specs.Logs.{note, lines_of, distinct_count, log_of, slots_with}
use Rattle.rules.specs.Bench.{Bench, bench, head_at, after_loads, present_snapshot, is_valid, cells_validated}
use Rattle.rules.specs.Calls.{outcome, notes_word, fits_read, hardware_read, aborts_in, software_read}
use Rattle.rig.proofs.Changed.{changed}

module _ {W : Type 0} (memory : Memory W) (b : Bench W) (k c : ℕ) (me : Head) (own : me ≡ head_at b k) where
  noted : (heads ys : List Head) (h : Head) (n : ℕ) (slots : List (Slot W)) (v w : W)
      → ys ≡ heads → n ≡ length (note c v (log_of k me.read_count b.reads)) → slots ≡ slots_with k (note c v (log_of k me.read_count b.reads)) b.reads
      → v ≡ get_or b.cells c v → slice_get b.cells c ≡ Some w
      → outcome (Ok v) (bench (record b.table { heads = set ys k (record h { read_count = n }) }) b.cells slots b.writes) ≡ notes_word memory b k heads h c w
  noted heads ys h n slots v w es en el is at =
      ap (λ zs. outcome (Ok v) (bench (record b.table { heads = set zs k (record h { read_count = n }) }) b.cells slots b.writes)) es
      ∙ ap (λ i. outcome (Ok v) (bench (record b.table { heads = set heads k (record h { read_count = i }) }) b.cells slots b.writes)) en
      ∙ ap (λ l. outcome (Ok v) (bench (record b.table { heads = set heads k (record h { read_count = length (note c v (log_of k me.read_count b.reads)) }) }) b.cells l b.writes)) el
      ∙ ap (λ (x : Head). outcome (Ok v) (bench (record b.table { heads = set heads k (record h { read_count = length (note c v (log_of k x.read_count b.reads)) }) }) b.cells (slots_with k (note c v (log_of k x.read_count b.reads)) b.reads) b.writes)) own
      ∙ ap (λ x. notes_word memory b k heads h c x) (is ∙ get_or_from_slice_get b.cells c w v at)

  -- in hardware: the attempt fits, and the cell is loaded
  pub hardware_noted : (ys : List Head) (n : ℕ) (slots : List (Slot W)) (v w : W)
      → memory.fits me.stores (distinct_count (memory.line c ∷ lines_of memory.line (log_of k me.read_count b.reads ++ log_of k me.write_count b.writes))) ≡ true
      → ys ≡ after_loads memory b k (c ∷ []) → n ≡ length (note c v (log_of k me.read_count b.reads)) → slots ≡ slots_with k (note c v (log_of k me.read_count b.reads)) b.reads
      → v ≡ get_or b.cells c v → slice_get b.cells c ≡ Some w
      → outcome (Ok v) (bench (record b.table { heads = set ys k (record me { read_count = n }) }) b.cells slots b.writes) ≡ hardware_read memory b k c w
  hardware_noted ys n slots v w fits es en el is at =
      let fit : fits_read memory b k c ≡ true =
      subst (λ (x : Head). memory.fits x.stores (distinct_count (memory.line c ∷ lines_of memory.line (log_of k x.read_count b.reads ++ log_of k x.write_count b.writes))) ≡ true) own fits in
      noted (after_loads memory b k (c ∷ [])) ys me n slots v w es en el is at
      ∙ ap (λ h. notes_word memory b k (after_loads memory b k (c ∷ [])) h c w) own
      ∙ sym (ap (λ t. cond t (notes_word memory b k (after_loads memory b k (c ∷ [])) (head_at b k) c w) (aborts_in b k b.table.heads Capacity (head_at b k))) fit)

  -- in software: what was read is valid still, and the cells of the read log are loaded before this one
  pub software_noted : (ys : List Head) (n : ℕ) (s : Snapshot) (slots : List (Slot W)) (loaded : List ℕ) (v w : W)
      → s ≡ present_snapshot b.table → is_valid memory b k ≡ true → loaded ≡ cells_validated memory b k
      → ys ≡ after_loads memory b k (loaded ++ (c ∷ [])) → n ≡ length (note c v (log_of k me.read_count b.reads)) → slots ≡ slots_with k (note c v (log_of k me.read_count b.reads)) b.reads
      → v ≡ get_or b.cells c v → slice_get b.cells c ≡ Some w
      → outcome (Ok v) (bench (record b.table { heads = set ys k (record me { read_count = n; snapshot = s }) }) b.cells slots b.writes) ≡ software_read memory b k c w
  software_noted ys n s slots loaded v w eq valid el es en ew is at =
      ap (λ x. outcome (Ok v) (bench (record b.table { heads = set ys k (record me { read_count = n; snapshot = x }) }) b.cells slots b.writes)) eq
      ∙ noted (after_loads memory b k (loaded ++ (c ∷ []))) ys (record me { snapshot = present_snapshot b.table }) n slots v w es en ew is at
      ∙ ap (λ (h : Head). notes_word memory b k (after_loads memory b k (loaded ++ (c ∷ []))) (record h { snapshot = present_snapshot b.table }) c w) own
      ∙ ap (λ cs. notes_word memory b k (after_loads memory b k (cs ++ (c ∷ []))) (record (head_at b k) { snapshot = present_snapshot b.table }) c w) el
      ∙ sym (ap (λ t. cond t (notes_word memory b k (after_loads memory b k (cells_validated memory b k ++ (c ∷ []))) (record (head_at b k) { snapshot = present_snapshot b.table }) c w) (aborts_in b k (after_loads memory b k (cells_validated memory b k)) Changed (head_at b k))) valid)

  pub software_changed : (ys : List Head) (h : Head) (loaded : List ℕ) (w : W)
      → h ≡ abort Changed me → is_valid memory b k ≡ false → loaded ≡ cells_validated memory b k → ys ≡ after_loads memory b k (loaded ++ [])
      → outcome (Err (refuse.Aborted Changed)) (bench (record b.table { heads = set ys k h }) b.cells b.reads b.writes) ≡ software_read memory b k c w
  software_changed ys h loaded w eh valid el es =
      changed memory b k me own ys h loaded eh el es
      ∙ sym (ap (λ t. cond t (notes_word memory b k (after_loads memory b k (cells_validated memory b k ++ (c ∷ []))) (record (head_at b k) { snapshot = present_snapshot b.table }) c w) (aborts_in b k (after_loads memory b k (cells_validated memory b k)) Changed (head_at b k))) valid)
