-- A sweep of the heads and a new record for one of them keep a table in bounds.
use Rattle.std.proofs.Common.{◌≡◌, ℕ, zero, suc, ◌+◌, ◌/◌, ◌<◌, ◌≤◌, true, false, cond, List, [], ◌∷◌, length, get_or, set, sym, refl, ap, ◌∙◌, ⊎_elim, arith, All}
use Rattle.std.proofs.lemmas.List.Elements.{length_all_zip}
use Rattle.std.proofs.lemmas.List.Elements.{All-set, All-cons, All-head, All-tail}
use Rattle.std.proofs.lemmas.List.{length-set}
use Rattle.parts.specs.declared.types.Cause.{Cause}
use Rattle.rules.specs.declared.limits.TheConstants.{RECORDS, MOST_TRANSACTIONS}
use Rattle.rules.specs.declared.types.Head.{Head}
use Rattle.rules.specs.declared.types.State.{State}
use Rattle.rules.specs.declared.types.State.TheVariants.{Idle}
use Rattle.rules.specs.declared.types.Table.{Table}
use Rattle.rules.specs.Heads.{new_head, is_idle, is_hardware, abort}
use Rattle.rules.specs.Bounds.{HeadBounds, InBounds, active_heads}
use Rattle.rules.proofs.Records.{with_heads, with_numbers}
use Rattle.rules.proofs.Sweeps.{Hit, Swept, swept_none, swept_at, hit-number}
use Rattle.rules.proofs.HeadBounds.{abort-bounds}

hardware-busy : (s : State) → is_hardware s ≡ true → is_idle s ≡ false
hardware-busy Idle e = sym e
hardware-busy s e = refl

-- a head that is hit stays in bounds, and idle or not
hit-bounds : (x y : Head) → Hit x y → HeadBounds x → HeadBounds y
hit-bounds x y h p =
    ⊎_elim (λ (e : y ≡ x). rw e p)
    (λ (q : (is_hardware x.state ≡ true) × ((cause : Cause) × (y ≡ abort cause x))). rw q.1.1 (abort-bounds x p q.1.0)) h

hit-idle : (x y : Head) → Hit x y → is_idle y.state ≡ is_idle x.state
hit-idle x y h =
    ⊎_elim (λ (e : y ≡ x). ap (λ (z : Head). is_idle z.state) e)
    (λ (q : (is_hardware x.state ≡ true) × ((cause : Cause) × (y ≡ abort cause x))).
    ap (λ (z : Head). is_idle z.state) q.1.1 ∙ sym (hardware-busy x.state q.0)) h

swept-bounds : (xs ys : List Head) → Swept xs ys → All HeadBounds xs → All HeadBounds ys
swept-bounds [] [] p q = q
swept-bounds [] (y ∷ ys) p q = absurd p
swept-bounds (x ∷ xs) [] p q = absurd p
swept-bounds (x ∷ xs) (y ∷ ys) p q =
    All-cons HeadBounds y ys (hit-bounds x y p.0 (All-head HeadBounds x xs q)) (swept-bounds xs ys p.1 (All-tail HeadBounds x xs q))

swept-numbers : (xs ys : List Head) (n m : ℕ) → n ≤ m → Swept xs ys → All (λ (h : Head). h.transaction ≤ n) xs → All (λ (h : Head). h.transaction ≤ m) ys
swept-numbers xs ys n m le p q k d lt =
    let same = length_all_zip Hit xs ys p in
    let number = hit-number _ _ (swept_at xs ys k d p) in
    let old = q k d (omega arith) in omega arith

-- whether a head has a transaction, as a number
abbrev pub busy : Head → ℕ
busy h = cond (is_idle h.state) 0 1

swept-busy : (xs ys : List Head) → Swept xs ys → active_heads ys ≡ active_heads xs
swept-busy [] [] p = refl
swept-busy [] (y ∷ ys) p = absurd p
swept-busy (x ∷ xs) [] p = absurd p
swept-busy (x ∷ xs) (y ∷ ys) p =
    let a : busy y ≡ busy x = ap (λ b. cond b 0 1) (hit-idle x y p.0) in let b = swept-busy xs ys p.1 in omega arith

busy-set : (xs : List Head) (k : ℕ) (h d : Head) → k < length xs → active_heads (set xs k h) + busy (get_or xs k d) ≡ active_heads xs + busy h
busy-set [] k h d lt = absurd (omega arith)
busy-set (x ∷ xs) zero h d lt = omega arith
busy-set (x ∷ xs) (suc k) h d lt = let i = busy-set xs k h d (omega arith) in omega arith

-- one head has a new record after a sweep; the numbers of the table may change as far as its transaction allows
module _ (t : Table) (s : InBounds t) (k : ℕ) (lt : k < 8) where
  pub bounds-with : (ys : List Head) → Swept t.heads ys → (h : Head) → HeadBounds h → (sequence commits opened : ℕ) → opened ≤ MOST_TRANSACTIONS → t.opened ≤ opened → h.transaction ≤ opened
      → t.opened + (busy h + (commits + sequence / 2)) ≤ opened + (busy (get_or t.heads k new_head) + (t.commits + t.sequence / 2))
      → InBounds (with_numbers t (set ys k h) sequence commits opened)
  bounds-with ys p h ph sequence commits opened le more number used =
      let len : length ys ≡ RECORDS = sym (length_all_zip Hit t.heads ys p) ∙ s.records in
      let a = busy-set ys k h new_head (omega arith) in
      let b = swept-busy t.heads ys p in
      let c : busy (get_or ys k new_head) ≡ busy (get_or t.heads k new_head) = ap (λ b. cond b 0 1) (hit-idle _ _ (swept_at t.heads ys k new_head p)) in
      record {
        heads = All-set HeadBounds ys k h ph (swept-bounds t.heads ys p s.heads);
        records = length-set ys k h ∙ len;
        few_heads = s.few_heads;
        few_cells = s.few_cells;
        some_cells = s.some_cells;
        opened = le;
        numbered = All-set (λ (x : Head). x.transaction ≤ opened) ys k h number (swept-numbers t.heads ys t.opened opened more p s.numbered);
        used = omega (arith, s.used);
      }

  -- the number of the head's transaction
  number-stays : (h : Head) → h.transaction ≡ (get_or t.heads k new_head).transaction → h.transaction ≤ t.opened
  number-stays h same = let le = s.numbered k new_head (omega (arith, s.records)) in omega arith

  -- the head keeps its transaction, or stays without
  pub bounds-stay : (ys : List Head) → Swept t.heads ys → (h : Head) → HeadBounds h → is_idle h.state ≡ is_idle (get_or t.heads k new_head).state
      → h.transaction ≡ (get_or t.heads k new_head).transaction → InBounds (with_heads t (set ys k h))
  bounds-stay ys p h ph same number =
      let e : busy h ≡ busy (get_or t.heads k new_head) = ap (λ b. cond b 0 1) same in
      bounds-with ys p h ph t.sequence t.commits t.opened s.opened (omega arith) (number-stays h number) (omega arith)

  -- the head ends its transaction, which may be counted as a commit
  pub bounds-end : (h : Head) → HeadBounds h → is_idle h.state ≡ true → is_idle (get_or t.heads k new_head).state ≡ false
      → h.transaction ≡ (get_or t.heads k new_head).transaction → (sequence commits : ℕ)
      → commits + sequence / 2 ≤ t.commits + t.sequence / 2 + 1
      → InBounds (record t { heads = set t.heads k h; sequence = sequence; commits = commits })
  bounds-end h ph idle old number sequence commits le =
      let a : busy h ≡ 0 = ap (λ b. cond b 0 1) idle in
      let c : busy (get_or t.heads k new_head) ≡ 1 = ap (λ b. cond b 0 1) old in
      bounds-with t.heads (swept_none t.heads) h ph sequence commits t.opened s.opened (omega arith) (number-stays h number) (omega arith)
