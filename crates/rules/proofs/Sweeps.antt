-- What a call does to the other heads: each stays as it was, or aborts in hardware.
use Rattle.std.proofs.Common.{◌≡◌, ℕ, zero, suc, ◌+◌, Bool, true, cond, not, ◌&&◌, eqb, ◌⊎◌, List, [], ◌∷◌, get_or, refl, ap, inl, inr, ⊎_elim, set, map}
use Rattle.std.specs.List.{AllZip}
use Rattle.std.proofs.lemmas.Bool.{and_parts, cond_both}
use Rattle.parts.specs.declared.types.Cause.{Cause}
use Rattle.parts.specs.declared.types.Cause.TheVariants.{Conflict, Lock}
use Rattle.rules.specs.declared.types.Head.{Head}
use Rattle.rules.specs.declared.types.Slot.{Slot}
use Rattle.rules.specs.declared.types.State.{State}
use Rattle.rules.specs.declared.types.State.TheVariants.{Hardware}
use Rattle.rules.specs.Kit.{Kit}
use Rattle.rules.specs.Heads.{is_hardware, abort, new_head}
use Rattle.rules.specs.Bench.{Bench, map_at, abort_if_hit, after_loads, after_store, hit_by_loads, hit_by_store, lock_out, is_locked_out}
use Rattle.rules.specs.Logs.{log_of}

-- x has become y
abbrev pub Hit : Head → Head → Type 0
Hit x y = (y ≡ x) ⊎ ((is_hardware x.state ≡ true) × ((cause : Cause) × (y ≡ abort cause x)))

-- each of the heads
abbrev pub Swept : List Head → List Head → Type 0
Swept xs ys = AllZip Hit xs ys

pub swept_none : (xs : List Head) → Swept xs xs
swept_none [] = tt
swept_none (x ∷ xs) = (inl refl, swept_none xs)

-- each head is then done to
swept-then : (f : Head → Head) → ((x y : Head) → Hit x y → Hit x (f y)) → (xs ys : List Head) → Swept xs ys → Swept xs (map f ys)
swept-then f h [] [] p = tt
swept-then f h [] (y ∷ ys) p = p
swept-then f h (x ∷ xs) [] p = p
swept-then f h (x ∷ xs) (y ∷ ys) p = (h x y p.0, swept-then f h xs ys p.1)

swept_once : (f : ℕ → Head → Head) → ((j : ℕ) (x : Head) → Hit x (f j x)) → (i : ℕ) (xs : List Head) → Swept xs (map_at f i xs)
swept_once f h i [] = tt
swept_once f h i (x ∷ xs) = (h i x, swept_once f h (i + 1) xs)

-- only a head in hardware is locked out
pub locked-out : (s : State) → is_locked_out s ≡ true → is_hardware s ≡ true
locked-out Hardware e = refl
locked-out s e = e

-- a hardware head that aborts, if it does
hit-if : (b : Bool) (cause : Cause) (x : Head) → (b ≡ true → is_hardware x.state ≡ true) → Hit x (cond b (abort cause x) x)
hit-if b cause x h = cond_both b (abort cause x) x (λ (y : Head). Hit x y) (λ e. inr (h e, (cause, refl))) (λ _. inl refl)

module _ {W : Type 0} (kit : Kit W) (b : Bench W) (k : ℕ) where
  swept-conflict : (hit : List (Slot W) → List (Slot W) → Bool) → Swept b.table.heads (map_at (abort_if_hit b k hit) 0 b.table.heads)
  swept-conflict hit =
      swept_once (abort_if_hit b k hit)
      (λ j x. let struck = hit (log_of j x.read_count b.reads) (log_of j x.write_count b.writes) in
      hit-if (not (eqb j k) && (is_hardware x.state && struck)) Conflict x
      (λ e. (and_parts (is_hardware x.state) struck (and_parts (not (eqb j k)) (is_hardware x.state && struck) e).1).0))
      0 b.table.heads

  pub swept-loads : (cs : List ℕ) → Swept b.table.heads (after_loads kit.memory b k cs)
  swept-loads cs = swept-conflict (hit_by_loads kit.memory.line cs)

  pub swept-store : (c : ℕ) → Swept b.table.heads (after_store kit.memory b k c)
  swept-store c = swept-conflict (hit_by_store kit.memory.line c)

  -- and after the lock is taken: one that has aborted already is not locked out
  pub swept-lock : (cs : List ℕ) → Swept b.table.heads (map lock_out (after_loads kit.memory b k cs))
  swept-lock cs =
      swept-then lock_out
      (λ x y h. ⊎_elim
      (λ (e : y ≡ x). rw e (hit-if (is_locked_out x.state) Lock x (locked-out x.state)))
      (λ (q : (is_hardware x.state ≡ true) × ((cause : Cause) × (y ≡ abort cause x))). inr (q.0, (q.1.0, ap lock_out q.1.1)))
      h)
      b.table.heads (after_loads kit.memory b k cs) (swept-loads cs)

-- and so each by its place, also past the last
pub swept_at : (xs ys : List Head) (j : ℕ) (d : Head) → Swept xs ys → Hit (get_or xs j d) (get_or ys j d)
swept_at [] [] j d p = inl refl
swept_at [] (y ∷ ys) j d p = absurd p
swept_at (x ∷ xs) [] j d p = absurd p
swept_at (x ∷ xs) (y ∷ ys) zero d p = p.0
swept_at (x ∷ xs) (y ∷ ys) (suc j) d p = swept_at xs ys j d p.1

-- an abort leaves the number of the transaction
pub hit-number : (x y : Head) → Hit x y → y.transaction ≡ x.transaction
hit-number x y h =
    ⊎_elim (λ (e : y ≡ x). ap (λ (z : Head). z.transaction) e)
    (λ (q : (is_hardware x.state ≡ true) × ((cause : Cause) × (y ≡ abort cause x))). ap (λ (z : Head). z.transaction) q.1.1) h

-- and so a sweep after which one head has another record of the same transaction
pub number-set : (xs ys : List Head) (k j : ℕ) (h : Head) → Swept xs ys → h.transaction ≡ (get_or xs k new_head).transaction
    → (get_or (set ys k h) j new_head).transaction ≡ (get_or xs j new_head).transaction
number-set [] [] k j h p e = refl
number-set [] (y ∷ ys) k j h p e = absurd p
number-set (x ∷ xs) [] k j h p e = absurd p
number-set (x ∷ xs) (y ∷ ys) zero zero h p e = e
number-set (x ∷ xs) (y ∷ ys) zero (suc j) h p e = hit-number _ _ (swept_at xs ys j new_head p.1)
number-set (x ∷ xs) (y ∷ ys) (suc k) zero h p e = hit-number x y p.0
number-set (x ∷ xs) (y ∷ ys) (suc k) (suc j) h p e = number-set xs ys k j h p.1 e
