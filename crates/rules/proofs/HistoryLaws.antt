-- Laws of the order of closes: what stays as it grows, and what a count of closes tells.
use Rattle.std.proofs.Common.{◌≡◌, ℕ, zero, suc, ◌+◌, ◌≤◌, Bool, false, cond, not, ◌&&◌, eqb, List, [], ◌∷◌, ◌++◌, length, take, drop, filter, sym, refl, ap, ◌∙◌, subst, arith, take-append-drop, All}
use Rattle.std.proofs.lemmas.List.{take_all, take-take, take-append-le, drop-append-le, length-append, length-take-le}
use Rattle.std.proofs.lemmas.List.Elements.{filter-append, All-head, All-tail}
use Rattle.rules.specs.declared.types.Slot.{Slot}
use Rattle.rules.specs.Logs.{is_empty, put_in}
use Rattle.rules.specs.History.{GrantedClose, Attempt, EndedTransaction, cells_after, is_other, closes_of_others}
use Rattle.rules.specs.RunLaws.{Agrees, Explained, Bounded}

pub kept-drop-append : {X : Type 0} (f : X → Bool) (n : ℕ) (a b : List X) → length (filter f (drop n a)) ≤ length (filter f (drop n (a ++ b)))
kept-drop-append f zero a b = rw (filter-append f a b, length-append (filter f a) (filter f b)) (omega arith)
kept-drop-append f (suc n) [] b = omega arith
kept-drop-append f (suc n) (x ∷ a) b = kept-drop-append f n a b

pub take_split : {X : Type 0} (p q : ℕ) (xs : List X) → p ≤ q → take q xs ≡ take p xs ++ drop p (take q xs)
take_split p q xs h = sym (take-append-drop p (take q xs)) ∙ ap (λ l. l ++ drop p (take q xs)) (take-take p q xs h)

pub take-more-of : {X : Type 0} (n : ℕ) (a b : List X) → (c : List X) × (take n (a ++ b) ≡ take n a ++ c)
take-more-of zero a b = ([], refl)
take-more-of (suc n) [] b = (take (suc n) b, refl)
take-more-of {X} (suc n) (x ∷ a) b = let r = take-more-of n a b in (r.0, ap (λ (l : List X). x ∷ l) r.1)

module _ {W : Type 0} where
  pub after-append : (a b : List (GrantedClose W)) (xs : List W) → cells_after (a ++ b) xs ≡ cells_after b (cells_after a xs)
  after-append [] b xs = refl
  after-append (s ∷ a) b xs = after-append a b (put_in s.writes xs)

  pub count-stable : (closes new : List (GrantedClose W)) (h since until : ℕ) → until ≤ length closes → closes_of_others (closes ++ new) h since until ≡ closes_of_others closes h since until
  count-stable closes new h since until le = ap (λ l. length (filter (is_other h) (drop since l))) (take-append-le until closes new le)

  pub count-mono : (closes : List (GrantedClose W)) (h since p q : ℕ) → p ≤ q → closes_of_others closes h since p ≤ closes_of_others closes h since q
  count-mono closes h since p q le =
      subst (λ l. closes_of_others closes h since p ≤ length (filter (is_other h) (drop since l))) (sym (take_split p q closes le))
      (kept-drop-append (is_other h) since (take p closes) (drop p (take q closes)))

  pub count-grown : (closes new : List (GrantedClose W)) (h since : ℕ) → closes_of_others closes h since (length closes) ≤ closes_of_others (closes ++ new) h since (length (closes ++ new))
  count-grown closes new h since =
      let same = count-stable closes new h since (length closes) (omega arith) in
      let le : length closes ≤ length (closes ++ new) = rw (length-append closes new) (omega arith) in
      let more = count-mono (closes ++ new) h since (length closes) (length (closes ++ new)) le in
      omega arith

  pub count-more : (closes new : List (GrantedClose W)) (h since until : ℕ) → closes_of_others closes h since until ≤ closes_of_others (closes ++ new) h since until
  count-more closes new h since until =
      let r = take-more-of until closes new in
      subst (λ l. closes_of_others closes h since until ≤ length (filter (is_other h) (drop since l))) (sym r.1) (kept-drop-append (is_other h) since (take until closes) r.0)

  -- one close with writes of another head after the first p counts one more
  pub count-charge : (closes : List (GrantedClose W)) (h since p : ℕ) → since ≤ p → p ≤ length closes → 1 ≤ length (filter (is_other h) (drop p closes))
      → closes_of_others closes h since p + 1 ≤ closes_of_others closes h since (length closes)
  count-charge closes h since p low high one =
      let f = is_other {W = W} h in
      let whole : take (length closes) closes ≡ closes = take_all (length closes) closes (omega arith) in
      let cut : drop since closes ≡ drop since (take p closes) ++ drop p closes =
      ap (drop since) (sym (take-append-drop p closes)) ∙ drop-append-le since (take p closes) (drop p closes) (rw (length-take-le p closes high) low) in
      let count : length (filter f (drop since (take (length closes) closes))) ≡ closes_of_others closes h since p + length (filter f (drop p closes)) =
      ap (λ l. length (filter f (drop since l))) whole ∙ ap (λ l. length (filter f l)) cut
      ∙ ap length (filter-append f (drop since (take p closes)) (drop p closes)) ∙ length-append (filter f (drop since (take p closes))) (filter f (drop p closes)) in
      omega arith

  -- closes of others without writes leave the cells as they are
  pub after-quiet : (k : ℕ) (closes : List (GrantedClose W)) (xs : List W) → All (λ s. eqb k s.head ≡ false) closes → length (filter (is_other k) closes) ≡ 0 → cells_after closes xs ≡ xs
  after-quiet k [] xs a e = refl
  after-quiet k (s ∷ closes) xs a e =
      quiet (λ h. after-quiet k closes xs (All-tail (λ s. eqb k s.head ≡ false) s closes a) h) s.writes (subst (λ b. length (cond (not b && not (is_empty s.writes)) (s ∷ filter (is_other k) closes) (filter (is_other k) closes)) ≡ 0) (All-head (λ s. eqb k s.head ≡ false) s closes a) e)
    where
      quiet : (length (filter (is_other k) closes) ≡ 0 → cells_after closes xs ≡ xs) → (ws : List (Slot W)) → length (cond (not (is_empty ws)) (s ∷ filter (is_other k) closes) (filter (is_other k) closes)) ≡ 0 → cells_after closes (put_in ws xs) ≡ xs
      quiet go [] h = go h
      quiet go (x ∷ ws) h = absurd (omega arith)

  -- a prefix of the closes is one of more closes
  pub explained-grown : (cells : List W) (closes more new : List (GrantedClose W)) (a : Attempt W) → more ≡ closes ++ new → Explained closes cells a → Explained more cells a
  explained-grown cells closes more new a e x = record {
    prefix = x.prefix;
    has_earlier = x.has_earlier;
    is_prefix = subst (λ cs. x.prefix ≤ length cs) (sym e) (rw (length-append closes new) (omega (arith, x.is_prefix)));
    explains = subst (λ cs. Agrees (cells_after cs cells) a.reads) (sym (ap (take x.prefix) e ∙ take-append-le x.prefix closes new x.is_prefix)) x.explains;
    own_place = x.own_place;
    own_reads = x.own_reads;
  }

  pub bounded-grown : (closes new : List (GrantedClose W)) (patience : ℕ) (x : EndedTransaction) → Bounded closes patience x → Bounded (closes ++ new) patience x
  bounded-grown closes new patience x b = (let more = count-more closes new x.head x.since x.until in omega (arith, b.0), b.1)
