-- The first trouble of a line.
use Rattle.std.proofs.Common.{◌≡◌, ℕ, zero, suc, ◌+◌, ◌*◌, ◌<◌, ◌≤◌, cond, eqb, List, [], ◌∷◌, length, get_or, Some, None, Option, Ok, sym, refl, ap, ◌∙◌, subst, inl, inr, ⊎_elim, arith}
use Rattle.std.specs.List.{slice_get}
use Rattle.std.proofs.lemmas.Bool.{cases_lt}
use Rattle.std.proofs.lemmas.Option.{same_Some}
use Rattle.faults.specs.declared.types.FieldFault.{FieldFault}
use Rattle.fields.specs.Parts.{Piece, fields_at}
use Rattle.faults.specs.declared.types.LineFault.TheVariants as in_line
use Rattle.parts.specs.declared.calls.Call.{Call}
use Rattle.fields.specs.declared.parts.Part.{Part}
use Rattle.parts.specs.declared.calls.Call.TheVariants as calls
use Rattle.entries.specs.declared.types.Letter.{Letter}
use Rattle.entries.specs.declared.types.Letter.TheVariants as letter
use Rattle.entries.specs.declared.types.Word.{Word}
use Rattle.entries.specs.declared.types.Word.TheVariants as word
use Rattle.lines.specs.declared.types.LineParts.{LineParts}
use Rattle.lines.specs.declared.types.LineParts.TheVariants as line
use Rattle.lines.specs.declared.types.Stage.{Stage}
use Rattle.entries.specs.Rendering.{word_text, letter_text, letter_of}
use Rattle.lines.specs.Faults.{Kind, kinds, operand_kinds, Counted, Placed, Good, Trouble, unknown, misplaced, miscounted, bad, Leads, Wrong, order, First, field_fault}
use Rattle.lines.specs.Steps.{line_parts, line_word, operand_parts, FirstBad, MadeOf, Troubled, LedBy, Shaped, LineShaped}
use Rattle.std.specs.Option.{ok_or}
use Rattle.faults.specs.declared.types.LineFault.{LineFault}

-- a text is that of one word at most

abbrev mark : List ℕ → ℕ
mark bs = length bs * 1000 + get_or bs 0 0

abbrev letter_by : ℕ → Letter
letter_by m =
    cond (eqb m 1111) letter.Open (cond (eqb m 1114) letter.Read (cond (eqb m 1119) letter.Write (cond (eqb m 1099) letter.Close (cond (eqb m 1112) letter.Push (cond (eqb m 1106) letter.Jolt (cond (eqb m 1097) letter.Again letter.Drop))))))

abbrev word_by : ℕ → Word
word_by m = cond (eqb m 3114) word.Rig (cond (eqb m 3115) word.Set (word.Call (letter_by m)))

letter-back : (l : Letter) → word_by (mark (letter_text l)) ≡ word.Call l
letter-back letter.Open = refl
letter-back letter.Read = refl
letter-back letter.Write = refl
letter-back letter.Close = refl
letter-back letter.Push = refl
letter-back letter.Jolt = refl
letter-back letter.Again = refl
letter-back letter.Drop = refl

word_back : (w : Word) → word_by (mark (word_text w)) ≡ w
word_back word.Rig = refl
word_back word.Set = refl
word_back (word.Call l) = letter-back l

pub same_word : (v w : Word) → word_text v ≡ word_text w → v ≡ w
same_word v w e = sym (word_back v) ∙ ap (λ l. word_by (mark l)) e ∙ word_back w

-- a line has one word at most
pub one-leads : (fs : List Piece) (v w : Word) → Leads fs v → Leads fs w → v ≡ w
one-leads [] v w p q = absurd p
one-leads (f ∷ fs) v w p q = same_word v w (sym p ∙ q)

-- a field is bad, and none before it is
record BadAt (ks : List Kind) (fs : List Piece) (fault : FieldFault) : Type 0 where
  pub k : ℕ
  pub kind : Kind
  pub f : Piece
  pub kind_at : slice_get ks k ≡ Some kind
  pub field_at : slice_get fs k ≡ Some f
  pub is-bad : Good kind f.1 → ⊥
  pub is : fault ≡ field_fault kind f.0
  pub before : (j : ℕ) → j < k → (l : Kind) (g : Piece) → slice_get ks j ≡ Some l → slice_get fs j ≡ Some g → (Good l g.1 → ⊥) → ⊥

bad-at : (ks : List Kind) (fs : List Piece) (fault : FieldFault) → FirstBad ks fs fault → BadAt ks fs fault
bad-at [] fs fault h = absurd h
bad-at (κ ∷ ks) [] fault h = absurd h
bad-at (κ ∷ ks) (f ∷ fs) fault (inl (e, off)) =
    record { k = 0; kind = κ; f = f; kind_at = refl; field_at = refl; is-bad = off; is = e; before = λ j low l g p q u. absurd (omega arith) }
bad-at (κ ∷ ks) (f ∷ fs) fault (inr (good, rest)) =
    let b = bad-at ks fs fault rest in
    record {
      k = suc b.k;
      kind = b.kind;
      f = b.f;
      kind_at = b.kind_at;
      field_at = b.field_at;
      is-bad = b.is-bad;
      is = b.is;
      before = earlier b.k b.before;
    }
  where
    earlier : (n : ℕ) → ((j : ℕ) → j < n → (l : Kind) (g : Piece) → slice_get ks j ≡ Some l → slice_get fs j ≡ Some g → (Good l g.1 → ⊥) → ⊥) → (j : ℕ) → j < suc n → (l : Kind) (g : Piece) → slice_get (κ ∷ ks) j ≡ Some l → slice_get (f ∷ fs) j ≡ Some g → (Good l g.1 → ⊥) → ⊥
    earlier n h zero low l g p q u =
        let P : Kind → Type 0 = λ x. Good x f.1 in
        let Q : Piece → Type 0 = λ x. Good l x.1 in
        u (subst Q (same_Some f g q) (subst P (same_Some κ l p) good))
    earlier n h (suc j) low l g p q u = h j (omega arith) l g p q u

-- of a line with the fields f and gs, whose word is w
module _ (s : Stage) (f : Piece) (gs : List Piece) (w : Word) (leads : f.1 ≡ word_text w) where
  pub one_word : (v : Word) → Leads (f ∷ gs) v → v ≡ w
  one_word v l = one-leads (f ∷ gs) v w l leads

  misplaced-here : (Placed s w → ⊥) → First s (f ∷ gs) misplaced
  misplaced-here h = record { wrong = (w, leads, h); earliest = least }
    where
      least : (u : Trouble) → Wrong s (f ∷ gs) u → 1 ≤ order u
      least unknown x = absurd (x w leads)
      least misplaced x = omega arith
      least miscounted x = omega arith
      least (bad kind k g) x = omega arith

  module _ (here : Placed s w) where
    pub is-here : (v : Word) → Leads (f ∷ gs) v → (Placed s v → ⊥) → ⊥
    is-here v l off = let P : Word → Type 0 = λ x. Placed s x in off (subst P (sym (one_word v l)) here)

    miscounted-here : (Counted w (length gs) → ⊥) → First s (f ∷ gs) miscounted
    miscounted-here h = record { wrong = (w, leads, off); earliest = least }
      where
        off : (n : ℕ) → suc (length gs) ≡ suc n → Counted w n → ⊥
        off n e c = let P : ℕ → Type 0 = λ x. Counted w x in let d : n ≡ length gs = omega arith in h (subst P d c)

        least : (u : Trouble) → Wrong s (f ∷ gs) u → 2 ≤ order u
        least unknown x = absurd (x w leads)
        least misplaced (v, l, off) = absurd (is-here v l off)
        least miscounted x = omega arith
        least (bad kind k g) x = omega arith

    module _ (right : Counted w (length gs)) where
      pub is-counted : (v : Word) → Leads (f ∷ gs) v → ((n : ℕ) → suc (length gs) ≡ suc n → Counted v n → ⊥) → ⊥
      is-counted v l off = let P : Word → Type 0 = λ x. Counted x (length gs) in off (length gs) refl (subst P (sym (one_word v l)) right)

      bad-here : (k : ℕ) (kind : Kind) (g : Piece) → slice_get (kinds w) k ≡ Some kind → slice_get gs k ≡ Some g → (Good kind g.1 → ⊥) → ((j : ℕ) → j < k → (l : Kind) (g : Piece) → slice_get (kinds w) j ≡ Some l → slice_get gs j ≡ Some g → (Good l g.1 → ⊥) → ⊥) → First s (f ∷ gs) (bad kind k g)
      bad-here k kind g p q off before = record { wrong = (w, leads, p, q, off); earliest = least }
        where
          least : (u : Trouble) → Wrong s (f ∷ gs) u → 3 + k ≤ order u
          least unknown x = absurd (x w leads)
          least misplaced (v, l, off) = absurd (is-here v l off)
          least miscounted (v, l, off) = absurd (is-counted v l off)
          least (bad l j h) (v, m, r, t, x) =
              ⊎_elim (λ (low : j < k). let P : Word → Type 0 = λ y. slice_get (kinds y) j ≡ Some l in absurd (before j low l h (subst P (one_word v m) r) t x))
              (λ (high : k ≤ j). omega arith) (cases_lt j k)

-- a line that has its shape has the right number of fields

operands-counted : (k : Call Part Part) → length (operand_parts k) ≡ length (operand_kinds (letter_of k))
operands-counted calls.Open = refl
operands-counted (calls.Read c) = refl
operands-counted (calls.Write c a) = refl
operands-counted calls.Close = refl
operands-counted calls.Push = refl
operands-counted calls.Jolt = refl
operands-counted calls.Again = refl
operands-counted calls.Drop = refl

shape-counted : (l : LineParts) → Counted (line_word l) (length (line_parts l))
shape-counted (line.Rig h c b None) = (omega arith, omega arith)
shape-counted (line.Rig h c b (Some p)) = (omega arith, omega arith)
shape-counted (line.Set c a) = (omega arith, omega arith)
shape-counted (line.Call h k) = let e = operands-counted k in (omega arith, omega arith)

-- the same of the fields of a line as the code has them

module _ (s : Stage) (l : Piece) (gs : List Piece) where
  -- its word, where it has one
  pub led : (fs : List Piece) (o : Option Word) (e : LineFault) (w : Word) → fs ≡ fields_at l → LedBy fs gs o → Ok w ≡ ok_or o e → LedBy (fields_at l) gs (Some w)
  led fs None e w at h is = absurd cc
  led fs (Some v) e w at h is = let k : v ≡ w = cc in rw (at, k) at h

  module _ (w : Word) (has : LedBy (fields_at l) gs (Some w)) where
    pub line-misplaced : (Placed s w → ⊥) → Troubled s l (in_line.Misplaced l.0)
    line-misplaced off = let P : List Piece → Type 0 = λ x. First s x misplaced in (misplaced, subst P (sym has.1) (misplaced-here s has.0 gs w has.2 off), refl)

    pub line-shaped : (o : Option LineParts) → Placed s w → Shaped w gs o → LineShaped s l (ok_or o (in_line.Miscounted l.0))
    line-shaped None here h = let P : List Piece → Type 0 = λ x. First s x miscounted in (miscounted, subst P (sym has.1) (miscounted-here s has.0 gs w has.2 here h), refl)
    line-shaped (Some p) here (word, parts) = ((has.0, rw parts has.1, rw word has.2), rw word here)

pub line-bad : (s : Stage) (at : Piece) (l : LineParts) (fault : FieldFault) → MadeOf at l → Placed s (line_word l) → FirstBad (kinds (line_word l)) (line_parts l) fault → Troubled s at (in_line.Field fault)
line-bad s at l fault (f, fields, leads) here bads =
    let b = bad-at (kinds (line_word l)) (line_parts l) fault bads in
    let P : List Piece → Type 0 = λ x. First s x (bad b.kind b.k b.f) in (
      bad b.kind b.k b.f,
      subst P (sym fields) (bad-here s f (line_parts l) (line_word l) leads here (shape-counted l) b.k b.kind b.f b.kind_at b.field_at b.is-bad b.before),
      ap (λ x. in_line.Field x) b.is,
    )
