-- A line is read in one way.
use Rattle.std.proofs.Common.{◌≡◌, ℕ, suc, ◌-◌, ◌^◌, ◌<◌, FitsSigned, w32, cond, eqb, List, [], ◌∷◌, length, get_or, ℤ, pos, negsuc, Some, Ok, Err, decimal, sym, refl, ap, ◌∙◌, subst, inl, inr, arith}
use Rattle.std.specs.List.{slice_get}
use Rattle.std.specs.Fmt.{signed_decimal}
use Rattle.std.specs.Str.Parse.{digits_value}
use Rattle.std.proofs.lemmas.Fmt.{digits_value-decimal}
use Rattle.std.proofs.lemmas.Bool.{cond-false, ne_eqb}
use Rattle.std.proofs.lemmas.Option.{same_Some}
use Rattle.fields.specs.Numbers.{Number}
use Rattle.fields.specs.Parts.{Piece, fields_at}
use Rattle.fields.proofs.Numerals.{own, digits_of, some_of, first-digit}
use Rattle.entries.specs.declared.types.BoardName.{BoardName}
use Rattle.entries.specs.declared.types.BoardName.TheVariants as board
use Rattle.entries.specs.declared.types.PolicyName.{PolicyName}
use Rattle.entries.specs.declared.types.PolicyName.TheVariants as policy
use Rattle.parts.specs.declared.calls.Call.{Call}
use Rattle.parts.specs.declared.calls.Call.TheVariants as call
use Rattle.entries.specs.declared.types.Entry.{Entry}
use Rattle.entries.specs.declared.types.Entry.TheVariants as entry
use Rattle.entries.specs.declared.types.Letter.{Letter}
use Rattle.entries.specs.declared.types.Letter.TheVariants as letter
use Rattle.entries.specs.declared.types.Word.{Word}
use Rattle.entries.specs.declared.types.Word.TheVariants as word
use Rattle.lines.specs.declared.types.Stage.{Stage}
use Rattle.entries.specs.Rendering.{Says, word_of, letter_of, board_text, policy_text, operands, CallFits, Fits}
use Rattle.lines.specs.Faults.{Trouble, unknown, misplaced, miscounted, bad, Wrong, kinds, order, First, reported, LineOnce}
use Rattle.lines.proofs.Firsts.{same_word, one-leads}
use Rattle.lines.specs.Steps.{Values}
use Rattle.lines.proofs.Texts.{says-fields}

-- the value that a field writes, got back from its bytes

num-back : (n : ℕ) → n < 2 ^ 32 → digits_value 10 (decimal n) ≡ n
num-back n h = digits_value-decimal own n (omega arith)

abbrev amount_back : List ℕ → ℤ
amount_back [] = pos 0
amount_back (b ∷ bs) = cond (eqb b 45) (negsuc (digits_value 10 bs - 1)) (pos (digits_value 10 (b ∷ bs)))

pos-back : (bs : List ℕ) (n : ℕ) → Number bs n → amount_back bs ≡ pos n
pos-back [] n s = absurd (omega (arith, some_of [] n s))
pos-back (b ∷ bs) n s = cond-false (eqb b 45) (negsuc (digits_value 10 bs - 1)) (pos (digits_value 10 (b ∷ bs))) (ne_eqb b 45 (λ e. omega (arith, first-digit (b ∷ bs) n s))) ∙ ap pos (digits_of (b ∷ bs) n s).1

amount-back : (z : ℤ) → FitsSigned w32 z → amount_back (signed_decimal z) ≡ z
amount-back (pos n) h = pos-back (decimal n) n (refl, omega arith)
amount-back (negsuc n) h = let e : digits_value 10 (decimal (suc n)) - 1 ≡ n = omega (arith, num-back (suc n) (omega arith)) in ap negsuc e

abbrev board_back : List ℕ → BoardName
board_back bs = cond (eqb (length bs) 6) board.Stores board.Lines

board-back : (b : BoardName) → board_back (board_text b) ≡ b
board-back board.Stores = refl
board-back board.Lines = refl

abbrev policy_back : List ℕ → PolicyName
policy_back bs = cond (eqb (length bs) 7) policy.Careful policy.Plain

policy-back : (p : PolicyName) → policy_back (policy_text p) ≡ p
policy-back policy.Plain = refl
policy-back policy.Careful = refl

abbrev at : List (List ℕ) → ℕ → List ℕ
at fs k = get_or fs k []

abbrev num : List (List ℕ) → ℕ → ℕ
num fs k = digits_value 10 (at fs k)

abbrev call_back : Letter → ℕ → ℤ → Call ℕ ℤ
call_back letter.Open c z = call.Open
call_back letter.Read c z = call.Read c
call_back letter.Write c z = call.Write c z
call_back letter.Close c z = call.Close
call_back letter.Push c z = call.Push
call_back letter.Jolt c z = call.Jolt
call_back letter.Again c z = call.Again
call_back letter.Drop c z = call.Drop

abbrev rig : ℕ → ℕ → BoardName → PolicyName → Entry
rig h c b p = entry.Rig (record { heads = h; cells = c; board = b; policy = p })

abbrev setting : ℕ → ℤ → Entry
setting c z = entry.Set (record { cell = c; amount = z })

abbrev calling : ℕ → Call ℕ ℤ → Entry
calling h k = entry.Call (record { head = h; call = k })

abbrev back : Word → List (List ℕ) → Entry
back word.Rig fs = rig (num fs 0) (num fs 1) (board_back (at fs 2)) (policy_back (at fs 3))
back word.Set fs = setting (num fs 0) (amount_back (at fs 1))
back (word.Call l) fs = calling (num fs 0) (call_back l (num fs 1) (amount_back (at fs 2)))

operands-back : (h : List ℕ) (k : Call ℕ ℤ) → CallFits k → call_back (letter_of k) (num (h ∷ operands k) 1) (amount_back (at (h ∷ operands k) 2)) ≡ k
operands-back h call.Open u = refl
operands-back h (call.Read c) u = ap call.Read (num-back c u)
operands-back h (call.Write c z) (u, v) = ap (λ x. call.Write x (amount_back (signed_decimal z))) (num-back c u) ∙ ap (call.Write c) (amount-back z v)
operands-back h call.Close u = refl
operands-back h call.Push u = refl
operands-back h call.Jolt u = refl
operands-back h call.Again u = refl
operands-back h call.Drop u = refl

rig-same : (h h' c c' : ℕ) (b b' : BoardName) (p p' : PolicyName) → h ≡ h' → c ≡ c' → b ≡ b' → p ≡ p' → rig h c b p ≡ rig h' c' b' p'
rig-same h h' c c' b b' p p' e f g i = ap (λ x. rig x c b p) e ∙ ap (λ x. rig h' x b p) f ∙ ap (λ x. rig h' c' x p) g ∙ ap (λ x. rig h' c' b' x) i

values-back : (e : Entry) (fs : List (List ℕ)) → Fits e → Values e fs → back (word_of e) fs ≡ e
values-back (entry.Rig r) fs (u, v) (inl h) = ap (back word.Rig) h ∙ rig-same _ _ _ _ _ _ _ _ (num-back r.heads u) (num-back r.cells v) (board-back r.board) (policy-back r.policy)
values-back (entry.Rig r) fs (u, v) (inr (p, h)) = ap (back word.Rig) h ∙ rig-same _ _ _ _ _ _ _ _ (num-back r.heads u) (num-back r.cells v) (board-back r.board) (sym p)
values-back (entry.Set s) fs (u, v) (inl h) = ap (back word.Set) h ∙ ap (λ x. setting x (amount_back (signed_decimal s.amount))) (num-back s.cell u) ∙ ap (setting s.cell) (amount-back s.amount v)
values-back (entry.Set s) fs u (inr h) = absurd h
values-back (entry.Call k) fs (u, v) (inl h) =
    ap (back (word.Call (letter_of k.call))) h
    ∙ ap (λ x. calling x (call_back (letter_of k.call) (num (decimal k.head ∷ operands k.call) 1) (amount_back (at (decimal k.head ∷ operands k.call) 2)))) (num-back k.head u)
    ∙ ap (calling k.head) (operands-back (decimal k.head) k.call v)
values-back (entry.Call k) fs u (inr h) = absurd h

pub says-once : (bytes : List ℕ) (d e : Entry) → Says bytes d → Says bytes e → d ≡ e
says-once bytes d e p q =
    let x = says-fields bytes d p in
    let y = says-fields bytes e q in
    let same = sym x.1 ∙ y.1 in
    let w : word_of d ≡ word_of e = same_word (word_of d) (word_of e) cc in
    sym (values-back d x.0 p.0 x.2) ∙ ap (λ v. back v x.0) w ∙ ap (back (word_of e)) (let t : x.0 ≡ y.0 = cc in t) ∙ values-back e y.0 q.0 y.2

module _ (s : Stage) (l : Piece) where
  once : (t u : Trouble) → order t ≡ order u → Wrong s (fields_at l) t → Wrong s (fields_at l) u → reported l.0 t ≡ reported l.0 u
  once unknown unknown e x y = refl
  once unknown misplaced e x y = absurd (omega arith)
  once unknown miscounted e x y = absurd (omega arith)
  once unknown (bad k i f) e x y = absurd (omega arith)
  once (bad k i f) unknown e x y = absurd (omega arith)
  once misplaced unknown e x y = absurd (omega arith)
  once misplaced misplaced e x y = refl
  once misplaced miscounted e x y = absurd (omega arith)
  once misplaced (bad k i f) e x y = absurd (omega arith)
  once (bad k i f) misplaced e x y = absurd (omega arith)
  once miscounted unknown e x y = absurd (omega arith)
  once miscounted misplaced e x y = absurd (omega arith)
  once miscounted miscounted e x y = refl
  once miscounted (bad k i f) e x y = absurd (omega arith)
  once (bad k i f) miscounted e x y = absurd (omega arith)
  once (bad k i f) (bad m j g) e (v, a, p, q, x) (w, b, r, t, y) =
      let same : i ≡ j = omega arith in
      let K : Word → Type 0 = λ z. slice_get (kinds z) i ≡ Some k in
      let I : ℕ → Type 0 = λ z. slice_get (kinds w) z ≡ Some k in
      let J : ℕ → Type 0 = λ z. slice_get (fields_at l) (suc z) ≡ Some f in
      let d : k ≡ m = same_Some k m (sym (subst I same (subst K (one-leads (fields_at l) v w a b) p)) ∙ r) in
      let h : f ≡ g = same_Some f g (sym (subst J same q) ∙ t) in
      ap (λ z. reported l.0 (bad z i f)) d ∙ ap (λ (z : Piece). reported l.0 (bad m i z)) h ∙ ap (λ z. reported l.0 (bad m z g)) same

  pub first-once : (t u : Trouble) → First s (fields_at l) t → First s (fields_at l) u → reported l.0 t ≡ reported l.0 u
  first-once t u x y = let e : order t ≡ order u = omega (arith, x.earliest u y.wrong, y.earliest t x.wrong) in once t u e x.wrong y.wrong

pub line-once : LineOnce
line-once s l (Ok d) (Ok e) (p, h) (q, k) = ap (λ z. Ok z) (says-once l.1 d e p q)
line-once s l (Ok d) (Err f) (p, h) x = absurd (x.nothing d p h)
line-once s l (Err f) (Ok e) x (p, h) = absurd (x.nothing e p h)
line-once s l (Err f) (Err g) x y = ap (λ z. Err z) (x.is ∙ first-once s l x.trouble y.trouble x.first y.first ∙ sym y.is)
