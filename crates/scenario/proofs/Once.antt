-- A text is read in one way.
use Rattle.std.proofs.Common.{◌≡◌, List, [], ◌∷◌, Some, None, Ok, Err, Option, sym, refl, ap, ◌∙◌, subst, arith}
use Rattle.fields.specs.Parts.{Piece}
use Rattle.entries.specs.declared.types.Entry.{Entry}
use Rattle.entries.specs.declared.types.Entry.TheVariants as entry
use Rattle.lines.specs.declared.types.Stage.{Stage}
use Rattle.faults.specs.declared.types.LineFault.{LineFault}
use Rattle.lines.specs.Faults.{LineRead, stage_after}
use Rattle.lines.proofs.Once.{says-once, line-once}
use Rattle.faults.specs.declared.types.RigFault.{RigFault}
use Rattle.faults.specs.declared.types.RigFault.TheVariants as in_rig
use Rattle.scenario.specs.Texts.{Allowed, RigRead, LinesRead, start, lines_of_text, long, empty, lined, TextOnce}

module _ (s : Stage) (l : Piece) where
  apart : (e : Entry) (f : LineFault) → LineRead s l (Ok e) → LineRead s l (Err f) → ⊥
  apart e f (p, h) x = x.nothing e p h

  said-or-refused : (e : Entry) (f : RigFault) → RigRead s l (Ok e) → RigRead s l (Err f) → ⊥
  said-or-refused e (in_rig.Line f) (p, a) q = apart e f p q
  said-or-refused e (in_rig.NoSuchCell b) (p, a) (i, (x, q, off)) = off (subst (Allowed s) (says-once l.1 e (entry.Set x) p.0 q.0) a)
  said-or-refused e (in_rig.BadRig b) (p, a) (i, (r, q, off)) = off (subst (Allowed s) (says-once l.1 e (entry.Rig r) p.0 q.0) a)

  refused-once : (f g : RigFault) → RigRead s l (Err f) → RigRead s l (Err g) → f ≡ g
  refused-once (in_rig.Line f) (in_rig.Line g) p q = cc (line-once s l (Err f) (Err g) p q)
  refused-once (in_rig.Line f) (in_rig.NoSuchCell b) p (i, (x, q, off)) = absurd (apart (entry.Set x) f q p)
  refused-once (in_rig.Line f) (in_rig.BadRig b) p (i, (r, q, off)) = absurd (apart (entry.Rig r) f q p)
  refused-once (in_rig.NoSuchCell b) (in_rig.Line f) (i, (x, q, off)) p = absurd (apart (entry.Set x) f q p)
  refused-once (in_rig.BadRig b) (in_rig.Line f) (i, (r, q, off)) p = absurd (apart (entry.Rig r) f q p)
  refused-once (in_rig.NoSuchCell b) (in_rig.NoSuchCell c) (i, x) (j, y) = ap (λ n. in_rig.NoSuchCell n) (i ∙ sym j)
  refused-once (in_rig.BadRig b) (in_rig.BadRig c) (i, x) (j, y) = ap (λ n. in_rig.BadRig n) (i ∙ sym j)
  refused-once (in_rig.NoSuchCell b) (in_rig.BadRig c) (i, (x, q, off)) (j, (r, p, no-rig)) = absurd (cc (says-once l.1 (entry.Set x) (entry.Rig r) q.0 p.0))
  refused-once (in_rig.BadRig b) (in_rig.NoSuchCell c) (j, (r, p, no-rig)) (i, (x, q, off)) = absurd (cc (says-once l.1 (entry.Set x) (entry.Rig r) q.0 p.0))

lines-once : (s : Stage) (ls : List Piece) (es ds : List Entry) (f g : Option RigFault) → LinesRead s ls es f → LinesRead s ls ds g → (es ≡ ds) × (f ≡ g)
lines-once s [] [] [] None None x y = (refl, refl)
lines-once s [] [] [] None (Some g) x y = absurd y
lines-once s [] [] (d ∷ ds) None g x y = absurd y
lines-once s [] [] ds (Some f) g x y = absurd x
lines-once s [] (e ∷ es) ds f g x y = absurd x
lines-once s (l ∷ ls) [] ds None g x y = absurd x
lines-once s (l ∷ ls) [] [] (Some f) None x y = absurd y
lines-once s (l ∷ ls) [] [] (Some f) (Some g) x y = (refl, ap (λ z. Some z) (refused-once s l f g x y))
lines-once s (l ∷ ls) [] (d ∷ ds) (Some f) g x (q, y) = absurd (said-or-refused s l d f q x)
lines-once s (l ∷ ls) (e ∷ es) [] f None x y = absurd y
lines-once s (l ∷ ls) (e ∷ es) [] f (Some g) (p, x) y = absurd (said-or-refused s l e g p y)
lines-once s (l ∷ ls) (e ∷ es) (d ∷ ds) f g (p, x) (q, y) =
    let i : e ≡ d = says-once l.1 e d p.0.0 q.0.0 in
    let P : Entry → Type 0 = λ z. LinesRead (stage_after s z) ls ds g in
    let r = lines-once (stage_after s e) ls es ds f g x (subst P (sym i) y) in
    (ap (λ z. z ∷ es) i ∙ ap (λ z. d ∷ z) r.0, r.1)

pub text-once : TextOnce
text-once text _ _ _ _ (long p) (long q) = (refl, refl)
text-once text _ _ _ _ (long p) (empty q) = absurd (omega arith)
text-once text _ _ _ _ (long p) (lined ds g q u y) = absurd (omega arith)
text-once text _ _ _ _ (empty p) (long q) = absurd (omega arith)
text-once text _ _ _ _ (empty p) (empty q) = (refl, refl)
text-once text _ _ _ _ (empty p) (lined ds g q u y) = absurd (omega arith)
text-once text _ _ _ _ (lined es f p u x) (long q) = absurd (omega arith)
text-once text _ _ _ _ (lined es f p u x) (empty q) = absurd (omega arith)
text-once text _ _ _ _ (lined es f p u x) (lined ds g q w y) = lines-once start (lines_of_text text) es ds f g x y
