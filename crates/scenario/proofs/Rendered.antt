-- Writing the text of a scenario, line after line.
use Rattle.std.proofs.Common.{◌≡◌, ℕ, ◌+◌, ◌<◌, ◌≤◌, List, [], ◌∷◌, ◌++◌, map, length, get_or, take, Some, None, Ok, Option, MatchOption, is_some, IsSome, IsOk, Result, sym, refl, ap, ◌∙◌, subst, append_assoc}
use Rattle.std.proofs.Output.{writes_in_calls_nil, has_written_append, has_written_of_eq}
use Rattle.std.specs.Option.{unwrap_or}
use Rattle.std.specs.Fmt.{IsPlainFormatter, HasWritten, DisplaysOnOk, with_newline}
use Rattle.std.specs.declared.fmt.Formatter.{Formatter}
use Rattle.std.specs.declared.fmt.Error.{Error}
use Rattle.std.proofs.lemmas.List.{take_more, take_all, map-append}
use Rattle.faults.specs.declared.texts.TheConstants.{NEWLINE}
use Rattle.fields.specs.Parts.{ended}
use Rattle.entries.specs.declared.types.RigLine.{RigLine}
use Rattle.entries.specs.declared.types.Setting.{Setting}
use Rattle.entries.specs.declared.types.HeadCall.{HeadCall}
use Rattle.entries.specs.declared.types.Entry.{Entry}
use Rattle.entries.specs.declared.types.Entry.TheVariants as entry
use Rattle.entries.specs.Rendering.{line_text}
use Rattle.scenario.specs.Holdings.{rig_line, in_order}
use Rattle.scenario.specs.Laws.{scenario_text}
use Rattle.scenario.specs.Steps.{WritesLines}

pub ended-append : (ls ms : List (List ℕ)) → ended NEWLINE (ls ++ ms) ≡ ended NEWLINE ls ++ ended NEWLINE ms
ended-append [] ms = refl
ended-append (l ∷ ls) ms = ap (λ x. l ++ (NEWLINE ∷ x)) (ended-append ls ms) ∙ sym (append_assoc l (NEWLINE ∷ ended NEWLINE ls) (ended NEWLINE ms))

-- one line more
line-more : {X : Type 0} (text : X → List ℕ) (xs : List X) (i : ℕ) (x : X) → i < length xs → x ≡ get_or xs i x → ended NEWLINE (map text (take i xs)) ++ (text x ++ (NEWLINE ∷ [])) ≡ ended NEWLINE (map text (take (i + 1) xs))
line-more text xs i x low is =
    ap (λ y. ended NEWLINE (map text (take i xs)) ++ (text y ++ (NEWLINE ∷ []))) is
    ∙ sym (ended-append (map text (take i xs)) (text (get_or xs i x) ∷ []))
    ∙ ap (ended NEWLINE) (sym (map-append text (take i xs) (get_or xs i x ∷ [])))
    ∙ ap (λ l. ended NEWLINE (map text l)) (sym (take_more xs i x low))

-- the loop of `write_lines`: before it, after one turn, and at its end
pub no_lines : {W X : Type 0} (took : W → List ℕ → W → Type 0) (output : X → Option (List ℕ)) (f : Formatter W) → WritesLines took output f [] (Ok tt) f
no_lines took output f = record { wrote = λ shows plain ok. record { wrote = writes_in_calls_nil took _; plain = plain } }

pub line_written : {W X : Type 0} (took : W → List ℕ → W → Type 0) (output : X → Option (List ℕ)) (f g h : Formatter W) (r : Result (Unit {0}) Error) (xs : List X) (i : ℕ) (x : X)
    → WritesLines took output f (take i xs) (Ok tt) g → DisplaysOnOk took g r (with_newline (output x)) h → IsOk r → i < length xs → x ≡ get_or xs i x → WritesLines took output f (take (i + 1) xs) (Ok tt) h
line_written took output f g h r xs i x before line went low is = record {
  wrote = λ shows plain ok.
      let so_far = before.wrote shows plain ok in
      has_written_of_eq took _ _ _ _ (line-more (λ y. unwrap_or (output y) []) xs i x low is) (has_written_append took _ _ _ _ _ so_far (of_text so_far.plain (output x) (shows x) line));
}
  where
    of_text : IsPlainFormatter g → (o : Option (List ℕ)) → IsSome o → DisplaysOnOk took g r (with_newline o) h → HasWritten took g (unwrap_or o [] ++ (NEWLINE ∷ [])) h
    of_text plain None some said = cc
    of_text plain (Some text) some said = said plain went

pub lines_written : {W X : Type 0} (took : W → List ℕ → W → Type 0) (output : X → Option (List ℕ)) (f g : Formatter W) (xs : List X) (i : ℕ) → WritesLines took output f (take i xs) (Ok tt) g → length xs ≤ i → WritesLines took output f xs (Ok tt) g
lines_written took output f g xs i before high = let P : List _ → Type 0 = λ l. WritesLines took output f l (Ok tt) g in subst P (take_all i xs high) before

text-append : (es ds : List Entry) → scenario_text (es ++ ds) ≡ scenario_text es ++ scenario_text ds
text-append es ds = ap (ended NEWLINE) (map-append line_text es ds) ∙ ended-append (map line_text es) (map line_text ds)

rig-listed : (rig : Option RigLine) (rigs : List RigLine) → MatchOption rig (rigs ≡ []) (λ r. rigs ≡ r ∷ []) → map entry.Rig rigs ≡ rig_line rig
rig-listed None rigs e = ap (map entry.Rig) e
rig-listed (Some r) rigs e = ap (map entry.Rig) e

-- the three lists that are written, where the rig line is a list of one or none
all-written : (rig : Option RigLine) (rigs : List RigLine) (ss ts : List Setting) (ks js : List HeadCall) → MatchOption rig (rigs ≡ []) (λ r. rigs ≡ r ∷ []) → ts ≡ ss → js ≡ ks
    → scenario_text (map entry.Rig rigs) ++ (scenario_text (map entry.Set ts) ++ scenario_text (map entry.Call js)) ≡ scenario_text (in_order rig ss ks)
all-written rig rigs ss ts ks js one p q =
    let a = ap scenario_text (rig-listed rig rigs one) in
    let b = ap (λ l. scenario_text (map entry.Set l)) p in
    let d = ap (λ l. scenario_text (map entry.Call l)) q in
    rw (text-append (rig_line rig) (map entry.Set ss ++ map entry.Call ks), text-append (map entry.Set ss) (map entry.Call ks)) (λ i. a i ++ (b i ++ d i))

-- the text of each x is that of its entry
abbrev Prints : {X : Type 0} → (X → Entry) → (X → Option (List ℕ)) → Type 0
Prints {X} said output = (x : X) → output x ≡ Some (line_text (said x))

kind-written : {W X : Type 0} (took : W → List ℕ → W → Type 0) (said : X → Entry) (output : X → Option (List ℕ)) (f g : Formatter W) (xs : List X) (r : Result (Unit {0}) Error)
    → WritesLines took output f xs r g → Prints said output → IsPlainFormatter f → IsOk r → HasWritten took f (scenario_text (map said xs)) g
kind-written took said output f g xs r lines prints plain ok =
    has_written_of_eq took _ _ _ _ (texts xs) (lines.wrote (λ x. ap is_some (prints x)) plain ok)
  where
    texts : (ys : List _) → ended NEWLINE (map (λ y. unwrap_or (output y) []) ys) ≡ scenario_text (map said ys)
    texts [] = refl
    texts (y ∷ ys) = (λ i. unwrap_or (prints y i) [] ++ (NEWLINE ∷ texts ys i))

-- a scenario is written
pub three_written : {W : Type 0} (took : W → List ℕ → W → Type 0) (e f g h : Formatter W) (rig : Option RigLine) (rigs : List RigLine) (ss ts : List Setting) (ks js : List HeadCall) (a b d : Result (Unit {0}) Error)
    (p : RigLine → Option (List ℕ)) (q : Setting → Option (List ℕ)) (r : HeadCall → Option (List ℕ))
    → WritesLines took p e rigs a f → WritesLines took q f ts b g → WritesLines took r g js d h
    → IsOk a → IsOk b → IsOk d → IsPlainFormatter e → MatchOption rig (rigs ≡ []) (λ r. rigs ≡ r ∷ []) → ts ≡ ss → js ≡ ks
    → Prints entry.Rig p → Prints entry.Set q → Prints entry.Call r → HasWritten took e (scenario_text (in_order rig ss ks)) h
three_written took e f g h rig rigs ss ts ks js a b d p q r first second third x y z plain is_rig is_ss is_ks u v w =
    let one = kind-written took entry.Rig p e f rigs a first u plain x in
    let two = kind-written took entry.Set q f g ts b second v one.plain y in
    let three = kind-written took entry.Call r g h js d third w two.plain z in
    has_written_of_eq took _ _ _ _ (all-written rig rigs ss ts ks js is_rig is_ss is_ks) (has_written_append took _ _ _ _ _ one (has_written_append took _ _ _ _ _ two three))
