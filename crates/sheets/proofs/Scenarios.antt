-- A scenario that was read: its parts, its lines, and that its run can begin.
use Rattle.std.proofs.Common.{◌≡◌, ℕ, ◌<◌, All, List, [], ◌∷◌, ◌++◌, map, length, Some, None, Option, Result, refl, sym, ap, ◌∙◌, subst, arith}
use Rattle.std.specs.Option.{ForSome}
use Rattle.std.proofs.lemmas.List.Elements.{All-nil, All-cons}
use Rattle.entries.specs.declared.types.RigLine.{RigLine}
use Rattle.entries.specs.declared.types.Setting.{Setting}
use Rattle.entries.specs.declared.types.HeadCall.{HeadCall}
use Rattle.entries.specs.declared.types.Entry.{Entry}
use Rattle.entries.specs.declared.types.Entry.TheVariants as entry
use Rattle.fields.specs.Parts.{Piece}
use Rattle.lines.specs.declared.types.Stage.TheVariants as stage
use Rattle.faults.specs.declared.types.RigFault.{RigFault}
use Rattle.scenario.specs.declared.types.ReadError.{ReadError}
use Rattle.scenario.specs.Texts.{LinesRead, start, lines_of_text, TextSays, long, empty, lined}
use Rattle.scenario.specs.Holdings.{in_order, Read}
use Rattle.sheets.specs.Kits.{kit_named}
use Rattle.sheets.specs.Starts.{CanBegin, first_bench}
use Rattle.sheets.specs.Sheets.{end_lines, run_lines, settings_in, calls_in, sheet_lines, end_at}

-- the settings and the calls of a scenario are those that it holds

settings-of-calls : (ks : List HeadCall) → settings_in (map entry.Call ks) ≡ []
settings-of-calls [] = refl
settings-of-calls (k ∷ ks) = settings-of-calls ks

settings-held : (ss : List Setting) (ks : List HeadCall) → settings_in (map entry.Set ss ++ map entry.Call ks) ≡ ss
settings-held [] ks = settings-of-calls ks
settings-held (s ∷ ss) ks = ap (λ l. s ∷ l) (settings-held ss ks)

calls-of-calls : (ks : List HeadCall) → calls_in (map entry.Call ks) ≡ ks
calls-of-calls [] = refl
calls-of-calls (k ∷ ks) = ap (λ l. k ∷ l) (calls-of-calls ks)

calls-held : (ss : List Setting) (ks : List HeadCall) → calls_in (map entry.Set ss ++ map entry.Call ks) ≡ ks
calls-held [] ks = calls-of-calls ks
calls-held (s ∷ ss) ks = calls-held ss ks

-- the lines of its sheet

rig-lines : (r : RigLine) (ss : List Setting) (ks : List HeadCall) (fault : Option RigFault)
    → run_lines (kit_named r.board r.policy) (first_bench r.heads r.cells ss) ks fault ≡ sheet_lines (in_order (Some r) ss ks) fault
rig-lines r ss ks fault =
    λ i. run_lines (kit_named r.board r.policy) (first_bench r.heads r.cells (sym (settings-held ss ks) i)) (sym (calls-held ss ks) i) fault

no-rig-lines : (ss : List Setting) (ks : List HeadCall) (fault : Option RigFault) → end_lines [] fault ≡ sheet_lines (in_order None ss ks) fault
no-rig-lines [] [] fault = refl
no-rig-lines [] (k ∷ ks) fault = refl
no-rig-lines (s ∷ ss) ks fault = refl

module _ (rig : Option RigLine) (ss : List Setting) (ks : List HeadCall) (fault : Option RigFault) where
  pub lines_on_rig : (r : RigLine) → rig ≡ Some r → run_lines (kit_named r.board r.policy) (first_bench r.heads r.cells ss) ks fault ≡ sheet_lines (in_order rig ss ks) fault
  lines_on_rig r is = rig-lines r ss ks fault ∙ ap (λ x. sheet_lines (in_order x ss ks) fault) (sym is)

  pub lines_without_rig : rig ≡ None → end_lines [] fault ≡ sheet_lines (in_order rig ss ks) fault
  lines_without_rig is = no-rig-lines ss ks fault ∙ ap (λ x. sheet_lines (in_order x ss ks) fault) (sym is)

-- the run of what a text says can begin

settings-within : (cells : ℕ) (ls : List Piece) (ss : List Setting) (ks : List HeadCall) (fault : Option RigFault)
    → LinesRead (stage.Settings cells) ls (map entry.Set ss ++ map entry.Call ks) fault → All (λ (s : Setting). s.cell < cells) ss
settings-within cells ls [] ks fault h = All-nil (λ (s : Setting). s.cell < cells)
settings-within cells [] (s ∷ ss) ks fault h = absurd h
settings-within cells (l ∷ ls) (s ∷ ss) ks fault (h, t) = All-cons (λ (x : Setting). x.cell < cells) s ss h.1 (settings-within cells ls ss ks fault t)

lines-begin : (ls : List Piece) (r : RigLine) (ss : List Setting) (ks : List HeadCall) (fault : Option RigFault)
    → LinesRead start ls (in_order (Some r) ss ks) fault → CanBegin r.heads r.cells ss
lines-begin [] r ss ks fault h = absurd h
lines-begin (l ∷ ls) r ss ks fault (h, t) = record { in_range = h.1; within = settings-within r.cells ls ss ks fault t }

said-lines : (text : List ℕ) (es : List Entry) (fault : Option RigFault) → TextSays text es fault → 0 < length es → LinesRead start (lines_of_text text) es fault
said-lines text _ _ (long h) some = absurd (omega arith)
said-lines text _ _ (empty h) some = absurd (omega arith)
said-lines text _ _ (lined es fault nonempty short h) some = h

-- what is read up to a fault or the end

said-to : (text : List ℕ) (es : List Entry) (fault : Option RigFault) → Read text es (end_at fault) → TextSays text es fault
said-to text es None h = h
said-to text es (Some f) h = h

pub says_to : (text : List ℕ) (es : List Entry) (end : Result (Unit {0}) ReadError) (fault : Option RigFault) → Read text es end → end ≡ end_at fault → TextSays text es fault
says_to text es end fault h is = let P : Result (Unit {0}) ReadError → Type 0 = λ x. Read text es x in said-to text es fault (subst P is h)

pub can_begin : (text : List ℕ) (rig : Option RigLine) (ss : List Setting) (ks : List HeadCall) (fault : Option RigFault)
    → TextSays text (in_order rig ss ks) fault → ForSome rig (λ r. CanBegin r.heads r.cells ss)
can_begin text rig ss ks fault says r is =
    let P : Option RigLine → Type 0 = λ x. TextSays text (in_order x ss ks) fault in
    lines-begin (lines_of_text text) r ss ks fault (said-lines text (in_order (Some r) ss ks) fault (subst P is says) (omega arith))
