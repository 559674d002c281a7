-- Reading on, line after line.
use Rattle.std.proofs.Common.{◌≡◌, ℕ, suc, ◌+◌, ◌<◌, ◌≤◌, eqb, List, [], ◌∷◌, ◌++◌, map, length, take, Some, None, Ok, Err, Option, Result, sym, refl, ap, ◌∙◌, subst, ⊎_elim, append_assoc, append-nil, arith, IsErrAnd}
use Rattle.std.proofs.lemmas.Result.{err_from_is_err_and}
use Rattle.std.proofs.lemmas.List.{take_at, map-append, length_push}
use Rattle.std.proofs.lemmas.Bool.{cond_both}
use Rattle.faults.specs.declared.texts.TheConstants.{NEWLINE, LONGEST}
use Rattle.faults.specs.declared.types.Place.{Place}
use Rattle.fields.specs.Parts.{Piece, lines_of, onto, after_line, lines_from, text_start}
use Rattle.entries.specs.declared.types.RigLine.{RigLine}
use Rattle.entries.specs.declared.types.Setting.{Setting}
use Rattle.entries.specs.declared.types.HeadCall.{HeadCall}
use Rattle.entries.specs.declared.types.Entry.{Entry}
use Rattle.entries.specs.declared.types.Entry.TheVariants as entry
use Rattle.lines.specs.declared.types.Stage.{Stage}
use Rattle.lines.specs.declared.types.Stage.TheVariants as stage
use Rattle.faults.specs.declared.types.LineFault.TheVariants as in_line
use Rattle.entries.specs.Rendering.{word_of}
use Rattle.lines.specs.Faults.{Placed, stage_after}
use Rattle.faults.specs.declared.types.RigFault.{RigFault}
use Rattle.faults.specs.declared.types.RigFault.TheVariants as in_rig
use Rattle.scenario.specs.declared.texts.Entries.{Entries}
use Rattle.scenario.specs.declared.types.ReadError.{ReadError}
use Rattle.std.specs.declared.alloc.AllocError.{AllocError}
use Rattle.scenario.specs.declared.types.ReadError.TheVariants as error
use Rattle.scenario.specs.Texts.{RigRead, LinesRead, start, lines_of_text, TextSays, long, empty, lined}
use Rattle.scenario.specs.Holdings.{rig_line, in_order, Read, Checked}
use Rattle.scenario.specs.Steps.{Held, nothing, put, to_come, LineSaid, Sized, Ends, LinesCounted}

-- what is held, in its order
abbrev pub listed : Held → List Entry
listed h = in_order h.rig h.settings h.calls

-- what is held where a line of this stage comes next: an entry that may stand there goes to the end
abbrev pub Orderly : Stage → Held → Type 0
Orderly stage.Start h = h ≡ nothing
Orderly (stage.Settings cells) h = h.calls ≡ []
Orderly stage.Calls h = Unit {0}

-- the stage after entries
abbrev pub stage_at : Stage → List Entry → Stage
stage_at s [] = s
stage_at s (e ∷ es) = stage_at (stage_after s e) es

-- an entry that may stand at a stage goes to the end of what is held

settings-end : (rig : Option RigLine) (ss : List Setting) (ks : List HeadCall) (x : Setting) → ks ≡ [] → in_order rig (ss ++ (x ∷ [])) ks ≡ in_order rig ss ks ++ (entry.Set x ∷ [])
settings-end rig ss ks x e =
    let ms : List Entry = map entry.Set ss in
    ap (in_order rig (ss ++ (x ∷ []))) e
    ∙ ap (λ l. rig_line rig ++ l) (append-nil (map entry.Set (ss ++ (x ∷ []))) ∙ map-append entry.Set ss (x ∷ []) ∙ ap (λ l. l ++ (entry.Set x ∷ [])) (sym (append-nil ms)))
    ∙ sym (append_assoc (rig_line rig) (ms ++ []) (entry.Set x ∷ []))
    ∙ sym (ap (λ l. in_order rig ss l ++ (entry.Set x ∷ [])) e)

calls-end : (rig : Option RigLine) (ss : List Setting) (ks : List HeadCall) (k : HeadCall) → in_order rig ss (ks ++ (k ∷ [])) ≡ in_order rig ss ks ++ (entry.Call k ∷ [])
calls-end rig ss ks k =
    let ms : List Entry = map entry.Set ss in
    let ns : List Entry = map entry.Call ks in
    ap (λ l. rig_line rig ++ (ms ++ l)) (map-append entry.Call ks (k ∷ []))
    ∙ ap (λ l. rig_line rig ++ l) (sym (append_assoc ms ns (entry.Call k ∷ [])))
    ∙ sym (append_assoc (rig_line rig) (ms ++ ns) (entry.Call k ∷ []))

pub put_last : (s : Stage) (h : Held) (e : Entry) → Orderly s h → Placed s (word_of e) → (listed (put h e) ≡ listed h ++ (e ∷ [])) × Orderly (stage_after s e) (put h e)
put_last stage.Start h (entry.Rig r) o p = (ap (λ x. listed (put x (entry.Rig r))) o ∙ sym (ap (λ x. listed x ++ (entry.Rig r ∷ [])) o), ap (λ (x : Held). x.calls) o)
put_last stage.Start h (entry.Set x) o p = absurd (cc)
put_last stage.Start h (entry.Call k) o p = absurd (cc)
put_last (stage.Settings n) h (entry.Rig r) o p = absurd (p refl)
put_last (stage.Settings n) h (entry.Set x) o p = (settings-end h.rig h.settings h.calls x o, o)
put_last (stage.Settings n) h (entry.Call k) o p = (calls-end h.rig h.settings h.calls k, tt)
put_last stage.Calls h (entry.Rig r) o p = absurd (p.0 refl)
put_last stage.Calls h (entry.Set x) o p = absurd (p.1 refl)
put_last stage.Calls h (entry.Call k) o p = (calls-end h.rig h.settings h.calls k, tt)

-- one line more

stage-more : (s : Stage) (es : List Entry) (e : Entry) → stage_at s (es ++ (e ∷ [])) ≡ stage_after (stage_at s es) e
stage-more s [] e = refl
stage-more s (d ∷ es) e = stage-more (stage_after s d) es e

read_more : (s : Stage) (done : List Piece) (es : List Entry) (l : Piece) (e : Entry) → LinesRead s done es None → RigRead (stage_at s es) l (Ok e) → LinesRead s (done ++ (l ∷ [])) (es ++ (e ∷ [])) None
read_more s [] [] l e h r = (r, tt)
read_more s [] (d ∷ es) l e h r = absurd h
read_more s (k ∷ done) [] l e h r = absurd h
read_more s (k ∷ done) (d ∷ es) l e (h, t) r = (h, read_more (stage_after s d) done es l e t r)

read-fault : (s : Stage) (done : List Piece) (es : List Entry) (l : Piece) (ls : List Piece) (f : RigFault) → LinesRead s done es None → RigRead (stage_at s es) l (Err f) → LinesRead s (done ++ (l ∷ ls)) es (Some f)
read-fault s [] [] l ls f h r = r
read-fault s [] (d ∷ es) l ls f h r = absurd h
read-fault s (k ∷ done) [] l ls f h r = absurd h
read-fault s (k ∷ done) (d ∷ es) l ls f (h, t) r = (h, read-fault (stage_after s d) done es l ls f t r)

as_many : (s : Stage) (done : List Piece) (es : List Entry) → LinesRead s done es None → length done ≡ length es
as_many s [] [] h = refl
as_many s [] (d ∷ es) h = absurd h
as_many s (k ∷ done) [] h = absurd h
as_many s (k ∷ done) (d ∷ es) (h, t) = ap suc (as_many (stage_after s d) done es t)

-- what is known before a turn of the loop: the lines so far say what is held, and these are still to come
pub record Come (lines : List Piece) (at : Entries) (h : Held) : Type 0 where
  pub done : List Piece
  pub are : lines ≡ done ++ to_come at
  pub read : LinesRead start done (listed h) None
  pub stage_is : at.stage ≡ stage_at start (listed h)
  pub orderly : Orderly at.stage h

pub come-first : (lines : List Piece) (at : Entries) (h : Held) → to_come at ≡ lines → at.stage ≡ start → h ≡ nothing → Come lines at h
come-first lines at h all first none =
    let O : Stage → Type 0 = λ x. Orderly x h in
    record {
      done = [];
      are = sym all;
      read = subst (λ x. LinesRead start [] (listed x) None) (sym none) tt;
      stage_is = first ∙ sym (ap (λ x. stage_at start (listed x)) none);
      orderly = subst O (sym first) none;
    }

-- one more line is read
module _ (lines : List Piece) (at after : Entries) (h : Held) (come : Come lines at h) where
  -- as it is read after what is held
  here : (l : Piece) (r : Result Entry RigFault) → RigRead at.stage l r → RigRead (stage_at start (listed h)) l r
  here l r = let P : Stage → Type 0 = λ x. RigRead x l r in subst P come.stage_is

  pub come_next : (e : Entry) (g : Held) → LineSaid at (Ok e) after → g ≡ put h e → Come lines after g
  come_next e g said p =
      let last = put_last at.stage h e come.orderly said.read.0.1 in
      let same : listed g ≡ listed h ++ (e ∷ []) = ap listed p ∙ last.0 in
      let P : List Entry → Type 0 = λ x. LinesRead start (come.done ++ (said.line ∷ [])) x None in
      let O : Held → Type 0 = λ x. Orderly (stage_after at.stage e) x in
      let R : Stage → Type 0 = λ x. Orderly x g in
      record {
        done = come.done ++ (said.line ∷ []);
        are = come.are ∙ ap (λ x. come.done ++ x) said.next ∙ sym (append_assoc come.done (said.line ∷ []) (to_come after));
        read = subst P (sym same) (read_more start come.done (listed h) said.line e come.read (here said.line (Ok e) said.read));
        stage_is = said.moved ∙ ap (λ x. stage_after x e) come.stage_is ∙ sym (stage-more start (listed h) e) ∙ ap (stage_at start) (sym same);
        orderly = subst R (sym said.moved) (subst O (sym p) last.1);
      }

  come-fault : (f : RigFault) → LineSaid at (Err f) after → LinesRead start lines (listed h) (Some f)
  come-fault f said =
      let P : List Piece → Type 0 = λ x. LinesRead start x (listed h) (Some f) in
      subst P (sym (come.are ∙ ap (λ x. come.done ++ x) said.next)) (read-fault start come.done (listed h) said.line (to_come after) f come.read (here said.line (Err f) said.read))

come-short : (lines : List Piece) (at : Entries) (h g : Held) → Come lines at h → g ≡ h → LinesRead start (take (length (listed g)) lines) (listed g) None
come-short lines at h g come e =
    let P : Held → Type 0 = λ x. LinesRead start (take (length (listed x)) lines) (listed x) None in
    let Q : List Piece → Type 0 = λ x. LinesRead start x (listed h) None in
    let front : take (length (listed h)) lines ≡ come.done = ap (take (length (listed h))) come.are ∙ take_at come.done (to_come at) (length (listed h)) (as_many start come.done (listed h) come.read) in
    subst P (sym e) (subst Q (sym front) come.read)

-- where the loop stops at a fault, and where memory runs out
pub ends-fault : (lines : List Piece) (at after : Entries) (h : Held) (f : RigFault) (q : Result (Unit {0}) ReadError) → Come lines at h → LineSaid at (Err f) after → IsErrAnd q (λ y. y ≡ error.Fault f) → Ends lines (listed h) q
ends-fault lines at after h f q come said is =
    let p = err_from_is_err_and q is in
    rw (p.1, p.2) (come-fault lines at after h come f said)

pub ends-memory : (lines : List Piece) (at : Entries) (h g : Held) (e : AllocError) (q : Result (Unit {0}) ReadError) → Come lines at h → g ≡ h → IsErrAnd q (λ y. y ≡ error.NoMemory e) → Ends lines (listed g) q
ends-memory lines at h g e q come same is =
    let p = err_from_is_err_and q is in
    rw (p.1, p.2) (come-short lines at h g come same)

-- the whole text

pub text-ends : (text : List ℕ) (es : List Entry) (r : Result (Unit {0}) ReadError) → (0 < length text) × (length text ≤ LONGEST) → Ends (lines_of_text text) es r → Read text es r
text-ends text es (Ok _) (some, short) h = lined es None some short h
text-ends text es (Err (error.Fault f)) (some, short) h = lined es (Some f) some short h
text-ends text es (Err (error.NoMemory e)) (some, short) h = h

text-unsized : (text : List ℕ) (f : RigFault) → Sized text (Err f) → TextSays text [] (Some f)
text-unsized text f s =
    let Q : RigFault → Type 0 = λ x. TextSays text [] (Some x) in
    ⊎_elim (λ (x : (LONGEST < length text) × (f ≡ in_rig.Line in_line.TooLong)). subst Q (sym x.1) (long x.0)) (λ (x : (length text ≡ 0) × (f ≡ in_rig.Line (in_line.Misplaced text_start))). subst Q (sym x.1) (empty x.0)) s

pub unsized-read : (text : List ℕ) (f : RigFault) (h : Held) (q : Result (Unit {0}) ReadError) → h ≡ nothing → Sized text (Err f) → IsErrAnd q (λ y. y ≡ error.Fault f) → Read text (listed h) q
unsized-read text f h q none s is =
    let p = err_from_is_err_and q is in
    let P : List Entry → Type 0 = λ x. TextSays text x (Some f) in
    rw (p.1, p.2) (subst P (sym (ap listed none)) (text-unsized text f s))

-- how many lines there are

pub lines-many : (text : List ℕ) → length (lines_of text) ≤ length text
lines-many [] = omega arith
lines-many (x ∷ xs) =
    let P : List (List ℕ) → Type 0 = λ l. length l ≤ suc (length xs) in
    cond_both (eqb x NEWLINE) ([] ∷ lines_of xs) (onto x (lines_of xs)) P (λ _. omega (arith, lines-many xs)) (λ _. onto-many (lines_of xs) (lines-many xs))
  where
    onto-many : (ls : List (List ℕ)) → length ls ≤ length xs → length (onto x ls) ≤ suc (length xs)
    onto-many [] h = omega arith
    onto-many (l ∷ ls) h = omega arith

length-lines : (p : Place) (ls : List (List ℕ)) → length (lines_from p ls) ≡ length ls
length-lines p [] = refl
length-lines p (l ∷ ls) = ap suc (length-lines (after_line p l) ls)

-- the same for a reading that only counts

pub record Counting (lines : List Piece) (at : Entries) (n : ℕ) : Type 0 where
  pub kept : Held
  pub come : Come lines at kept
  pub is : n ≡ length (listed kept)
  pub few : n + length (to_come at) ≤ LONGEST

pub counting_first : (text : List ℕ) (at : Entries) → length text ≤ LONGEST → to_come at ≡ lines_of_text text → at.stage ≡ start → Counting (lines_of_text text) at 0
counting_first text at short all first =
    record { kept = nothing; come = come-first (lines_of_text text) at nothing all first refl; is = refl; few = omega (arith, ap length all, length-lines text_start (lines_of text), lines-many text) }

pub counting_next : (lines : List Piece) (at after : Entries) (n : ℕ) (e : Entry) → Counting lines at n → LineSaid at (Ok e) after → Counting lines after (n + 1)
counting_next lines at after n e c said =
    let h = c.kept in
    let last = put_last at.stage h e c.come.orderly said.read.0.1 in
    let more : length (listed (put h e)) ≡ length (listed h) + 1 = ap length last.0 ∙ length_push (listed h) e in
    record {
      kept = put h e;
      come = come_next lines at after h c.come e (put h e) said refl;
      is = omega (arith, more, c.is);
      few = omega (arith, c.few, ap length said.next);
    }

pub counted-fault : (lines : List Piece) (at after : Entries) (n : ℕ) (f : RigFault) (q : Result ℕ RigFault) → Counting lines at n → LineSaid at (Err f) after → IsErrAnd q (λ y. y ≡ f) → LinesCounted lines q
counted-fault lines at after n f q c said is =
    let p = err_from_is_err_and q is in
    rw (p.1, p.2) (listed c.kept, come-fault lines at after c.kept c.come f said)

pub text-counted : (text : List ℕ) (r : Result ℕ RigFault) → (0 < length text) × (length text ≤ LONGEST) → LinesCounted (lines_of_text text) r → Checked text r
text-counted text (Ok n) (some, short) (es, h, e) = (es, lined es None some short h, e)
text-counted text (Err f) (some, short) (es, h) = (es, lined es (Some f) some short h)

pub unsized-counted : (text : List ℕ) (f : RigFault) (q : Result ℕ RigFault) → Sized text (Err f) → IsErrAnd q (λ y. y ≡ f) → Checked text q
unsized-counted text f q s is =
    let p = err_from_is_err_and q is in
    rw (p.1, p.2) ([], text-unsized text f s)
