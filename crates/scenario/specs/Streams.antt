-- A program that reads a text and writes what is printed of it. A reader may tell which bytes it has left, and a writer which
-- it holds.
use Rattle.std.specs.Prelude.{◌≡◌, ◌≢◌, ◌<◌, ℕ, List, length, take, Option, Ok, Err, Result}
use Rattle.std.specs.Option.{IfSome}
use Rattle.std.specs.IoError.{error_kind}
use Rattle.std.specs.Io.KnownBytes.{Appends, Keeps}
use Rattle.std.specs.declared.io.Error.{Error}
use Rattle.std.specs.declared.io.ErrorKind.TheVariants.{Interrupted}
use Rattle.scenario.specs.declared.streams.StreamError.{StreamError}
use Rattle.scenario.specs.declared.streams.StreamError.TheVariants as error

-- an error that ends a transfer; a call that is only interrupted is made again
abbrev pub Lasting : Error → Type 0
Lasting e = error_kind e ≢ Interrupted

-- an error before anything is written
abbrev pub BeforeWriting : StreamError → Type 0
BeforeWriting (error.NotRead e) = Lasting e
BeforeWriting (error.NoMemory e) = Unit {0}
BeforeWriting (error.NotWritten e) = ⊥

-- the bytes that the writer holds grow by the first of the text, and not by all of it
abbrev pub AppendsPart : Option (List ℕ) → Option (List ℕ) → List ℕ → Type 0
AppendsPart before after text = (n : ℕ) × ((n < length text) × Appends before after (take n text))

-- what the writer holds after a text was written: the text is added, or, at an error, a part of it
abbrev pub Written : Result (Unit {0}) Error → Option (List ℕ) → Option (List ℕ) → List ℕ → Type 0
Written (Ok _) before after text = Appends before after text
Written (Err e) before after text = Lasting e × AppendsPart before after text

-- this is printed of the bytes that a reader has left: of some bytes, if it does not tell them
abbrev pub PrintOf : (List ℕ → List ℕ → Type 0) → Option (List ℕ) → List ℕ → Type 0
PrintOf Prints had out = (text : List ℕ) × (IfSome had (λ bytes. text ≡ bytes) × Prints text out)

-- what the writer holds in the end: what is printed of the bytes that the reader had left is added; nothing, if they could
-- not be read or memory was wanting; a part of it, if it could not be written
abbrev pub Printed : (List ℕ → List ℕ → Type 0) → Result (Unit {0}) StreamError → Option (List ℕ) → Option (List ℕ) → Option (List ℕ) → Type 0
Printed Prints (Ok _) had before after = (out : List ℕ) × (PrintOf Prints had out × Appends before after out)
Printed Prints (Err (error.NotRead e)) had before after = Lasting e × Keeps before after
Printed Prints (Err (error.NoMemory e)) had before after = Keeps before after
Printed Prints (Err (error.NotWritten e)) had before after = Lasting e × ((out : List ℕ) × (PrintOf Prints had out × AppendsPart before after out))
