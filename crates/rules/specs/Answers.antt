-- One answer for all calls: its number and its value, as a run sheet shows them.
use Rattle.std.specs.Prelude.{ℕ, Some, None, Ok, Err, Option, Result}
use Rattle.std.specs.Option.{option_map}
use Rattle.parts.specs.Causes.{cause_number, mode_number}
use Rattle.parts.specs.declared.calls.Call.{Call}
use Rattle.parts.specs.declared.calls.Call.TheVariants.{Open, Read, Write, Close, Push, Jolt, Again, Drop}
use Rattle.rules.specs.declared.types.Caller.{Caller}
use Rattle.rules.specs.declared.types.Closing.{Closing}
use Rattle.rules.specs.declared.types.Closing.TheVariants as closing
use Rattle.rules.specs.declared.types.Granted.{Granted}
use Rattle.rules.specs.declared.types.Granted.TheVariants as granted
use Rattle.rules.specs.declared.types.Refusal.{Refusal}
use Rattle.rules.specs.declared.types.Refusal.TheVariants as refuse
use Rattle.rules.specs.Kit.{Kit}
use Rattle.rules.specs.Bench.{BenchOf, Bench}
use Rattle.rules.specs.Calls.{OutcomeOf, open_of, read_of, write_of, close_of, push_of, jolt_of, again_of, drop_of}

abbrev pub Answer : Type 0 → Type 0
Answer W = Result (Granted W) Refusal

abbrev pub answer_by : {A W : Type 0} → (A → Granted W) → Result A Refusal → Answer W
answer_by give (Ok x) = Ok (give x)
answer_by give (Err e) = Err e

-- the answer, and the table and lists that are left
abbrev pub with_answer : {T A W : Type 0} → (A → Granted W) → OutcomeOf T A W → Answer W × BenchOf T W
with_answer give o = (answer_by give o.answer, o.left)

-- any of the eight calls
abbrev pub call_of : {W : Type 0} → Kit W → Bench W → Caller → Call ℕ W → Answer W × Bench W
call_of kit b who Open = with_answer granted.Begun (open_of b who)
call_of kit b who (Read c) = with_answer granted.Word (read_of kit.memory b who c)
call_of kit b who (Write c w) = with_answer (λ _. granted.Done) (write_of kit.memory b who c w)
call_of kit b who Close = with_answer granted.Closed (close_of kit.memory b who)
call_of kit b who Push = with_answer granted.SlotsLeft (push_of b who)
call_of kit b who Jolt = with_answer (λ _. granted.Done) (jolt_of b who)
call_of kit b who Again = with_answer granted.Begun (again_of kit.policy b who)
call_of kit b who Drop = with_answer (λ _. granted.Done) (drop_of b who)

-- the number of each refusal
abbrev pub refusal_number : Refusal → ℕ
refusal_number refuse.Lists = 2
refusal_number refuse.NoHead = 3
refusal_number refuse.NoCell = 4
refusal_number refuse.NotTaken = 5
refusal_number (refuse.Aborted cause) = 6
refusal_number refuse.Busy = 7
refusal_number refuse.Full = 8
refusal_number refuse.OutOfTransactions = 9
refusal_number refuse.OutOfAttempts = 10
refusal_number refuse.OutOfRange = 11
refusal_number refuse.StaleHandle = 12

-- and its value: only an abort has one, the number of its cause
abbrev pub refusal_value : Refusal → Option ℕ
refusal_value refuse.Lists = None
refusal_value refuse.NoHead = None
refusal_value refuse.NoCell = None
refusal_value refuse.NotTaken = None
refusal_value (refuse.Aborted cause) = Some (cause_number cause)
refusal_value refuse.Busy = None
refusal_value refuse.Full = None
refusal_value refuse.OutOfTransactions = None
refusal_value refuse.OutOfAttempts = None
refusal_value refuse.OutOfRange = None
refusal_value refuse.StaleHandle = None

-- a granted call returns 0, or 1 if its writes are still to be pushed
abbrev pub closing_number : Closing → ℕ
closing_number (closing.Complete n) = 0
closing_number (closing.WritingBack n) = 1

-- the attempts that a granted close tells
abbrev pub attempts_told : Closing → ℕ
attempts_told (closing.Complete n) = n
attempts_told (closing.WritingBack n) = n

abbrev pub granted_number : {W : Type 0} → Granted W → ℕ
granted_number (granted.Begun m) = 0
granted_number (granted.Word w) = 0
granted_number granted.Done = 0
granted_number (granted.Closed c) = closing_number c
granted_number (granted.SlotsLeft n) = 0

-- a word is shown as the kind of word has it, every other value as a number
abbrev pub granted_value : {W V : Type 0} → (W → V) → (ℕ → V) → Granted W → Option V
granted_value shown number (granted.Begun m) = Some (number (mode_number m))
granted_value shown number (granted.Word w) = Some (shown w)
granted_value shown number granted.Done = None
granted_value shown number (granted.Closed c) = Some (number (attempts_told c))
granted_value shown number (granted.SlotsLeft n) = Some (number n)

abbrev pub answer_number : {W : Type 0} → Answer W → ℕ
answer_number (Ok g) = granted_number g
answer_number (Err e) = refusal_number e

-- the value of any answer, shown likewise
abbrev pub answer_value : {W V : Type 0} → (W → V) → (ℕ → V) → Answer W → Option V
answer_value shown number (Ok g) = granted_value shown number g
answer_value shown number (Err e) = option_map number (refusal_value e)
