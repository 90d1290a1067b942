-- What is answered to a schedule, and what is written of it: of a run, and of any other text.
use Rattle.std.specs.Prelude.{ℕ, ◌+◌, ◌*◌, ◌≤◌, ◌≡◌, true, cond, List, [], eqb, ltb, length, Result, Ok, Err}
use Rattle.lamport.specs.Table.{fresh, sizes_ok}
use Rattle.lamport.specs.Refusals.{number, answer_number, answer, next}
use Rattle.lamport.specs.declared.Setup.{Setup}
use Rattle.lamport.specs.declared.Step.{Step}
use Rattle.words.specs.View.{view}
use Rattle.words.specs.WellFormed.{well_formed}
use Rattle.listing.specs.Write.{Wrote}
use Rattle.listing.specs.Record.{record_text, refused_text}
use Rattle.listing.specs.declared.Record.{Record}
use Rattle.report.specs.Report.{record_of}
use Rattle.schedule.specs.Parts.{lf, parts, count}
use Rattle.schedule.specs.Schedule.{check_of, steps_of, schedule_steps}
use Rattle.schedule.specs.declared.Refused.{Refused}
use Rattle.run.specs.Listing.{records, lines, refused_in, listing}
use Rattle.run.specs.declared.Ran.{Ran}
use Rattle.run.specs.declared.Turn.{Turn}

-- the answer, the line that goes with it, and the text that is written
pub record Outcome : Type 0 where
  pub no : ℕ
  pub line : ℕ
  pub text : List ℕ

-- what is refused writes nothing
abbrev pub refused : ℕ → ℕ → Outcome
refused k line = record { no = k; line = line; text = [] }

-- what is done writes a text
abbrev pub done : List ℕ → Outcome
done text = record { no = 0; line = 0; text = text }

-- the longest schedule
abbrev pub longest : ℕ
longest = 12288

-- a schedule that is good: 11, no room for its lines; else the text of its setup and its steps
unfoldable pub checked : Result Setup Refused → ℕ → (Setup → List Step → List ℕ) → List ℕ → ℕ → Outcome
checked (Err r) line_room text schedule room = refused (number r.refusal) r.line
checked (Ok setup) line_room text schedule room = cond (ltb room (line_room * count lf schedule)) (refused 11 0) (done (text setup (schedule_steps schedule)))

-- what is answered, where each line needs so much room and a good schedule is written as `text`: 12; then 9 and 10 by line; then 11: all are found before the first step
unfoldable pub outcome_of : ℕ → (Setup → List Step → List ℕ) → List ℕ → ℕ → Outcome
outcome_of line_room text schedule room = cond (ltb longest (length schedule)) (refused 12 0) (checked (check_of schedule) line_room text schedule room)

-- a run's room for each line of the schedule, whatever the budget
abbrev pub line_room : ℕ
line_room = 32

-- a run writes the listing of the steps on a fresh table
abbrev pub run_of : List ℕ → ℕ → ℕ → Outcome
run_of schedule budget room = outcome_of line_room (λ setup steps. listing (records 1 budget (fresh setup.benches setup.capacity setup.start) steps)) schedule room

-- an answer's number for no, the line that goes with it and the bytes written: those that it doesn't have are 0
abbrev pub no_in : Result ℕ Refused → ℕ
no_in (Ok bytes) = 0
no_in (Err r) = number r.refusal

abbrev pub line_in : Result ℕ Refused → ℕ
line_in (Ok bytes) = 0
line_in (Err r) = r.line

abbrev pub bytes_in : Result ℕ Refused → ℕ
bytes_in (Ok bytes) = bytes
bytes_in (Err r) = 0

-- what is answered, and what is left in the output that was lent
pub record Answers (o : Outcome) (a : Result ℕ Refused) (before after : List ℕ) : Type 0 where
  pub no : no_in a ≡ o.no
  pub line : line_in a ≡ o.line
  pub wrote : Wrote o.text (bytes_in a) before after

-- what a program prints of an outcome: its text, or the line that says why it was refused
abbrev pub shown : Outcome → List ℕ
shown o = cond (eqb o.no 0) o.text (refused_text o.no o.line)

-- ---- what inner functions promise

-- the steps of the lines of a text
abbrev pub steps_in : List ℕ → List Step
steps_in lines = steps_of (parts lf lines)

-- a schedule that is refused: whatever text would be written of it
abbrev pub Refuses : ℕ → List ℕ → ℕ → Refused → Type 0
Refuses line_room schedule room r = (text : Setup → List Step → List ℕ) → outcome_of line_room text schedule room ≡ refused (number r.refusal) r.line

-- one that is done: whatever is written of it is of this setup and the steps of these lines, and there is room for them and one line more
pub record Admits (line_room : ℕ) (schedule : List ℕ) (room : ℕ) (setup : Setup) (lines : List ℕ) : Type 0 where
  pub outcome : (text : Setup → List Step → List ℕ) → outcome_of line_room text schedule room ≡ done (text setup (steps_in lines))
  pub sizes : sizes_ok setup.benches setup.capacity ≡ true
  pub short : length lines ≤ longest
  pub roomy : line_room * (count lf lines + 1) ≤ room

-- one step, the k-th: the words t become u, and its record is written
pub record Turned (t : List ℕ) (k : ℕ) (x : Step) (r : Turn) (u before after : List ℕ) : Type 0 where
  pub answered : answer_number r.answer ≡ answer (view t) x
  pub read : view u ≡ next (view t) x
  pub formed : well_formed u ≡ true
  pub wrote : Wrote (record_text (record_of k (answer (view t) x) x (next (view t) x))) r.bytes before after
  -- within the room for a line
  pub short : r.bytes ≤ line_room

-- the steps' lines are written: so many taken, so many refused
pub record RanAs (rs : List Record) (r : Ran) (before after : List ℕ) : Type 0 where
  pub taken : r.taken ≡ length rs
  pub refusals : r.refused ≡ refused_in rs
  pub wrote : Wrote (lines rs) r.bytes before after
