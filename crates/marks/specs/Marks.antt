-- The readings of a whole schedule: what is answered, and what is written.
use Rattle.std.specs.Prelude.{ℕ, List}
use Rattle.lamport.specs.Counted.{counted_fresh}
use Rattle.run.specs.Run.{Outcome, outcome_of}
use Rattle.marks.specs.Reading.{readings_of}

-- the room for each line of the schedule, whichever lines are marks
abbrev pub line_room : ℕ
line_room = 128

-- the readings of the steps on a fresh table with counts
abbrev pub marks_of : List ℕ → ℕ → Outcome
marks_of schedule room = outcome_of line_room (λ setup steps. readings_of 1 (counted_fresh setup.benches setup.capacity setup.start) steps) schedule room
