-- What the program prints.
use Rattle.std.specs.Prelude.{List, ℕ, ◌*◌, ◌≤◌, ◌≡◌, length, Ok}
use Rattle.lamport.specs.declared.Setup.{Setup}
use Rattle.schedule.specs.Schedule.{check_of}
use Rattle.run.specs.Run.{longest, shown}
use Rattle.marks.specs.Marks.{line_room, marks_of}

-- its room for the readings: that of 2,048 lines, since a line of a good schedule has six bytes at least
abbrev pub room : ℕ
room = line_room * 2048

-- what is printed of an input
abbrev pub printed : List ℕ → List ℕ
printed input = shown (marks_of input room)

-- a good schedule never lacks room
abbrev pub GoodIsRead : Type 0
GoodIsRead = (input : List ℕ) (setup : Setup) → length input ≤ longest → check_of input ≡ Ok setup → (marks_of input room).no ≡ 0
