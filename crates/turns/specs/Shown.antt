-- What the program prints.
use Rattle.std.specs.Prelude.{List, ℕ, ◌*◌, ◌≤◌, ◌≡◌, length, Ok}
use Rattle.lamport.specs.declared.Setup.{Setup}
use Rattle.schedule.specs.Schedule.{check_of}
use Rattle.run.specs.Run.{longest, line_room, run_of, shown}

-- its budget of steps, and its room for the listing: that of 2,048 lines, since a line of a good schedule has six bytes at least
abbrev pub budget : ℕ
budget = 65535

abbrev pub room : ℕ
room = line_room * 2048

-- what is printed of an input
abbrev pub printed : List ℕ → List ℕ
printed input = shown (run_of input budget room)

-- a good schedule never lacks room
abbrev pub GoodIsRun : Type 0
GoodIsRun = (input : List ℕ) (setup : Setup) → length input ≤ longest → check_of input ≡ Ok setup → (run_of input budget room).no ≡ 0
