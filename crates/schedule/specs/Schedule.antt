-- Which schedule is good, and its steps. A refusal has its reason, bad sizes or a bad line, and the line's number, from 1.
use Rattle.std.specs.Prelude.{cond, List, [], ◌∷◌, ℕ, suc, ◌*◌, ◌≤◌, ◌≡◌, Option, Some, None, Result, Ok, Err, length, drop, eqb}
use Rattle.lamport.specs.Table.{sizes_ok}
use Rattle.lamport.specs.declared.Refusal.TheVariants.{BadSizes, BadLine}
use Rattle.lamport.specs.declared.Setup.{Setup}
use Rattle.lamport.specs.declared.Step.{Step}
use Rattle.schedule.specs.Parts.{lf, parts, count}
use Rattle.schedule.specs.Lines.{line_of}
use Rattle.schedule.specs.declared.Line.{Line}
use Rattle.schedule.specs.declared.Line.TheVariants as L
use Rattle.schedule.specs.declared.Checked.{Checked}
use Rattle.schedule.specs.declared.Refused.{Refused}

-- what f makes of the step that a line is, and `other` where it is none
unfoldable pub if_step : {A : Type 0} → Option Line → (Step → A) → A → A
if_step (Some (L.Header setup)) f other = other
if_step (Some (L.Step x)) f other = f x
if_step None f other = other

-- line k is bad
abbrev pub bad_line : {A : Type 0} → ℕ → Result A Refused
bad_line k = Err (record { refusal = BadLine; line = k })

-- the sizes in the header are bad
abbrev pub bad_sizes : {A : Type 0} → Result A Refused
bad_sizes = Err (record { refusal = BadSizes; line = 1 })

-- the lines after the header, the first of which has the number k: the earliest that is no step is refused.
-- Lines end in LF, the last included: what follows the last LF is empty.
unfoldable pub check_steps : {A : Type 0} → Result A Refused → ℕ → List (List ℕ) → Result A Refused
check_steps good k [] = good
check_steps good k (l ∷ []) = cond (eqb (length l) 0) good (bad_line k)
check_steps good k (l ∷ m ∷ ls) = if_step (line_of l) (λ x. check_steps good (suc k) (m ∷ ls)) (bad_line k)

-- the header, and the lines after it: a bad line before bad sizes in the header
unfoldable pub check_header : Option Line → List (List ℕ) → Result Setup Refused
check_header (Some (L.Header setup)) ls = cond (sizes_ok setup.benches setup.capacity) (check_steps (Ok setup) 2 ls) bad_sizes
check_header (Some (L.Step x)) ls = bad_line 1
check_header None ls = bad_line 1

-- an empty file is bad at line 1, and so is a first line with no LF
unfoldable pub check_lines : List (List ℕ) → Result Setup Refused
check_lines [] = bad_line 1
check_lines (h ∷ []) = bad_line 1
check_lines (h ∷ l ∷ ls) = check_header (line_of h) (l ∷ ls)

-- a schedule, by its lines
unfoldable pub check_of : List ℕ → Result Setup Refused
check_of s = check_lines (parts lf s)

-- each line of a good schedule has six bytes at least, its LF among them
abbrev pub SixBytes : Type 0
SixBytes = (s : List ℕ) (setup : Setup) → check_of s ≡ Ok setup → 6 * count lf s ≤ length s

-- of a schedule that was checked the table that it asks for, or the refusal
abbrev pub setup_in : Result Checked Refused → Result Setup Refused
setup_in (Ok c) = Ok c.setup
setup_in (Err r) = Err r

-- a line's step in front of the steps after it; a line that is no step ends them
abbrev pub on_step : Option Line → List Step → List Step
on_step l rest = if_step l (λ x. x ∷ rest) []

-- the steps of some lines, up to the first that is none
unfoldable pub steps_of : List (List ℕ) → List Step
steps_of [] = []
steps_of (l ∷ []) = []
steps_of (l ∷ m ∷ ls) = on_step (line_of l) (steps_of (m ∷ ls))

-- the steps of a schedule: those of the lines after its header
unfoldable pub schedule_steps : List ℕ → List Step
schedule_steps s = steps_of (drop 1 (parts lf s))
