-- How the events of two lines of readings compare, or the earliest line that is bad.
use Rattle.std.specs.Prelude.{Bool, true, false, cond, List, [], ◌∷◌, ℕ, Result, Ok, Err, length, eqb}
use Rattle.std.specs.Borrow.{Bor}
use Rattle.std.specs.Option.{option_map_or}
use Rattle.lamport.specs.Vectors.{counts_in}
use Rattle.stamps.specs.Compare.{comparison}
use Rattle.stamps.specs.declared.Comparison.{Comparison}
use Rattle.schedule.specs.Parts.{lf, parts}
use Rattle.schedule.specs.Schedule.{bad_line}
use Rattle.schedule.specs.declared.Refused.{Refused}
use Rattle.verdict.specs.Reading.{reading_of, reading_kept}
use Rattle.verdict.specs.declared.Reading.{Reading}

-- what f makes of the counts of the first line, and of the lines after it; `bad` where no LF ends that line, or it is none of readings
unfoldable pub on_reading : {A : Type 0} → List (List ℕ) → (List ℕ → List (List ℕ) → A) → A → A
on_reading [] f bad = bad
on_reading (l ∷ []) f bad = bad
on_reading (l ∷ m ∷ ls) f bad = option_map_or (λ v. f v (m ∷ ls)) (reading_of l) bad

-- what follows the last LF is empty
unfoldable pub ended : List (List ℕ) → Bool
ended [] = true
ended (l ∷ []) = eqb (length l) 0
ended (l ∷ m ∷ ls) = false

-- the second line is bad where it is of another number of benches than the first, and a third wherever there is one
unfoldable pub compared : List ℕ → List ℕ → List (List ℕ) → Result Comparison Refused
compared v w rest =
    cond (eqb (length w) (length v)) (cond (ended rest) (Ok (comparison (counts_in v) (counts_in w))) (bad_line 3)) (bad_line 2)

unfoldable pub second_line : List ℕ → List (List ℕ) → Result Comparison Refused
second_line v ls = on_reading ls (compared v) (bad_line 2)

-- a text, by its lines
unfoldable pub verdict_of : List ℕ → Result Comparison Refused
verdict_of text = on_reading (parts lf text) second_line (bad_line 1)

-- ---- what inner functions promise

-- a reading, and the lines after it
abbrev pub reading_then : List ℕ → List (List ℕ) → Result (Reading × List (List ℕ)) Refused
reading_then v ls = Ok (reading_kept v, ls)

-- the same of an answer, by the text after the reading
abbrev pub reading_in : Result (Reading × Bor (List ℕ)) Refused → Result (Reading × List (List ℕ)) Refused
reading_in (Ok x) = Ok (x.0, parts lf x.1.now)
reading_in (Err r) = Err r
