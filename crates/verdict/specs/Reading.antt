-- What a line of readings says: the counts of its event, one for each bench of the table.
use Rattle.std.specs.Prelude.{Bool, cond, ◌&&◌, List, [], ◌∷◌, ◌++◌, ℕ, ◌+◌, ◌-◌, Option, Some, None, length, replicate, slice_set, ltb, leb}
use Rattle.std.specs.Option.{option_map, option_and_then}
use Rattle.lamport.specs.Table.{within, most_benches}
use Rattle.schedule.specs.Parts.{tab, parts}
use Rattle.schedule.specs.Number.{number_of}
use Rattle.verdict.specs.declared.Numbers.{Numbers}
use Rattle.verdict.specs.declared.Reading.{Reading}

-- the numbers that some fields are; nothing where a field is no number
unfoldable pub numbers_of : List (List ℕ) → Option (List ℕ)
numbers_of [] = Some []
numbers_of (f ∷ fs) = option_and_then (λ x. option_map (λ xs. x ∷ xs) (numbers_of fs)) (number_of f)

-- steps are counted from 1, a table has 1 to 8 benches, and the bench is one of them
abbrev pub sound : ℕ → ℕ → ℕ → Bool
sound step bench benches = ltb 0 step && (ltb bench benches && within 1 benches most_benches)

-- step number, bench and clock, and then a count for each bench of the table
unfoldable pub counts_of : List ℕ → Option (List ℕ)
counts_of [] = None
counts_of (step ∷ []) = None
counts_of (step ∷ bench ∷ []) = None
counts_of (step ∷ bench ∷ clock ∷ counts) = cond (sound step bench (length counts)) (Some counts) None

-- a line, without its LF
unfoldable pub reading_of : List ℕ → Option (List ℕ)
reading_of line = option_and_then counts_of (numbers_of (parts tab line))

-- ---- what inner functions promise

-- so many fields a line has at most
abbrev pub most_fields : ℕ
most_fields = most_benches + 3

-- some numbers in a row of n, with zeros behind them
abbrev pub padded : ℕ → List ℕ → List ℕ
padded n xs = xs ++ replicate (n - length xs) 0

-- a number more, where it is one and there is room
unfoldable pub with_number : Numbers → Option ℕ → Option Numbers
with_number r None = None
with_number r (Some x) = cond (ltb r.many most_fields) (Some (record { many = r.many + 1; all = slice_set r.all r.many x })) None

-- the numbers of a line, of which there are not too many
unfoldable pub numbers_kept : List ℕ → Option Numbers
numbers_kept xs = cond (leb (length xs) most_fields) (Some (record { many = length xs; all = padded most_fields xs })) None

-- the counts of an event
abbrev pub reading_kept : List ℕ → Reading
reading_kept counts = record { benches = length counts; counts = padded most_benches counts }
