-- Which rows of counts are well formed: the counts of absent benches and of unused slots are zero.
use Rattle.std.specs.Prelude.{ℕ, ◌*◌, Bool, cond, ◌&&◌, ◌||◌, List, ltb, eqb, length}
use Rattle.lamport.specs.Each.{all_below}
use Rattle.lamport.specs.Vectors.{counts_in}
use Rattle.words.specs.Places.{most, slots, benches, count}
use Rattle.vectors.specs.Rows.{slot_row, rows, row}

-- a row whose counts are zero but for the first n benches
unfoldable pub zero_from : ℕ → List ℕ → Bool
zero_from n r = eqb (length r) most && all_below (λ a. ltb a n || eqb (counts_in r a) 0) most

-- the row of a bench: where the bench is absent, it is all zero
abbrev pub own_ok : List ℕ → List (List ℕ) → ℕ → Bool
own_ok t r p = zero_from (cond (ltb p (benches t)) (benches t) 0) (row r p)

-- the row of slot i of channel c: where the slot is unused, it is all zero
abbrev pub slot_ok : List ℕ → List (List ℕ) → ℕ → ℕ → Bool
slot_ok t r c i = zero_from (cond (ltb i (count t c)) (benches t) 0) (row r (slot_row c i))

abbrev pub slots_ok : List ℕ → List (List ℕ) → ℕ → Bool
slots_ok t r c = all_below (slot_ok t r c) slots

unfoldable pub counts_ok : List ℕ → List (List ℕ) → Bool
counts_ok t r = eqb (length r) rows && (all_below (own_ok t r) most && all_below (slots_ok t r) (most * most))
