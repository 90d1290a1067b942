-- The counts stand in rows of eight behind a table's words: a row for each bench, then one for each message slot.
use Rattle.std.specs.Prelude.{ℕ, ◌+◌, ◌*◌, cond, List, [], ltb, get_or, replicate}
use Rattle.lamport.specs.Vectors.{counts_in}
use Rattle.lamport.specs.Counted.{Counted}
use Rattle.words.specs.Places.{most, slots, chan, count}
use Rattle.words.specs.View.{listed, two, view}

-- ---- the places

-- the row of bench p is row p; that of slot i of channel c stands behind the benches'
abbrev pub first_slot : ℕ
first_slot = most

abbrev pub slot_row : ℕ → ℕ → ℕ
slot_row c i = first_slot + c * slots + i

-- 1,032 rows in all
abbrev pub rows : ℕ
rows = first_slot + most * most * slots

-- ---- what stands there

abbrev pub row : List (List ℕ) → ℕ → List ℕ
row r i = get_or r i []

-- what bench p has counted of bench a
unfoldable pub counts : List (List ℕ) → ℕ → ℕ → ℕ
counts r p a = cond (ltb p most) (counts_in (row r p) a) 0

-- what the message in slot i of channel c brings
abbrev pub slot_counts : List (List ℕ) → ℕ → ℕ → ℕ → ℕ
slot_counts r c i = counts_in (row r (slot_row c i))

-- the counts that the messages from p to q bring, by the words of their table, which say how many messages there are
unfoldable pub brought : List ℕ → List (List ℕ) → ℕ → ℕ → List (ℕ → ℕ)
brought t r p q = cond (two p q) (listed (slot_counts r (chan p q)) (count t (chan p q))) []

-- the larger table that words and rows stand for
abbrev pub counted : List ℕ → List (List ℕ) → Counted
counted t r = record { table = view t; counts = counts r; brought = brought t r }

-- a row that reads as f
abbrev pub row_of : (ℕ → ℕ) → List ℕ
row_of f = listed f most

abbrev pub zeros : List ℕ
zeros = replicate most 0
