-- What a step stores in the rows of counts.
use Rattle.std.specs.Prelude.{ℕ, ◌+◌, ◌-◌, cond, List, eqb, set}
use Rattle.lamport.specs.Each.{up_to}
use Rattle.lamport.specs.Vectors.{vc1, vc2, counts_in}
use Rattle.lamport.specs.Steps.{first}
use Rattle.lamport.specs.declared.Kind.{Kind}
use Rattle.lamport.specs.declared.Kind.TheVariants.{Request, Ack, Release}
use Rattle.lamport.specs.declared.Step.{Step}
use Rattle.lamport.specs.declared.Step.TheVariants.{Ask, Carry, Enter, Leave, Mark}
use Rattle.words.specs.Places.{chan, benches, count}
use Rattle.words.specs.View.{view}
use Rattle.vectors.specs.Rows.{slot_row, row, row_of, zeros}

-- VC1 for bench p
unfoldable pub ticked : List (List ℕ) → ℕ → List (List ℕ)
ticked r p = set r p (row_of (vc1 p (counts_in (row r p))))

-- VC2 for bench q, of the oldest message on channel c
unfoldable pub merged : List (List ℕ) → ℕ → ℕ → List (List ℕ)
merged r q c = set r q (row_of (vc2 q (counts_in (row r q)) (counts_in (row r (slot_row c 0)))))

-- the message in slot i of channel c brings bench p's counts
unfoldable pub attached : List (List ℕ) → ℕ → ℕ → ℕ → List (List ℕ)
attached r p c i = set r (slot_row c i) (row r p)

-- the message that joins p's channel to q brings p's counts, unless these are the same bench; t are the table's words before the step
unfoldable pub attached_to : List ℕ → ℕ → ℕ → List (List ℕ) → List (List ℕ)
attached_to t p q r = cond (eqb q p) r (attached r p (chan p q) (count t (chan p q)))

-- p's counts go with a message to every other bench
unfoldable pub sent_counts : List ℕ → List (List ℕ) → ℕ → List (List ℕ)
sent_counts t r p = up_to (attached_to t p) (benches t) (ticked r p)

-- slot i of channel c takes what stands in the slot behind it
unfoldable pub moved_row : ℕ → ℕ → List (List ℕ) → List (List ℕ)
moved_row c i r = set r (slot_row c i) (row r (slot_row c (i + 1)))

-- the oldest of k messages is taken off channel c: the others move up by one, and the last slot is unused
unfoldable pub taken_off : List (List ℕ) → ℕ → ℕ → List (List ℕ)
taken_off r c k = set (up_to (moved_row c) (k - 1) r) (slot_row c (k - 1)) zeros

-- a request is acknowledged, which is an event of its own
unfoldable pub answered : List ℕ → List (List ℕ) → ℕ → ℕ → Kind → List (List ℕ)
answered t r p q Request = attached (ticked r q) q (chan q p) (count t (chan q p))
answered t r p q Ack = r
answered t r p q Release = r

-- bench q takes the oldest message from p
unfoldable pub carried_counts : List ℕ → List (List ℕ) → ℕ → ℕ → List (List ℕ)
carried_counts t r p q =
    answered t (taken_off (merged r q (chan p q)) (chan p q) (count t (chan p q))) p q (first ((view t).messages p q)).kind

-- what a step that is done stores
unfoldable pub stored_counts : List ℕ → List (List ℕ) → Step → List (List ℕ)
stored_counts t r (Ask p) = sent_counts t r p
stored_counts t r (Carry p q) = carried_counts t r p q
stored_counts t r (Enter p) = ticked r p
stored_counts t r (Leave p) = sent_counts t r p
stored_counts t r (Mark p) = ticked r p
