-- The readings: one line for each mark that is done.
use Rattle.std.specs.Prelude.{ℕ, suc, cond, List, [], ◌∷◌, ◌++◌, Option, Some, None, eqb}
use Rattle.lamport.specs.Counted.{Counted, counted_answer, counted_next}
use Rattle.lamport.specs.declared.Step.{Step}
use Rattle.lamport.specs.declared.Step.TheVariants.{Ask, Carry, Enter, Leave, Mark}
use Rattle.words.specs.View.{listed}
use Rattle.listing.specs.Record.{lf, fields}

-- the fields of a line: the step's number, its bench, the bench's clock, and n counts
abbrev pub cells : ℕ → ℕ → ℕ → (ℕ → ℕ) → ℕ → List (Option ℕ)
cells k p clock counts n = Some k ∷ Some p ∷ Some clock ∷ listed (λ q. Some (counts q)) n

-- the line of bench p after the k-th step, which left the table s: a count for each bench of the table
unfoldable pub reading_text : ℕ → ℕ → Counted → List ℕ
reading_text k p s = fields (cells k p (s.table.clock p) (s.counts p) s.table.benches) lf

-- the bench of a mark that is done: the answer is 0
abbrev pub marked : ℕ → Step → Option ℕ
marked answer (Ask p) = None
marked answer (Carry p q) = None
marked answer (Enter p) = None
marked answer (Leave p) = None
marked answer (Mark p) = cond (eqb answer 0) (Some p) None

-- the line of that bench; where there is none, nothing
abbrev pub reading_if : ℕ → Option ℕ → Counted → List ℕ
reading_if k None s = []
reading_if k (Some p) s = reading_text k p s

-- what the k-th step adds, with the readings of the table after it
unfoldable pub reading_of : ℕ → Counted → Step → List ℕ
reading_of k s x = reading_if k (marked (counted_answer s x) x) (counted_next s x)

-- the lines of some steps, the first of which is the k-th. Refused steps count
unfoldable pub readings_of : ℕ → Counted → List Step → List ℕ
readings_of k s [] = []
readings_of k s (x ∷ xs) = reading_of k s x ++ readings_of (suc k) (counted_next s x) xs
