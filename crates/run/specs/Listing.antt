-- The listing of a run: one line for each step taken, and the last line.
use Rattle.std.specs.Prelude.{ℕ, zero, suc, ◌+◌, cond, List, [], ◌∷◌, ◌++◌, eqb, length}
use Rattle.lamport.specs.Table.{Table}
use Rattle.lamport.specs.Refusals.{answer, next}
use Rattle.lamport.specs.declared.Step.{Step}
use Rattle.listing.specs.Record.{record_text, end_text}
use Rattle.listing.specs.declared.Record.{Record}
use Rattle.report.specs.Report.{record_of}

-- the records of the steps taken, the first of which is the k-th: so many as the budget, or all. Refused steps count, and the run goes on
unfoldable pub records : ℕ → ℕ → Table → List Step → List Record
records k zero s xs = []
records k (suc budget) s [] = []
records k (suc budget) s (x ∷ xs) = record_of k (answer s x) x (next s x) ∷ records (suc k) budget (next s x) xs

-- their lines, one after the other
unfoldable pub lines : List Record → List ℕ
lines [] = []
lines (r ∷ rs) = record_text r ++ lines rs

-- 1 for a step that was refused
abbrev pub refused_one : ℕ → ℕ
refused_one answer = cond (eqb answer 0) 0 1

-- how many of them were refused
unfoldable pub refused_in : List Record → ℕ
refused_in [] = 0
refused_in (r ∷ rs) = refused_one r.answer + refused_in rs

-- the last line is `end`, steps taken, steps refused
unfoldable pub listing : List Record → List ℕ
listing rs = lines rs ++ end_text (length rs) (refused_in rs)
