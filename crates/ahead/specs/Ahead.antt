-- In every table reached from a fresh one a bench's own count is at most its clock. So 8 by a count is never what refuses there:
-- the answers and the table are those of the rules without counts.
use Rattle.std.specs.Prelude.{ℕ, ◌≤◌, ◌≡◌, List}
use Rattle.lamport.specs.Table.{fresh}
use Rattle.lamport.specs.Refusals.{answer, answers, after}
use Rattle.lamport.specs.Counted.{Counted, counted_fresh, counted_answer, counted_answers, counted_after}
use Rattle.lamport.specs.declared.Step.{Step}

-- each bench's own count is at most its clock
abbrev pub Ahead : Counted → Type 0
Ahead s = (p : ℕ) → s.counts p p ≤ s.table.clock p

-- after the steps ks from a fresh table
pub record NeverDecides (n capacity start : ℕ) (ks : List Step) : Type 0 where
  pub ahead : Ahead (counted_after (counted_fresh n capacity start) ks)
  pub table : (counted_after (counted_fresh n capacity start) ks).table ≡ after (fresh n capacity start) ks
  pub answered : counted_answers (counted_fresh n capacity start) ks ≡ answers (fresh n capacity start) ks
  -- also to one more step, whichever it is
  pub next : (k : Step) → counted_answer (counted_after (counted_fresh n capacity start) ks) k ≡ answer (after (fresh n capacity start) ks) k

abbrev pub CountsNeverDecide : Type 0
CountsNeverDecide = (n capacity start : ℕ) (ks : List Step) → NeverDecides n capacity start ks
