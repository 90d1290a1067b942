-- A step on a table that was reached from a fresh one, where counts never decide.
use Rattle.std.specs.Prelude.{ℕ, ◌≡◌}
use Rattle.lamport.specs.Refusals.{answer, next}
use Rattle.lamport.specs.Counted.{counted_next}
use Rattle.lamport.specs.declared.Step.{Step}
use Rattle.words.specs.View.{view}
use Rattle.counted.specs.declared.Lent.{Lent}
use Rattle.counted.specs.Post.{read}

-- the step s on the table t is answered r, and leaves the table u
pub record Advanced (t : Lent) (s : Step) (r : ℕ) (u : Lent) : Type 0 where
  -- the answer and the words are those of the rules without counts
  pub answered : r ≡ answer (view t.words) s
  pub viewed : view u.words ≡ next (view t.words) s
  -- and so are the counts those of the rules with them
  pub counted : read u ≡ counted_next (read t) s
