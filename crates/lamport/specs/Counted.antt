-- The larger table: each bench's counts beside the table, and the counts that each message brings. Its steps, and 8 by a count.
use Rattle.std.specs.Prelude.{ℕ, Bool, cond, List, [], ◌∷◌, ◌++◌, ltb, eqb}
use Rattle.lamport.specs.Order.{limit}
use Rattle.lamport.specs.Table.{Table, fresh}
use Rattle.lamport.specs.Steps.{actor, first, rest, at2, sends, done}
use Rattle.lamport.specs.Refusals.{answer}
use Rattle.lamport.specs.Vectors.{vc1, counts_after, first_counts}
use Rattle.lamport.specs.declared.Kind.{Kind}
use Rattle.lamport.specs.declared.Kind.TheVariants.{Request, Ack, Release}
use Rattle.lamport.specs.declared.Step.{Step}
use Rattle.lamport.specs.declared.Step.TheVariants.{Ask, Carry, Enter, Leave, Mark}

pub record Counted : Type 0 where
  pub table : Table
  -- how many events of q bench p has counted
  pub counts : ℕ → ℕ → ℕ
  -- the sender's counts at the sending of each message from p to q, in the order of the messages
  pub brought : ℕ → ℕ → List (ℕ → ℕ)

-- fresh: every count is 0, whatever the start clock
abbrev pub counted_fresh : ℕ → ℕ → ℕ → Counted
counted_fresh n capacity start = record { table = fresh n capacity start; counts = λ p q. 0; brought = λ p q. [] }

-- ---- what a step that is done does to the counts

-- the counts of the step's bench after the step
abbrev pub counts_then : Counted → Step → ℕ → ℕ
counts_then s (Ask p) = vc1 p (s.counts p)
counts_then s (Carry p q) = counts_after (first (s.table.messages p q)).kind q (s.counts q) (first_counts (s.brought p q))
counts_then s (Enter p) = vc1 p (s.counts p)
counts_then s (Leave p) = vc1 p (s.counts p)
counts_then s (Mark p) = vc1 p (s.counts p)

-- a request's acknowledgement brings the receiver's counts after both events
abbrev pub brought_back : Kind → (ℕ → ℕ) → List (ℕ → ℕ)
brought_back Request v = v ∷ []
brought_back Ack v = []
brought_back Release v = []

-- each message brings its sender's counts at the sending; a message that is taken takes its counts with it
abbrev pub brought_then : Counted → Step → ℕ → ℕ → List (ℕ → ℕ)
brought_then s (Ask p) = sends s.table.benches s.brought p (counts_then s (Ask p) ∷ [])
brought_then s (Carry p q) =
    at2 (at2 s.brought p q (rest (s.brought p q))) q p (s.brought q p ++ brought_back (first (s.table.messages p q)).kind (counts_then s (Carry p q)))
brought_then s (Enter p) = s.brought
brought_then s (Leave p) = sends s.table.benches s.brought p (counts_then s (Leave p) ∷ [])
brought_then s (Mark p) = s.brought

unfoldable pub counted_done : Counted → Step → Counted
counted_done s k =
    record {
      table = done s.table k;
      counts = λ a. cond (eqb a (actor k)) (counts_then s k) (s.counts a);
      brought = brought_then s k;
    }

-- ---- the answers

-- a count would pass the limit: only the own count of the step's bench is raised past those that there are
abbrev pub count_spent : Counted → Step → Bool
count_spent s k = ltb limit (counts_then s k (actor k))

-- the numbers for no as they are, and 8 also by a count: the last, so where none applies but for it
unfoldable pub counted_answer : Counted → Step → ℕ
counted_answer s k = cond (eqb (answer s.table k) 0) (cond (count_spent s k) 8 0) (answer s.table k)

-- a refusal returns the table given
unfoldable pub counted_next : Counted → Step → Counted
counted_next s k = cond (eqb (counted_answer s k) 0) (counted_done s k) s

-- the answers to a list of steps, and the table after it
abbrev pub counted_answers : Counted → List Step → List ℕ
counted_answers s [] = []
counted_answers s (k ∷ ks) = counted_answer s k ∷ counted_answers (counted_next s k) ks

abbrev pub counted_after : Counted → List Step → Counted
counted_after s [] = s
counted_after s (k ∷ ks) = counted_after (counted_next s k) ks
