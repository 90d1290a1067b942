-- Shown: the counts of a step's last event are what the table then shows of its bench.
use mathlib.Core.Path.{◌≡◌, refl}
use borrow.Author.Tests.{eq-eqb}
use mathlib.Core.List.{◌∷◌}
use Prim.Native.Nat.{ℕ}
use Rattle.lamport.specs.declared.Kind.{Kind}
use Rattle.lamport.specs.declared.Kind.TheVariants.{Request, Ack, Release}
use Rattle.lamport.specs.declared.Step.{Step}
use Rattle.lamport.specs.declared.Step.TheVariants.{Ask, Carry, Enter, Leave, Mark}
use Rattle.lamport.specs.Steps.{actor, first}
use Rattle.lamport.specs.Vectors.{vc2, counts_after, first_counts}
use Rattle.lamport.specs.Counted.{Counted, counts_then, counted_done, counted_answer, counted_next}
use Rattle.causal.specs.Events.{stamped, receives, acknowledges, second, events_of}
use Rattle.causal.specs.Told.{LastHas, CountsShown}

-- of a step that is done
shown : (s : Counted) (k : Step) → counted_answer s k ≡ 0 → (counted_next s k).counts (actor k) ≡ counts_then s k
unfolding counted_next counted_done
shown s k z = rw (eq-eqb (counted_answer s k) 0 z, eq-eqb (actor k) (actor k) refl)

-- the last of its events has them
last-has : (s : Counted) (k : Step) → LastHas (events_of s k) (counts_then s k)
last-has s (Ask p) = refl
last-has s (Carry p q) = go (first (s.table.messages p q)).kind
  where
    v : ℕ → ℕ
    v = first_counts (s.brought p q)

    go : (k : Kind)
        → LastHas (stamped q (receives p) (vc2 q (s.counts q) v) ∷ second k (stamped q (acknowledges p) (counts_after k q (s.counts q) v))) (counts_after k q (s.counts q) v)
    go Request = refl
    go Ack = refl
    go Release = refl
last-has s (Enter p) = refl
last-has s (Leave p) = refl
last-has s (Mark p) = refl

pub counts-shown : CountsShown
counts-shown s k z = rw (shown s k z) (last-has s k)
