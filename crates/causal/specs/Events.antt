-- The events of a list of steps: where, and what. There is no stamp and no count in an event.
use Rattle.std.specs.Prelude.{ℕ, cond, List, [], ◌∷◌, ◌++◌, eqb}
use Rattle.lamport.specs.Steps.{first}
use Rattle.lamport.specs.Vectors.{vc2, first_counts}
use Rattle.lamport.specs.Counted.{Counted, counts_then, counted_answer, counted_next}
use Rattle.lamport.specs.declared.Kind.{Kind}
use Rattle.lamport.specs.declared.Kind.TheVariants.{Request, Ack, Release}
use Rattle.lamport.specs.declared.Step.{Step}
use Rattle.lamport.specs.declared.Step.TheVariants.{Ask, Carry, Enter, Leave, Mark}

pub data Act : Type 0 where
  -- enter, mark
  alone : Act
  -- ask, leave: a message to every other bench
  tells : Act
  -- the oldest message from that bench is received
  receives : ℕ → Act
  -- an acknowledgement to that bench is sent
  acknowledges : ℕ → Act

pub record Event : Type 0 where
  pub bench : ℕ
  pub act : Act

-- an event with the counts of its bench then
pub record Stamped : Type 0 where
  pub event : Event
  pub counts : ℕ → ℕ

abbrev pub stamped : ℕ → Act → (ℕ → ℕ) → Stamped
stamped p act counts = record { event = record { bench = p; act = act }; counts = counts }

-- a carried request is acknowledged: a second event of the receiver
abbrev pub second : Kind → Stamped → List Stamped
second Request e = e ∷ []
second Ack e = []
second Release e = []

-- the events of a step that is done: one at its bench, of a carry at the receiver; of a carried request two, the receipt and the acknowledgement.
-- The receipt of a request has counts that no table shows: those of the acknowledgement, but with the own count one less
abbrev pub events_of : Counted → Step → List Stamped
events_of s (Ask p) = stamped p tells (counts_then s (Ask p)) ∷ []
events_of s (Carry p q) =
    stamped q (receives p) (vc2 q (s.counts q) (first_counts (s.brought p q)))
    ∷ second (first (s.table.messages p q)).kind (stamped q (acknowledges p) (counts_then s (Carry p q)))
events_of s (Enter p) = stamped p alone (counts_then s (Enter p)) ∷ []
events_of s (Leave p) = stamped p tells (counts_then s (Leave p)) ∷ []
events_of s (Mark p) = stamped p alone (counts_then s (Mark p)) ∷ []

-- the events of a list of steps, one after the other: those of its steps that are answered 0
abbrev pub events : Counted → List Step → List Stamped
events s [] = []
events s (k ∷ ks) = cond (eqb (counted_answer s k) 0) (events_of s k) [] ++ events (counted_next s k) ks
