-- Happened before, by the paper's three clauses. It looks at events alone, which have no stamp and no count.
use Rattle.std.specs.Prelude.{ℕ, zero, suc, ◌+◌, ◌<◌, ◌≡◌, Bool, true, false, cond, not, ◌&&◌, ltb, eqb}
use Rattle.causal.specs.Events.{Act, alone, tells, receives, acknowledges, Event}

-- of n benches: by this act bench p sends a message to q
abbrev pub goes_to : ℕ → ℕ → ℕ → Act → Bool
goes_to n p q alone = false
goes_to n p q tells = not (eqb q p) && ltb q n
goes_to n p q (receives r) = false
goes_to n p q (acknowledges r) = eqb q r

-- by this act a message from p is received
abbrev pub comes_from : ℕ → Act → Bool
comes_from p alone = false
comes_from p tells = false
comes_from p (receives r) = eqb p r
comes_from p (acknowledges r) = false

-- the event is the sending of a message from p to q; it is the receipt of one
abbrev pub sending : ℕ → ℕ → ℕ → Event → Bool
sending n p q e = eqb e.bench p && goes_to n p q e.act

abbrev pub receipt : ℕ → ℕ → Event → Bool
receipt p q e = eqb e.bench q && comes_from p e.act

-- how many of the first i events pass a test
abbrev pub counted : (Event → Bool) → (ℕ → Event) → ℕ → ℕ
counted test event zero = 0
counted test event (suc i) = counted test event i + cond (test (event i)) 1 0

-- event i is the sending of a message, and event j its receipt. Channels are first in, first out:
-- as many messages were sent on that channel before the one as were received on it before the other
pub record SameMessage (n : ℕ) (event : ℕ → Event) (i j : ℕ) : Type 0 where
  pub from : ℕ
  pub to : ℕ
  pub sent : sending n from to (event i) ≡ true
  pub received : receipt from to (event j) ≡ true
  pub in_turn : counted (sending n from to) event i ≡ counted (receipt from to) event j

-- of the first `number` events of n benches: event i happened before event j
pub data HappenedBefore (n number : ℕ) (event : ℕ → Event) : ℕ → ℕ → Type 0 where
  -- in the same bench, and earlier there
  same_bench : (i j : ℕ) → i < j → j < number → (event i).bench ≡ (event j).bench → HappenedBefore n number event i j
  -- the sending of a message, and its receipt
  message : (i j : ℕ) → i < number → j < number → SameMessage n event i j → HappenedBefore n number event i j
  -- by way of a third
  through : (i j k : ℕ) → HappenedBefore n number event i j → HappenedBefore n number event j k → HappenedBefore n number event i k
