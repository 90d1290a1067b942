-- Turn: what one event does to the counts of the benches and to the counts that messages bring, by readings alone.
use mathlib.Core.Path.{◌≡◌}
use mathlib.Core.Logic.{◌≢◌, ◌⊎◌}
use mathlib.Core.Bool.{true, false}
use mathlib.Core.List.{List, [], ◌∷◌, ◌++◌}
use Prim.Native.Nat.{ℕ, ◌+◌, ◌≤◌, ◌<◌}
use Rattle.lamport.specs.Counted.{Counted}
use Rattle.causal.specs.Events.{Stamped}
use Rattle.causal.specs.Happened.{sending, receipt}

-- what event e does to the channel from p to q: from xs to ys
pub data Passes (n : ℕ) (e : Stamped) (p q : ℕ) (xs ys : List (ℕ → ℕ)) : Type 0 where
  quiet : sending n p q e.event ≡ false → receipt p q e.event ≡ false → ys ≡ xs → Passes n e p q xs ys
  -- a message brings the counts of its sending
  put : sending n p q e.event ≡ true → receipt p q e.event ≡ false → ys ≡ xs ++ e.counts ∷ [] → Passes n e p q xs ys
  -- a receipt counts no less than the message brings
  got : (x : ℕ → ℕ) → sending n p q e.event ≡ false → receipt p q e.event ≡ true → xs ≡ x ∷ ys
      → ((a : ℕ) → a ≢ e.event.bench → x a ≤ e.counts a) → Passes n e p q xs ys

-- event e is the receipt of a message that brings all that e counts of bench a
pub record Brings (e : Stamped) (s : Counted) (a : ℕ) : Type 0 where
  pub from : ℕ
  pub received : receipt from e.event.bench e.event ≡ true
  pub brought : (x : ℕ → ℕ) (xs : List (ℕ → ℕ)) → s.brought from e.event.bench ≡ x ∷ xs → e.counts a ≤ x a

-- event e, of one of n benches, leads from s to s'
pub record Turn (n : ℕ) (e : Stamped) (s s' : Counted) : Type 0 where
  pub there : e.event.bench < n
  -- its bench counts it, and forgets nothing
  pub own : e.counts e.event.bench ≡ s.counts e.event.bench e.event.bench + 1
  pub grown : (a : ℕ) → a ≢ e.event.bench → s.counts e.event.bench a ≤ e.counts a
  -- what it counts of another bench, its bench had counted, or a message brings it
  pub source : (a : ℕ) → a ≢ e.event.bench → (e.counts a ≤ s.counts e.event.bench a) ⊎ Brings e s a
  pub counts-own : (a : ℕ) → s'.counts e.event.bench a ≡ e.counts a
  pub counts-else : (c : ℕ) → c ≢ e.event.bench → (a : ℕ) → s'.counts c a ≡ s.counts c a
  pub passes : (p q : ℕ) → Passes n e p q (s.brought p q) (s'.brought p q)
