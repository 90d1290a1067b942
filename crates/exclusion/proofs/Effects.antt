-- Effects: what a step that is done changes, by readings alone. The invariants ask no more of the rules than this.
use mathlib.Core.Path.{◌≡◌}
use mathlib.Core.Logic.{◌≢◌}
use mathlib.Core.List.{List, ◌∷◌, ◌++◌}
use Prim.Native.Nat.{ℕ, ◌≤◌, ◌<◌, max}
use Rattle.lamport.specs.declared.Message.{Message}
use Rattle.lamport.proofs.Readings.{Other}
use Rattle.lamport.specs.Order.{limit, lc1, clock_after, entry_after}
use Rattle.lamport.specs.Table.{Table}
use Rattle.lamport.specs.Steps.{replies}

-- two different benches of n
pub record Two (n a b : ℕ) : Type 0 where
  pub left : a < n
  pub right : b < n
  pub apart : a ≢ b

-- bench p acts by itself; ph and o are its phase and its own entry afterwards, and out is sent to every other bench
pub record Acts (n : ℕ) (s s' : Table) (p ph o : ℕ) (out : List Message) : Type 0 where
  pub size : s'.benches ≡ s.benches
  pub fits : lc1 (s.clock p) ≤ limit
  pub clock-own : s'.clock p ≡ lc1 (s.clock p)
  pub clock-else : (a : ℕ) → a < n → a ≢ p → s'.clock a ≡ s.clock a
  pub phase-own : s'.phase p ≡ ph
  pub phase-else : (a : ℕ) → a < n → a ≢ p → s'.phase a ≡ s.phase a
  pub entry-own : s'.entry p p ≡ o
  pub entry-else : (a : ℕ) → a < n → a ≢ p → s'.entry a a ≡ s.entry a a
  pub entry-cross : (a b : ℕ) → Two n a b → s'.entry a b ≡ s.entry a b
  pub heard-cross : (a b : ℕ) → Two n a b → s'.heard a b ≡ s.heard a b
  pub chan-own : (b : ℕ) → Two n p b → s'.messages p b ≡ s.messages p b ++ out
  pub chan-else : (a b : ℕ) → Two n a b → a ≢ p → s'.messages a b ≡ s.messages a b

-- bench q takes m, the oldest message from p
pub record Carries (n : ℕ) (s s' : Table) (p q : ℕ) (m : Message) (rest : List Message) : Type 0 where
  pub size : s'.benches ≡ s.benches
  pub fits : s'.clock q ≤ limit
  pub two : Two n p q
  pub took : s.messages p q ≡ m ∷ rest
  pub left : s'.messages p q ≡ rest
  pub replied : s'.messages q p ≡ s.messages q p ++ replies m.kind (s'.clock q)
  pub chan-else : (a b : ℕ) → Two n a b → Other a b p q → Other a b q p → s'.messages a b ≡ s.messages a b
  pub clock-own : s'.clock q ≡ clock_after (s.clock q) m
  pub clock-else : (a : ℕ) → a < n → a ≢ q → s'.clock a ≡ s.clock a
  pub phase-all : (a : ℕ) → a < n → s'.phase a ≡ s.phase a
  pub entry-own : s'.entry q p ≡ entry_after m.kind m.stamp (s.entry q p)
  pub entry-self : (a : ℕ) → a < n → s'.entry a a ≡ s.entry a a
  pub entry-else : (a b : ℕ) → Two n a b → Other a b q p → s'.entry a b ≡ s.entry a b
  pub heard-own : s'.heard q p ≡ max (s.heard q p) m.stamp
  pub heard-else : (a b : ℕ) → Two n a b → Other a b q p → s'.heard a b ≡ s.heard a b
