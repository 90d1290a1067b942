-- Enough: the entry rule's second clause. These two laws are all that the theory uses of `late_enough`, so that only this file changes with it.
use mathlib.Core.Path.{◌≡◌}
use mathlib.Core.Bool.{true}
use Prim.Native.Nat.{ℕ, ◌≤◌, ◌<◌}
use native.Mathlib.Omega.{arith}
use borrow.Author.Tests.{ltb-true, lt-ltb}
use Rattle.lamport.specs.Order.{late_enough}

-- exclusion and order ask this
pub enough-heard : (p q own heard : ℕ) → late_enough p q own heard ≡ true → own ≤ heard
unfolding late_enough
enough-heard p q own heard t = omega (arith, ltb-true own heard t)

-- progress asks this
pub later-enough : (p q own heard : ℕ) → own < heard → late_enough p q own heard ≡ true
unfolding late_enough
later-enough p q own heard h = lt-ltb own heard h
