-- The comparison by two tests: whether no count of the one is larger, and no count of the other.
use Prim.Native.Nat.{ℕ, zero, suc, ◌<◌, ◌≤◌}
use native.Mathlib.Omega.{arith}
use native.Mathlib.Decide.{dec_lt}
use mathlib.Core.Path.{◌≡◌, refl}
use mathlib.Core.Bool.{Bool, true, false, cond, not, ◌&&◌, ◌||◌}
use borrow.Author.Tests.{lt-ltb, le-ltb, le-leb, lt-leb, eq-eqb, ne_eqb}
use lib.Dec.{ltb, leb, eqb}
use Rattle.lamport.specs.Each.{some_below, all_below}
use Rattle.stamps.specs.Compare.{none_larger, some_smaller, alike, comparison}
use Rattle.stamps.specs.declared.Comparison.TheVariants.{Before, After, Same, Neither}

-- x is at most y exactly if y isn't smaller
not-smaller : (x y : ℕ) → leb x y ≡ not (ltb y x)
not-smaller x y = go (dec_lt y x)
  where
    go : Dec (y < x) → leb x y ≡ not (ltb y x)
    go (yes l) = rw (lt-leb x y l, lt-ltb y x l)
    go (no nl) = let l : x ≤ y = omega arith in rw (le-leb x y l, le-ltb y x l)

both-ways : (x y : ℕ) → eqb x y ≡ (leb x y && leb y x)
both-ways x y = go (dec_lt x y) (dec_lt y x)
  where
    go : Dec (x < y) → Dec (y < x) → eqb x y ≡ (leb x y && leb y x)
    go (yes l) m = let ne : x ≡ y → ⊥ = omega arith in let k : x ≤ y = omega arith in rw (ne_eqb x y ne, lt-leb y x l, le-leb x y k)
    go (no nl) (yes m) = let ne : x ≡ y → ⊥ = omega arith in rw (ne_eqb x y ne, lt-leb x y m)
    go (no nl) (no nm) = let e : x ≡ y = omega arith in let k : x ≤ y = omega arith in let l : y ≤ x = omega arith in rw (eq-eqb x y e, le-leb x y k, le-leb y x l)

module _ (v w : ℕ → ℕ) where
  -- no count of w is larger exactly if none of v is smaller
  none-some : (n : ℕ) → all_below (λ a. leb (w a) (v a)) n ≡ not (some_below (λ a. ltb (v a) (w a)) n)
  unfolding all_below some_below
  none-some zero = refl
  none-some (suc n) = rw (none-some n, not-smaller (w n) (v n)) (go (some_below (λ a. ltb (v a) (w a)) n) (ltb (v n) (w n)))
    where
      go : (a b : Bool) → (not a && not b) ≡ not (a || b)
      go true b = refl
      go false b = refl

  all-alike : (n : ℕ) → all_below (λ a. eqb (v a) (w a)) n ≡ (all_below (λ a. leb (v a) (w a)) n && all_below (λ a. leb (w a) (v a)) n)
  unfolding all_below
  all-alike zero = refl
  all-alike (suc n) = rw (all-alike n, both-ways (v n) (w n)) (go (all_below (λ a. leb (v a) (w a)) n) (all_below (λ a. leb (w a) (v a)) n) (leb (v n) (w n)) (leb (w n) (v n)))
    where
      go : (a b c d : Bool) → ((a && b) && (c && d)) ≡ ((a && c) && (b && d))
      go true true c d = refl
      go true false true d = refl
      go true false false d = refl
      go false b c d = refl

  some-none : some_smaller v w ≡ not (none_larger w v)
  unfolding some_smaller none_larger
  some-none = rw (none-some 8) (go (some_below (λ a. ltb (v a) (w a)) 8))
    where
      go : (b : Bool) → b ≡ not (not b)
      go true = refl
      go false = refl

  alike-none : alike v w ≡ (none_larger v w && none_larger w v)
  unfolding alike none_larger
  alike-none = all-alike 8

-- what is said, by the two tests
pub by-tests : (v w : ℕ → ℕ) (x y : Bool) → x ≡ none_larger v w → y ≡ none_larger w v
    → comparison v w ≡ cond (x && not y) Before (cond (y && not x) After (cond (x && y) Same Neither))
unfolding comparison
by-tests v w x y e f = rw (some-none v w, some-none w v, alike-none v w, ← e, ← f) refl
