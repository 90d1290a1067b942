-- A number with the digits of a field from i on behind it.
use mathlib.Core.Path.{◌≡◌, refl}
use mathlib.Core.List.{List, [], ◌∷◌}
use Prim.Native.Nat.{ℕ, ◌+◌, ◌≤◌, ◌<◌}
use lib.ListN.{length, drop, get_or}
use Rattle.std.specs.Prelude.{Option, None}
use Rattle.std.proofs.lemmas.List.{at_drop_more, at_drop_all}
use Rattle.schedule.specs.Number.{digit_on, grow}

-- what is no number is none with more digits either
pub grow_none : (bs : List ℕ) → grow None bs ≡ None
unfolding grow digit_on
grow_none [] = refl
grow_none (b ∷ bs) = grow_none bs

module _ (n : Option ℕ) (s : List ℕ) (i : ℕ) where
  pub grow_more : i < length s → grow n (drop i s) ≡ grow (digit_on n (get_or s i 0)) (drop (i + 1) s)
  unfolding grow
  grow_more h = at_drop_more (grow n) s i 0 h

  pub grow_done : length s ≤ i → grow n (drop i s) ≡ n
  unfolding grow
  grow_done h = at_drop_all (grow n) s i h

pub ruleset growing = (grow_none, grow_more, grow_done)
