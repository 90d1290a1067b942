-- Rows whose counts are zero from a bench on.
use Prim.Native.Nat.{ℕ, ◌<◌, ◌≤◌}
use mathlib.Core.Path.{◌≡◌, refl}
use mathlib.Core.Bool.{Bool}
use mathlib.Core.List.{List}
use borrow.Author.Tests.{lt-ltb, le-ltb}
use Rattle.words.specs.Places.{benches, count}
use Rattle.words.specs.View.{view}
use Rattle.vectors.specs.Rows.{row, slot_row}
use Rattle.vectors.specs.Formed.{zero_from, own_ok, slot_ok}

pub benches-read : (t : List ℕ) → (view t).benches ≡ benches t
unfolding view
benches-read t = refl

-- ---- the test of a row, by whether its bench is present, or its slot used

module _ (t : List ℕ) (r : List (List ℕ)) (b : Bool) where
  pub own_present : (p n : ℕ) → n ≡ (view t).benches → p < n → b ≡ zero_from n (row r p) → b ≡ own_ok t r p
  unfolding view
  own_present p n e h z = rw (← e, lt-ltb p n h) z

  pub own_absent : (p n : ℕ) → n ≡ (view t).benches → n ≤ p → b ≡ zero_from 0 (row r p) → b ≡ own_ok t r p
  unfolding view
  own_absent p n e h z = rw (← e, le-ltb p n h) z

  pub slot_used : (c i k n : ℕ) → k ≡ count t c → i < k → n ≡ (view t).benches → b ≡ zero_from n (row r (slot_row c i)) → b ≡ slot_ok t r c i
  unfolding view
  slot_used c i k n f h e z = rw (← f, ← e, lt-ltb i k h) z

  pub slot_unused : (c i k : ℕ) → k ≡ count t c → k ≤ i → b ≡ zero_from 0 (row r (slot_row c i)) → b ≡ slot_ok t r c i
  slot_unused c i k f h z = rw (← f, le-ltb i k h) z
