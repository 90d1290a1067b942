-- What stands in the rows after each store.
use Prim.Native.Nat.{ℕ, zero, suc, ◌+◌, ◌-◌, ◌<◌, ◌≤◌}
use native.Mathlib.Omega.{arith}
use native.Mathlib.Decide.{ℕ_discrete}
use mathlib.Core.Path.{◌≡◌, refl, ◌∙◌}
use mathlib.Core.Logic.{◌≢◌}
use mathlib.Core.List.{List, []}
use lib.ListN.{length, set, length-set}
use lib.Seq.{get_or-set_same, get_or-set_other}
use Rattle.lamport.specs.Each.{up_to}
use Rattle.lamport.specs.Vectors.{vc1, vc2, counts_in}
use Rattle.vectors.specs.Rows.{row, slot_row, row_of, zeros}
use Rattle.vectors.specs.Stores.{ticked, merged, attached, moved_row, taken_off}

-- ---- one row stored

pub row-set : (r : List (List ℕ)) (i : ℕ) (x : List ℕ) → i < length r → row (set r i x) i ≡ x
row-set r i x h = get_or-set_same r i x [] h

pub row-other : (r : List (List ℕ)) (j : ℕ) (x : List ℕ) (i : ℕ) → i ≢ j → row (set r j x) i ≡ row r i
row-other r j x i h = get_or-set_other r j i x [] h

module _ (r : List (List ℕ)) (p : ℕ) where
  pub ticked-length : length (ticked r p) ≡ length r
  unfolding ticked
  ticked-length = length-set r p _

  pub ticked-here : p < length r → row (ticked r p) p ≡ row_of (vc1 p (counts_in (row r p)))
  unfolding ticked
  ticked-here h = row-set r p _ h

  pub ticked-else : (i : ℕ) → i ≢ p → row (ticked r p) i ≡ row r i
  unfolding ticked
  ticked-else i ne = row-other r p _ i ne

module _ (r : List (List ℕ)) (q c : ℕ) where
  pub merged-length : length (merged r q c) ≡ length r
  unfolding merged
  merged-length = length-set r q _

  pub merged-here : q < length r → row (merged r q c) q ≡ row_of (vc2 q (counts_in (row r q)) (counts_in (row r (slot_row c 0))))
  unfolding merged
  merged-here h = row-set r q _ h

  pub merged-else : (i : ℕ) → i ≢ q → row (merged r q c) i ≡ row r i
  unfolding merged
  merged-else i ne = row-other r q _ i ne

module _ (r : List (List ℕ)) (p c i : ℕ) where
  pub attached-length : length (attached r p c i) ≡ length r
  unfolding attached
  attached-length = length-set r (slot_row c i) _

  pub attached-here : slot_row c i < length r → row (attached r p c i) (slot_row c i) ≡ row r p
  unfolding attached
  attached-here h = row-set r (slot_row c i) _ h

  pub attached-else : (j : ℕ) → j ≢ slot_row c i → row (attached r p c i) j ≡ row r j
  unfolding attached
  attached-else j ne = row-other r (slot_row c i) _ j ne

-- ---- the rows of a channel move up

module _ (c : ℕ) where
  pub moved-length : (k : ℕ) (r : List (List ℕ)) → length (up_to (moved_row c) k r) ≡ length r
  unfolding up_to moved_row
  moved-length zero r = refl
  moved-length (suc k) r = length-set (up_to (moved_row c) k r) (slot_row c k) _ ∙ moved-length k r

  -- a row that is none of the first k slots stays
  pub moved-else : (k : ℕ) (r : List (List ℕ)) (j : ℕ) → ((i : ℕ) → i < k → j ≢ slot_row c i) → row (up_to (moved_row c) k r) j ≡ row r j
  unfolding up_to moved_row
  moved-else zero r j h = refl
  moved-else (suc k) r j h = row-other (up_to (moved_row c) k r) (slot_row c k) _ j (h k (omega arith)) ∙ moved-else k r j (λ i l. h i (omega arith))

  pub moved-here : (k : ℕ) (r : List (List ℕ)) (i : ℕ) → i < k → slot_row c k < length r → row (up_to (moved_row c) k r) (slot_row c i) ≡ row r (slot_row c (i + 1))
  unfolding up_to moved_row
  moved-here zero r i l h = absurd (omega arith)
  moved-here (suc k) r i l h = go (λ m. moved-here k r i m (omega (arith, h))) (ℕ_discrete i k)
    where
      go : (i < k → row (up_to (moved_row c) k r) (slot_row c i) ≡ row r (slot_row c (i + 1))) → Dec (i ≡ k) → row (set (up_to (moved_row c) k r) (slot_row c k) (row (up_to (moved_row c) k r) (slot_row c (k + 1)))) (slot_row c i) ≡ row r (slot_row c (i + 1))
      go before (yes e) =
          let long : slot_row c k < length (up_to (moved_row c) k r) = omega (arith, moved-length k r, h) in
          rw (e) (row-set (up_to (moved_row c) k r) (slot_row c k) _ long ∙ moved-else k r (slot_row c (k + 1)) (λ j m. omega arith))
      go before (no ne) = row-other (up_to (moved_row c) k r) (slot_row c k) _ (slot_row c i) (omega arith) ∙ before (omega arith)

  pub taken-length : (r : List (List ℕ)) (k : ℕ) → length (taken_off r c k) ≡ length r
  unfolding taken_off
  taken-length r k = length-set (up_to (moved_row c) (k - 1) r) (slot_row c (k - 1)) _ ∙ moved-length (k - 1) r

  module _ (r : List (List ℕ)) (k : ℕ) (some : 0 < k) where
    pub taken-here : (i : ℕ) → i + 1 < k → slot_row c k ≤ length r → row (taken_off r c k) (slot_row c i) ≡ row r (slot_row c (i + 1))
    unfolding taken_off
    taken-here i l h =
        row-other (up_to (moved_row c) (k - 1) r) (slot_row c (k - 1)) _ (slot_row c i) (omega arith) ∙ moved-here (k - 1) r i (omega arith) (omega (arith, h, some))

    pub taken-last : slot_row c k ≤ length r → row (taken_off r c k) (slot_row c (k - 1)) ≡ zeros
    unfolding taken_off
    taken-last h =
        let long : slot_row c (k - 1) < length (up_to (moved_row c) (k - 1) r) = omega (arith, moved-length (k - 1) r, h, some) in
        row-set (up_to (moved_row c) (k - 1) r) (slot_row c (k - 1)) _ long

    pub taken-else : (j : ℕ) → ((i : ℕ) → i < k → j ≢ slot_row c i) → row (taken_off r c k) j ≡ row r j
    unfolding taken_off
    taken-else j h =
        row-other (up_to (moved_row c) (k - 1) r) (slot_row c (k - 1)) _ j (h (k - 1) (omega (arith, some))) ∙ moved-else (k - 1) r j (λ i l. h i (omega arith))
