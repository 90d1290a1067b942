-- The counts on a channel: the same, with those of one more message behind, or without the oldest's.
use Prim.Native.Nat.{ℕ, suc, ◌<◌, ◌≤◌}
use native.Mathlib.Omega.{arith}
use native.Mathlib.Decide.{dec_lt}
use mathlib.Core.Path.{◌≡◌, refl, sym, ap, ◌∙◌, fun_ext}
use mathlib.Core.Bool.{false}
use mathlib.Core.List.{List, [], ◌∷◌, ◌++◌}
use lib.Dec.{ltb}
use borrow.Author.Tests.{lt-ltb, le-ltb}
use Rattle.lamport.specs.Steps.{rest}
use Rattle.lamport.specs.Vectors.{counts_in}
use Rattle.lamport.proofs.Each.{and_false}
use Rattle.words.specs.Places.{chan, count}
use Rattle.words.specs.View.{listed}
use Rattle.words.proofs.Listed.{listed_same, listed_cons}
use Rattle.vectors.specs.Rows.{row, slot_row, slot_counts, brought}

-- the row of slot i of channel c is in r' what it is in r
abbrev pub SameSlot : List (List ℕ) → List (List ℕ) → ℕ → ℕ → Type 0
SameSlot r r' c i = row r' (slot_row c i) ≡ row r (slot_row c i)

module _ (r r' : List (List ℕ)) (c : ℕ) where
  pub list-same : (k : ℕ) → ((i : ℕ) → i < k → SameSlot r r' c i) → listed (slot_counts r' c) k ≡ listed (slot_counts r c) k
  list-same k h = listed_same (slot_counts r' c) (slot_counts r c) k (λ i l. ap counts_in (h i l))

  pub list-joined : (k : ℕ) (v : ℕ → ℕ) → ((i : ℕ) → i < k → SameSlot r r' c i) → slot_counts r' c k ≡ v
      → listed (slot_counts r' c) (suc k) ≡ listed (slot_counts r c) k ++ v ∷ []
  unfolding listed
  list-joined k v h e = rw (list-same k h, e) refl

  pub list-taken : (k : ℕ) → ((i : ℕ) → i < k → row r' (slot_row c i) ≡ row r (slot_row c (suc i)))
      → listed (slot_counts r' c) k ≡ rest (listed (slot_counts r c) (suc k))
  list-taken k h =
      listed_same (slot_counts r' c) (λ i. slot_counts r c (suc i)) k (λ i l. ap counts_in (h i l)) ∙ sym (ap rest (listed_cons (slot_counts r c) k))

-- ---- what messages bring, at bench numbers and elsewhere

module _ (t : List ℕ) (r : List (List ℕ)) (a b : ℕ) where
  pub brought-at : a < 8 → b < 8 → brought t r a b ≡ listed (slot_counts r (chan a b)) (count t (chan a b))
  unfolding brought
  brought-at ha hb = rw (lt-ltb a 8 ha, lt-ltb b 8 hb)

  pub nothing-left : 8 ≤ a → brought t r a b ≡ []
  unfolding brought
  nothing-left h = rw (le-ltb a 8 h)

  pub nothing-right : 8 ≤ b → brought t r a b ≡ []
  unfolding brought
  nothing-right h = rw (le-ltb b 8 h, and_false (ltb a 8) false refl)

-- a reading of channels that agrees at bench numbers, and has nothing elsewhere
pub brought-is : (t : List ℕ) (r : List (List ℕ)) (g : ℕ → ℕ → List (ℕ → ℕ))
    → ((a b : ℕ) → a < 8 → b < 8 → listed (slot_counts r (chan a b)) (count t (chan a b)) ≡ g a b)
    → ((a b : ℕ) → 8 ≤ a → g a b ≡ []) → ((a b : ℕ) → 8 ≤ b → g a b ≡ []) → brought t r ≡ g
brought-is t r g h x y = fun_ext (λ a. fun_ext (λ b. go a b (dec_lt a 8) (dec_lt b 8)))
  where
    go : (a b : ℕ) → Dec (a < 8) → Dec (b < 8) → brought t r a b ≡ g a b
    go a b (yes l) (yes k) = brought-at t r a b l k ∙ h a b l k
    go a b (yes l) (no nk) = let k : 8 ≤ b = omega arith in nothing-right t r a b k ∙ sym (y a b k)
    go a b (no nl) k = let l : 8 ≤ a = omega arith in nothing-left t r a b l ∙ sym (x a b l)
