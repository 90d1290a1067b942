-- The rows after a message to every other bench: the slot that each message joins has its sender's counts, and no other row of a slot changes.
use Prim.Native.Nat.{ℕ, zero, suc, ◌<◌, ◌≤◌}
use native.Mathlib.Omega.{arith}
use native.Mathlib.Decide.{ℕ_discrete}
use mathlib.Core.Path.{◌≡◌, refl, ap, ◌∙◌}
use mathlib.Core.Logic.{◌≢◌}
use mathlib.Core.List.{List}
use lib.ListN.{length}
use borrow.Author.Tests.{eq-eqb, ne_eqb}
use Rattle.lamport.specs.Each.{up_to}
use Rattle.words.specs.Places.{chan, count}
use Rattle.vectors.specs.Rows.{row, slot_row}
use Rattle.vectors.specs.Stores.{attached, attached_to}
use Rattle.vectors.proofs.Laws.{attached-length, attached-here, attached-else}

module _ (t : List ℕ) (p : ℕ) where
  -- the row that the message to q joins
  abbrev pub joined : ℕ → ℕ
  joined q = slot_row (chan p q) (count t (chan p q))

  attached-to-itself : (q : ℕ) (r : List (List ℕ)) → q ≡ p → attached_to t p q r ≡ r
  unfolding attached_to
  attached-to-itself q r e = rw (eq-eqb q p e)

  attached-to-other : (q : ℕ) (r : List (List ℕ)) → q ≢ p → attached_to t p q r ≡ attached r p (chan p q) (count t (chan p q))
  unfolding attached_to
  attached-to-other q r ne = rw (ne_eqb q p ne)

  to-length : (q : ℕ) (r : List (List ℕ)) → length (attached_to t p q r) ≡ length r
  to-length q r = go (ℕ_discrete q p)
    where
      go : Dec (q ≡ p) → length (attached_to t p q r) ≡ length r
      go (yes e) = ap length (attached-to-itself q r e)
      go (no ne) = ap length (attached-to-other q r ne) ∙ attached-length r p (chan p q) (count t (chan p q))

  to-else : (q : ℕ) (r : List (List ℕ)) (j : ℕ) → (q ≢ p → j ≢ joined q) → row (attached_to t p q r) j ≡ row r j
  to-else q r j h = go (ℕ_discrete q p)
    where
      go : Dec (q ≡ p) → row (attached_to t p q r) j ≡ row r j
      go (yes e) = ap (λ x. row x j) (attached-to-itself q r e)
      go (no ne) = ap (λ x. row x j) (attached-to-other q r ne) ∙ attached-else r p (chan p q) (count t (chan p q)) j (h ne)

  to-here : (q : ℕ) (r : List (List ℕ)) → q ≢ p → joined q < length r → row (attached_to t p q r) (joined q) ≡ row r p
  to-here q r ne h = ap (λ x. row x (joined q)) (attached-to-other q r ne) ∙ attached-here r p (chan p q) (count t (chan p q)) h

  module _ (r : List (List ℕ)) where
    pub sent-length : (m : ℕ) → length (up_to (attached_to t p) m r) ≡ length r
    unfolding up_to
    sent-length zero = refl
    sent-length (suc m) = to-length m (up_to (attached_to t p) m r) ∙ sent-length m

    pub sent-else : (m j : ℕ) → ((q : ℕ) → q < m → q ≢ p → j ≢ joined q) → row (up_to (attached_to t p) m r) j ≡ row r j
    unfolding up_to
    sent-else zero j h = refl
    sent-else (suc m) j h = to-else m (up_to (attached_to t p) m r) j (h m (omega arith)) ∙ sent-else m j (λ q l. h q (omega arith))

    pub sent-here : (n : ℕ) → p < 8 → n ≤ 8 → ((q : ℕ) → q < n → q ≢ p → count t (chan p q) < 16) → length r ≡ 1032 → (m q : ℕ) → m ≤ n → q < m → q ≢ p
        → row (up_to (attached_to t p) m r) (joined q) ≡ row r p
    unfolding up_to
    sent-here n hp n8 few long zero q hm l ne = absurd (omega arith)
    sent-here n hp n8 few long (suc m) q hm l ne = go (λ k. sent-here n hp n8 few long m q (omega arith) k ne) (ℕ_discrete q m)
      where
        before : List (List ℕ)
        before = up_to (attached_to t p) m r

        apart : m ≢ p → q ≢ m → joined q ≢ joined m
        apart o d = let f = few q (omega arith) ne in let g = few m (omega arith) o in omega (arith, f, g)

        go : (q < m → row before (joined q) ≡ row r p) → Dec (q ≡ m) → row (attached_to t p m before) (joined q) ≡ row r p
        go rec (yes e) =
            let f = few q (omega arith) ne in
            let o : m ≢ p = rw e at ne in
            rw e (to-here m before o (omega (arith, sent-length m, long, rw e at f, hp)) ∙ sent-else m p (λ a k o. omega arith))
        go rec (no d) = to-else m before (joined q) (λ o. apart o d) ∙ rec (omega arith)
