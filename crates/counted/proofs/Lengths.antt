-- How many messages a channel has after a step: one more behind, one fewer, or as many.
use Prim.Native.Nat.{ℕ, suc, ◌<◌, ◌≤◌}
use native.Mathlib.Omega.{arith}
use native.Mathlib.Decide.{ℕ_discrete, dec_lt}
use mathlib.Core.Path.{◌≡◌, refl, ap, ◌∙◌}
use mathlib.Core.Logic.{◌≢◌, ◌⊎◌, inl, inr}
use mathlib.Core.Bool.{false, not, ◌&&◌}
use mathlib.Core.List.{List, [], ◌∷◌, ◌++◌}
use lib.Dec.{ltb, eqb}
use lib.ListN.{length, length-append}
use borrow.Author.Tests.{lt-ltb, le-ltb, eq-eqb, ne_eqb}
use Rattle.std.proofs.Common.{append-nil}
use Rattle.lamport.specs.declared.Kind.{Kind}
use Rattle.lamport.specs.declared.Kind.TheVariants.{Request, Ack, Release}
use Rattle.lamport.specs.declared.Message.{Message}
use Rattle.lamport.specs.Steps.{at2, rest, sends, replies}
use Rattle.lamport.proofs.Each.{and_false}
use Rattle.lamport.proofs.Readings.{Other, at2-here, at2-else, cond_same}

one-behind : (ms : List Message) (m : Message) → length (ms ++ m ∷ []) ≡ suc (length ms)
one-behind ms m = length-append ms (m ∷ []) ∙ omega arith

module _ (n : ℕ) (M : ℕ → ℕ → List Message) (p : ℕ) where
  pub sent-none : (a b : ℕ) → length (sends n M p [] a b) ≡ length (M a b)
  sent-none a b = ap length (rw (append-nil (M a b)) (cond_same (eqb a p && (not (eqb b p) && ltb b n)) (M a b)))

  module _ (m : Message) where
    pub sent-one : (q : ℕ) → q < n → q ≢ p → length (sends n M p (m ∷ []) p q) ≡ suc (length (M p q))
    sent-one q l ne = rw (eq-eqb p p refl, ne_eqb q p ne, lt-ltb q n l) (one-behind (M p q) m)

    pub sent-else : (a b : ℕ) → ((a ≡ p) × ((b ≢ p) × (b < n)) → ⊥) → length (sends n M p (m ∷ []) a b) ≡ length (M a b)
    sent-else a b no-message = go (ℕ_discrete a p) (ℕ_discrete b p) (dec_lt b n)
      where
        go : Dec (a ≡ p) → Dec (b ≡ p) → Dec (b < n) → length (sends n M p (m ∷ []) a b) ≡ length (M a b)
        go (no nd) e l = rw (ne_eqb a p nd)
        go (yes d) (yes e) l = rw (eq-eqb b p e, and_false (eqb a p) false refl)
        go (yes d) (no ne) (yes l) = absurd (no-message (d, (ne, l)))
        go (yes d) (no ne) (no nl) = let l : n ≤ b = omega arith in rw (le-ltb b n l, and_false (not (eqb b p)) false refl, and_false (eqb a p) false refl)

module _ (M : ℕ → ℕ → List Message) (p q : ℕ) (ne : p ≢ q) (c : ℕ) (k : Kind) where
  -- the channels after a carry from p to q
  abbrev pub carried : ℕ → ℕ → List Message
  carried = at2 (at2 M p q (rest (M p q))) q p (M q p ++ replies k c)

  pub one-fewer : 0 < length (M p q) → suc (length (carried p q)) ≡ length (M p q)
  one-fewer some = ap (λ ms. suc (length ms)) (at2-else (at2 M p q (rest (M p q))) q p (M q p ++ replies k c) p q (λ z. ne z.0) ∙ at2-here M p q (rest (M p q))) ∙ go (M p q) some
    where
      go : (ms : List Message) → 0 < length ms → suc (length (rest ms)) ≡ length ms
      go [] h = absurd (omega arith)
      go (m ∷ ms) h = refl

  pub answered-one : (k ≡ Request) × (length (carried q p) ≡ suc (length (M q p))) ⊎ (k ≢ Request) × (length (carried q p) ≡ length (M q p))
  answered-one = rw (at2-here (at2 M p q (rest (M p q))) q p (M q p ++ replies k c)) (go k)
    where
      go : (k : Kind) → (k ≡ Request) × (length (M q p ++ replies k c) ≡ suc (length (M q p))) ⊎ (k ≢ Request) × (length (M q p ++ replies k c) ≡ length (M q p))
      go Request = inl (refl, one-behind (M q p) _)
      go Ack = inr ((λ z. cc), ap length (append-nil (M q p)))
      go Release = inr ((λ z. cc), ap length (append-nil (M q p)))

  pub carried-else : (a b : ℕ) → Other a b p q → Other a b q p → length (carried a b) ≡ length (M a b)
  carried-else a b o z = ap length (at2-else (at2 M p q (rest (M p q))) q p (M q p ++ replies k c) a b z ∙ at2-else M p q (rest (M p q)) a b o)
