-- A reading that is changed at one place: there it is new, and elsewhere as it was.
use mathlib.Core.Path.{◌≡◌, refl}
use mathlib.Core.Logic.{◌≢◌}
use mathlib.Core.Bool.{Bool, true, false, cond}
use Prim.Native.Nat.{ℕ}
use native.Mathlib.Decide.{ℕ_discrete}
use borrow.Author.Tests.{eq-eqb, ne_eqb}
use lib.Dec.{eqb}
use Rattle.lamport.specs.Steps.{at1, at2}
use Rattle.lamport.proofs.Each.{and_false}

pub cond_same : {A : Type 0} (b : Bool) (x : A) → cond b x x ≡ x
cond_same true x = refl
cond_same false x = refl

module _ (f : ℕ → ℕ) (p v : ℕ) where
  pub at1-here : at1 f p v p ≡ v
  at1-here = rw (eq-eqb p p refl)

  pub at1-else : (a : ℕ) → a ≢ p → at1 f p v a ≡ f a
  at1-else a ne = rw (ne_eqb a p ne)

-- setting what stands there already changes nothing
pub at1-same : (f : ℕ → ℕ) (p a : ℕ) → at1 f p (f p) a ≡ f a
at1-same f p a = go (ℕ_discrete a p)
  where
    go : Dec (a ≡ p) → at1 f p (f p) a ≡ f a
    go (yes e) = rw (e, eq-eqb p p refl)
    go (no ne) = at1-else f p (f p) a ne

-- the pair a b is not the pair p q
abbrev pub Other : ℕ → ℕ → ℕ → ℕ → Type 0
Other a b p q = (a ≡ p) × (b ≡ q) → ⊥

module _ {A : Type 0} (f : ℕ → ℕ → A) (p q : ℕ) (v : A) where
  pub at2-here : at2 f p q v p q ≡ v
  at2-here = rw (eq-eqb p p refl, eq-eqb q q refl)

  pub at2-else : (a b : ℕ) → Other a b p q → at2 f p q v a b ≡ f a b
  at2-else a b h = go (ℕ_discrete a p) (ℕ_discrete b q)
    where
      go : Dec (a ≡ p) → Dec (b ≡ q) → at2 f p q v a b ≡ f a b
      go (yes e) (yes d) = absurd (h (e, d))
      go (yes e) (no d) = rw (ne_eqb b q d, and_false (eqb a p) false refl)
      go (no e) d = rw (ne_eqb a p e)

pub at2-same : {A : Type 0} (f : ℕ → ℕ → A) (p q a b : ℕ) → at2 f p q (f p q) a b ≡ f a b
at2-same f p q a b = go (ℕ_discrete a p) (ℕ_discrete b q)
  where
    go : Dec (a ≡ p) → Dec (b ≡ q) → at2 f p q (f p q) a b ≡ f a b
    go (yes e) (yes d) = rw (e, d) (at2-here f p q (f p q))
    go (yes e) (no d) = at2-else f p q (f p q) a b (λ x. d x.1)
    go (no e) d = at2-else f p q (f p q) a b (λ x. e x.0)
