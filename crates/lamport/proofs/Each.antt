-- Laws of repetition: what it says of each number, and how a loop that counts up goes on.
use Prim.Native.Nat.{ℕ, zero, suc, ◌+◌, ◌<◌, ◌≤◌}
use native.Mathlib.Nat.{not-suc-le-zero, le_of_suc-le-suc, eq-or-lt_of_le}
use native.Mathlib.Numerals.{add-one}
use native.Mathlib.Omega.{arith}
use mathlib.Core.Path.{◌≡◌, refl, sym, ap, subst, ◌∙◌}
use mathlib.Core.Bool.{Bool, true, false, cond, not, ◌&&◌, ◌||◌}
use mathlib.Core.Logic.{⊎_elim}
use native.Mathlib.Decide.{ℕ_discrete}
use borrow.Author.Tests.{eq-eqb, ne_eqb}
use lib.Dec.{eqb}
use Rattle.lamport.specs.Each.{some_below, all_below, some_other, every_other, count_below, up_to}

-- ---- tests joined by && and ||

pub and_left : (a b : Bool) → (a && b) ≡ true → a ≡ true
and_left true b e = refl
and_left false b e = e

pub and_right : (a b : Bool) → (a && b) ≡ true → b ≡ true
and_right true b e = e
and_right false b e = cc

pub and_in : (a b : Bool) → a ≡ true → b ≡ true → (a && b) ≡ true
and_in true b e f = f
and_in false b e f = e

pub and_false : (a b : Bool) → b ≡ false → (a && b) ≡ false
and_false true b e = e
and_false false b e = refl

-- what is left where the first is true
pub and_out : (a b : Bool) → a ≡ true → (a && b) ≡ false → b ≡ false
and_out true b e f = f
and_out false b e f = cc

pub or_in : (a b : Bool) → b ≡ true → (a || b) ≡ true
or_in true b e = refl
or_in false b e = e

-- what is left where the first is false
pub or_out : (a b : Bool) → a ≡ false → (a || b) ≡ true → b ≡ true
or_out true b e f = cc
or_out false b e f = f

pub or_false_left : (a b : Bool) → (a || b) ≡ false → a ≡ false
or_false_left true b e = e
or_false_left false b e = refl

pub or_false_right : (a b : Bool) → (a || b) ≡ false → b ≡ false
or_false_right true b e = cc
or_false_right false b e = e

-- ---- repetition

module _ (f : ℕ → Bool) where
  pub none-at : (n i : ℕ) → some_below f n ≡ false → i < n → f i ≡ false
  unfolding some_below
  none-at zero i e l = absurd (not-suc-le-zero l)
  none-at (suc n) i e l =
      ⊎_elim
      (λ q. subst (λ (k : ℕ). f k ≡ false) (sym q) (or_false_right (some_below f n) (f n) e))
      (λ lt. none-at n i (or_false_left (some_below f n) (f n) e) lt)
      (eq-or-lt_of_le (le_of_suc-le-suc l))

  pub all_at : (n i : ℕ) → all_below f n ≡ true → i < n → f i ≡ true
  unfolding all_below
  all_at zero i e l = absurd (not-suc-le-zero l)
  all_at (suc n) i e l =
      ⊎_elim
      (λ q. subst (λ (k : ℕ). f k ≡ true) (sym q) (and_right (all_below f n) (f n) e))
      (λ lt. all_at n i (and_left (all_below f n) (f n) e) lt)
      (eq-or-lt_of_le (le_of_suc-le-suc l))

  pub all_all : (n : ℕ) → ((i : ℕ) → i < n → f i ≡ true) → all_below f n ≡ true
  unfolding all_below
  all_all zero h = refl
  all_all (suc n) h = rw (all_all n (λ i l. h i (omega arith))) (h n (omega arith))

module _ (f : ℕ → Bool) where
  -- f holds of no more numbers than there are
  pub count_most : (n : ℕ) → count_below f n ≤ n
  unfolding count_below
  count_most zero = omega arith
  count_most (suc n) = go (f n) (count_most n)
    where
      go : (b : Bool) → count_below f n ≤ n → count_below f n + cond b 1 0 ≤ suc n
      go true h = omega arith
      go false h = omega arith

module _ {A : Type 0} (f : ℕ → A → A) where
  pub up_none : (t : A) → up_to f 0 t ≡ t
  unfolding up_to
  up_none t = refl

  pub up_more : (i : ℕ) (t : A) → up_to f (i + 1) t ≡ f i (up_to f i t)
  unfolding up_to
  up_more i t = rw add-one

  pub up-end : (i n : ℕ) (t s : A) → i ≡ n → s ≡ up_to f i t → s ≡ up_to f n t
  up-end i n t s q e = e ∙ ap (λ (k : ℕ). up_to f k t) q

-- ---- every other bench than p, and some other

module _ (p : ℕ) (f : ℕ → Bool) where
  pub other_at : (n q : ℕ) → every_other n p f ≡ true → q < n → (q ≡ p → ⊥) → f q ≡ true
  other_at n q e l ne = or_out (eqb q p) (f q) (ne_eqb q p ne) (all_at (λ a. eqb a p || f a) n q e l)

  pub other-all : (n : ℕ) → ((q : ℕ) → q < n → (q ≡ p → ⊥) → f q ≡ true) → every_other n p f ≡ true
  other-all n h = all_all (λ a. eqb a p || f a) n (λ q l. go q l (ℕ_discrete q p))
    where
      go : (q : ℕ) → q < n → Dec (q ≡ p) → (eqb q p || f q) ≡ true
      go q l (yes d) = rw (eq-eqb q p d)
      go q l (no ne) = or_in (eqb q p) (f q) (h q l ne)

  pub no-other_at : (n q : ℕ) → some_other n p f ≡ false → q < n → (q ≡ p → ⊥) → f q ≡ false
  no-other_at n q e l ne = rw (ne_eqb q p ne) at (none-at (λ a. not (eqb a p) && f a) n q e l)

-- what every other bench is tested for may be told in another way
pub every_same : (p n : ℕ) (f g : ℕ → Bool) → ((q : ℕ) → q < n → f q ≡ g q) → every_other n p f ≡ every_other n p g
unfolding all_below
every_same p zero f g h = refl
every_same p (suc n) f g h = rw (every_same p n f g (λ q l. h q (omega arith)), h n (omega arith))
