-- Rows of counts, by what is read in them.
use Prim.Native.Nat.{ℕ, zero, suc, ◌+◌, ◌<◌, ◌≤◌, max}
use native.Mathlib.Omega.{arith}
use native.Mathlib.Decide.{ℕ_discrete}
use mathlib.Core.Path.{◌≡◌, refl, sym, ◌∙◌}
use mathlib.Core.List.{List}
use lib.ListN.{length, get_or, set, length-set}
use lib.Seq.{ext_get_or, get_or-set_same, get_or-set_other}
use borrow.Author.Tests.{eq-eqb, ne_eqb, lt-ltb, le-ltb}
use Rattle.lamport.specs.Vectors.{vc1, vc2, counts_in}
use Rattle.words.specs.View.{listed}
use Rattle.words.proofs.Listed.{listed-length, listed_cons}
use Rattle.vectors.specs.Rows.{row, row_of, counts}

pub listed_get : {A : Type 0} (k : ℕ) (f : ℕ → A) (i : ℕ) (z : A) → i < k → get_or (listed f k) i z ≡ f i
listed_get zero f i z h = absurd (omega arith)
listed_get (suc k) f zero z h = rw (listed_cons f k) refl
listed_get (suc k) f (suc i) z h = rw (listed_cons f k) (listed_get k (λ j. f (suc j)) i z (omega arith))

-- a row of eight words that reads as f is the row of f
pub is_row : (r : List ℕ) (f : ℕ → ℕ) → length r ≡ 8 → ((a : ℕ) → a < 8 → get_or r a 0 ≡ f a) → r ≡ row_of f
is_row r f e h = ext_get_or 0 r (row_of f) (e ∙ sym (listed-length f 8)) (λ a l. let k : a < 8 = omega (arith, e) in h a k ∙ sym (listed_get 8 f a 0 k))

-- one count raised
pub vc1_row : (v : List ℕ) (p : ℕ) → length v ≡ 8 → p < 8 → set v p (get_or v p 0 + 1) ≡ row_of (vc1 p (counts_in v))
vc1_row v p e h = is_row _ _ (length-set v p _ ∙ e) (λ a l. go a (ℕ_discrete a p))
  where
    go : (a : ℕ) → Dec (a ≡ p) → get_or (set v p (get_or v p 0 + 1)) a 0 ≡ vc1 p (counts_in v) a
    go a (yes d) = rw (d, eq-eqb p p refl) (get_or-set_same v p _ 0 (omega (arith, e)))
    go a (no nd) = rw (ne_eqb a p nd) (get_or-set_other v p a _ 0 nd)

-- what is read of a bench
pub counts_at : (r : List (List ℕ)) (p a : ℕ) → p < 8 → counts r p a ≡ counts_in (row r p) a
unfolding counts
counts_at r p a h = rw (lt-ltb p 8 h)

pub counts-out : (r : List (List ℕ)) (p a : ℕ) → 8 ≤ p → counts r p a ≡ 0
unfolding counts
counts-out r p a h = rw (le-ltb p 8 h)

-- a bench's row is the row of its counts
pub bench_row : (r : List (List ℕ)) (p : ℕ) (x : List ℕ) → p < 8 → x ≡ row_of (counts_in (row r p)) → x ≡ row_of (counts r p)
unfolding counts listed
bench_row r p x h e = rw (lt-ltb p 8 h) e

pub is_its_row : (v : List ℕ) → length v ≡ 8 → v ≡ row_of (counts_in v)
is_its_row v e = is_row v (counts_in v) e (λ a h. refl)

-- ---- a row that is merged into another, place by place

-- x has the larger of the two counts below a, and is v from there on
pub record Merging (v w : List ℕ) (a : ℕ) (x : List ℕ) : Type 0 where
  pub long : length x ≡ length v
  pub done : (b : ℕ) → b < a → get_or x b 0 ≡ max (get_or v b 0) (get_or w b 0)
  pub left : (b : ℕ) → a ≤ b → get_or x b 0 ≡ get_or v b 0

pub merging-none : (v w : List ℕ) → Merging v w 0 v
merging-none v w = record { long = refl; done = λ b l. absurd (omega arith); left = λ b l. refl }

pub merging-more : (v w x : List ℕ) (a m : ℕ) → a < length v → Merging v w a x → m ≡ max (get_or x a 0) (get_or w a 0) → Merging v w (a + 1) (set x a m)
merging-more v w x a m h k e =
    record {
      long = length-set x a m ∙ k.long;
      done = λ b l. go b l (ℕ_discrete b a);
      left = λ b l. get_or-set_other x a b m 0 (omega arith) ∙ k.left b (omega arith);
    }
  where
    go : (b : ℕ) → b < a + 1 → Dec (b ≡ a) → get_or (set x a m) b 0 ≡ max (get_or v b 0) (get_or w b 0)
    go b l (yes d) = rw (d) (get_or-set_same x a m 0 (omega (arith, k.long)) ∙ rw (← k.left a (omega arith)) e)
    go b l (no nd) = get_or-set_other x a b m 0 nd ∙ k.done b (omega arith)

-- the own count only goes up by one
pub merging-end : (v w x : List ℕ) (q m : ℕ) → length v ≡ 8 → q < 8 → Merging v w 8 x → m ≡ get_or v q 0 + 1 → set x q m ≡ row_of (vc2 q (counts_in v) (counts_in w))
merging-end v w x q m e h k up = is_row _ _ (length-set x q _ ∙ k.long ∙ e) (λ a l. go a l (ℕ_discrete a q))
  where
    go : (a : ℕ) → a < 8 → Dec (a ≡ q) → get_or (set x q m) a 0 ≡ vc2 q (counts_in v) (counts_in w) a
    go a l (yes d) = rw (d, eq-eqb q q refl) (get_or-set_same x q _ 0 (omega (arith, k.long, e)) ∙ up)
    go a l (no nd) = rw (ne_eqb a q nd) (get_or-set_other x q a _ 0 nd ∙ k.done a l)
