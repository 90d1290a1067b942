-- Rows whose counts are zero from a bench on: the test as facts, the facts as a test, and what keeps them.
use Prim.Native.Nat.{ℕ, ◌<◌, ◌≤◌}
use native.Mathlib.Omega.{arith}
use native.Mathlib.Decide.{dec_lt}
use mathlib.Core.Path.{◌≡◌, refl, sym, ◌∙◌, fun_ext}
use mathlib.Core.Logic.{◌≢◌}
use mathlib.Core.Bool.{Bool, true, false, cond, ◌||◌}
use mathlib.Core.List.{List}
use lib.Dec.{ltb, eqb}
use lib.Pointwise.{pointwise}
use lib.Seq.{ext_get_or}
use lib.ListN.{length, length-replicate, get_or-replicate}
use borrow.Author.Tests.{lt-ltb, le-ltb, eq-eqb, ne_eqb, eqb-true}
use Rattle.std.proofs.Common.{nat_eq}
use Rattle.std.proofs.lemmas.List.{get_or_past}
use Rattle.std.specs.Cmp.Lexicographic.{same_text, other_text}
use Rattle.lamport.specs.Each.{all_below}
use Rattle.lamport.specs.Vectors.{vc1, vc2, counts_in}
use Rattle.lamport.proofs.Each.{and_left, and_right, and_in, or_in, or_out, all_at, all_all}
use Rattle.words.specs.Places.{benches, count}
use Rattle.words.proofs.Listed.{listed-length}
use Rattle.vectors.specs.Rows.{row, slot_row, rows, row_of, zeros}
use Rattle.vectors.specs.Formed.{zero_from, own_ok, slot_ok, slots_ok, counts_ok}
use Rattle.vectors.proofs.Row.{listed_get}

-- ---- one row

pub record ZeroFrom (n : ℕ) (x : List ℕ) : Type 0 where
  pub long : length x ≡ 8
  pub zero : (a : ℕ) → a < 8 → n ≤ a → counts_in x a ≡ 0

pub zero-out : (n : ℕ) (x : List ℕ) → zero_from n x ≡ true → ZeroFrom n x
unfolding zero_from
zero-out n x e =
    record {
      long = eqb-true (length x) 8 (and_left (eqb (length x) 8) _ e);
      zero =
          λ a h l.
          eqb-true (counts_in x a) 0
          (or_out (ltb a n) _ (le-ltb a n l) (all_at (λ b. ltb b n || eqb (counts_in x b) 0) 8 a (and_right (eqb (length x) 8) _ e) h));
    }

pub zero-in : (n : ℕ) (x : List ℕ) → ZeroFrom n x → zero_from n x ≡ true
unfolding zero_from
zero-in n x z =
    and_in (eqb (length x) 8) _ (eq-eqb (length x) 8 z.long) (all_all (λ b. ltb b n || eqb (counts_in x b) 0) 8 (λ a h. go a h (dec_lt a n)))
  where
    go : (a : ℕ) → a < 8 → Dec (a < n) → (ltb a n || eqb (counts_in x a) 0) ≡ true
    go a h (yes l) = rw (lt-ltb a n l)
    go a h (no nl) = or_in (ltb a n) _ (eq-eqb (counts_in x a) 0 (z.zero a h (omega arith)))

-- what is past the end of a row is zero
pub past : (x : List ℕ) (a : ℕ) → length x ≡ 8 → 8 ≤ a → counts_in x a ≡ 0
past x a e h = get_or_past x a 0 (omega (arith, e))

-- the row of counts that are zero past the benches reads as those counts
pub reads-row : (f : ℕ → ℕ) → ((a : ℕ) → 8 ≤ a → f a ≡ 0) → counts_in (row_of f) ≡ f
reads-row f z = fun_ext (λ a. go a (dec_lt a 8))
  where
    go : (a : ℕ) → Dec (a < 8) → counts_in (row_of f) a ≡ f a
    go a (yes l) = listed_get 8 f a 0 l
    go a (no nl) = past (row_of f) a (listed-length f 8) (omega arith) ∙ sym (z a (omega arith))

pub zero-row : (n : ℕ) (f : ℕ → ℕ) → ((a : ℕ) → n ≤ a → f a ≡ 0) → ZeroFrom n (row_of f)
zero-row n f z = record { long = listed-length f 8; zero = λ a h l. listed_get 8 f a 0 h ∙ z a l }

pub zero-zeros : (n : ℕ) → ZeroFrom n zeros
zero-zeros n = record { long = length-replicate {A = ℕ} 8 0; zero = λ a h l. get_or-replicate {A = ℕ} 8 a 0 0 h }

-- from a bench on, the counts of a row are zero, and so are those past its end
pub all-zero : (n : ℕ) (x : List ℕ) → ZeroFrom n x → (a : ℕ) → n ≤ a → counts_in x a ≡ 0
all-zero n x z a l = go (dec_lt a 8)
  where
    go : Dec (a < 8) → counts_in x a ≡ 0
    go (yes h) = z.zero a h l
    go (no nh) = past x a z.long (omega arith)

-- the rules raise no count of an absent bench
pub vc1-zero : (n p : ℕ) (v : ℕ → ℕ) → p < n → ((a : ℕ) → n ≤ a → v a ≡ 0) → (a : ℕ) → n ≤ a → vc1 p v a ≡ 0
vc1-zero n p v h z a l = let ne : a ≢ p = omega arith in rw (ne_eqb a p ne) (z a l)

pub vc2-zero : (n q : ℕ) (v w : ℕ → ℕ) → q < n → ((a : ℕ) → n ≤ a → v a ≡ 0) → ((a : ℕ) → n ≤ a → w a ≡ 0) → (a : ℕ) → n ≤ a → vc2 q v w a ≡ 0
vc2-zero n q v w h y z a l = let ne : a ≢ q = omega arith in rw (ne_eqb a q ne) (omega (arith, y a l, z a l))

-- rows without counts are the same
pub zero-same : (x y : List ℕ) → ZeroFrom 0 x → ZeroFrom 0 y → x ≡ y
zero-same x y z v = ext_get_or 0 x y (z.long ∙ sym v.long) (λ a h. all-zero 0 x z a (omega arith) ∙ sym (all-zero 0 y v a (omega arith)))

-- a row is tested for zeros at once
pub is-zeros : (x : List ℕ) (b : Bool) → b ≡ pointwise nat_eq x zeros → b ≡ zero_from 0 x
is-zeros x true e = sym (zero-in 0 x (rw (same_text x zeros e) (zero-zeros 0)))
is-zeros x false e = go (zero_from 0 x) refl
  where
    go : (b : Bool) → zero_from 0 x ≡ b → false ≡ zero_from 0 x
    go true z = absurd (other_text x zeros e (zero-same x zeros (zero-out 0 x z) (zero-zeros 0)))
    go false z = sym z

-- ---- all rows

pub record Good (t : List ℕ) (r : List (List ℕ)) : Type 0 where
  pub long : length r ≡ 1032
  pub own : (p : ℕ) → p < 8 → own_ok t r p ≡ true
  pub slots : (c i : ℕ) → c < 64 → i < 16 → slot_ok t r c i ≡ true

pub good-out : (t : List ℕ) (r : List (List ℕ)) → counts_ok t r ≡ true → Good t r
unfolding counts_ok
good-out t r e =
    let inner = and_right (eqb (length r) rows) _ e in
    record {
      long = eqb-true (length r) rows (and_left (eqb (length r) rows) _ e);
      own = λ p h. all_at (own_ok t r) 8 p (and_left (all_below (own_ok t r) 8) _ inner) h;
      slots = λ c i h l. all_at (slot_ok t r c) 16 i (all_at (slots_ok t r) 64 c (and_right (all_below (own_ok t r) 8) _ inner) h) l;
    }

pub good-in : (t : List ℕ) (r : List (List ℕ)) → Good t r → counts_ok t r ≡ true
unfolding counts_ok
good-in t r g =
    and_in (eqb (length r) rows) _ (eq-eqb (length r) rows g.long)
    (and_in (all_below (own_ok t r) 8) _ (all_all (own_ok t r) 8 g.own) (all_all (slots_ok t r) 64 (λ c h. all_all (slot_ok t r c) 16 (λ i l. g.slots c i h l))))

module _ (t : List ℕ) (r : List (List ℕ)) (g : Good t r) where
  -- the row of a bench that is there, and of a slot in use
  pub own-row : (p : ℕ) → p < 8 → p < benches t → ZeroFrom (benches t) (row r p)
  own-row p h l = zero-out (benches t) (row r p) (rw (lt-ltb p (benches t) l) at (g.own p h))

  pub used-row : (c i : ℕ) → c < 64 → i < 16 → i < count t c → ZeroFrom (benches t) (row r (slot_row c i))
  used-row c i h l k = zero-out (benches t) (row r (slot_row c i)) (rw (lt-ltb i (count t c) k) at (g.slots c i h l))

-- ---- a slot's test, as the channel changes

module _ (n k k' i : ℕ) (x x' : List ℕ) where
  pub still : k' ≡ k → x' ≡ x → zero_from (cond (ltb i k) n 0) x ≡ true → zero_from (cond (ltb i k') n 0) x' ≡ true
  still e f o = rw (e, f) o

  pub in-use : i < k' → ZeroFrom n x' → zero_from (cond (ltb i k') n 0) x' ≡ true
  in-use h z = rw (lt-ltb i k' h) (zero-in n x' z)

  pub unused : k' ≤ i → ZeroFrom 0 x' → zero_from (cond (ltb i k') n 0) x' ≡ true
  unused h z = rw (le-ltb i k' h) (zero-in 0 x' z)

  pub unused-row : k ≤ i → zero_from (cond (ltb i k) n 0) x ≡ true → ZeroFrom 0 x
  unused-row h o = zero-out 0 x (rw (le-ltb i k h) at o)

  pub used-slot : i < k → zero_from (cond (ltb i k) n 0) x ≡ true → ZeroFrom n x
  used-slot h o = zero-out n x (rw (lt-ltb i k h) at o)
