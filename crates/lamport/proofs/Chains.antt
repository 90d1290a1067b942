-- What a chain over the numbers below n answers, as a repetition.
use Prim.Native.Nat.{ℕ, zero, suc, ◌+◌}
use native.Mathlib.Omega.{arith}
use mathlib.Core.Path.{◌≡◌, refl, ap, ◌∙◌}
use mathlib.Core.Bool.{Bool, true, false, ◌&&◌, ◌||◌}
use mathlib.Core.List.{List, [], ◌∷◌, ◌++◌}
use denote.Param.Members.{Mut}
use Rattle.std.specs.declared.ops.Range.{Range}
use Rattle.std.specs.Prelude.{Option, MatchOption}
use Rattle.std.specs.Fn.{Called}
use Rattle.std.specs.Iterator.{YieldsThen}
use Rattle.std.specs.List.{FoldsTo, list_all, list_any, range_with_len}
use Rattle.std.proofs.iter.Yields.{nat_range_steps}
use Rattle.std.proofs.lemmas.Iterator.{YieldsList-from_range}
use Rattle.std.proofs.lemmas.Iterator.Search.{all_from_yields_List, any_from_yields_List}
use Rattle.lamport.specs.Each.{all_below, some_below}

-- the numbers from a on, with one more behind them
one_more : (n a : ℕ) → range_with_len a (suc n) ≡ range_with_len a n ++ (a + n) ∷ []
one_more zero a = let e : a ≡ a + 0 = omega arith in ap (λ x. x ∷ []) e
one_more (suc n) a =
    let e : a + 1 + n ≡ a + suc n = omega arith in
    ap (λ l. a ∷ l) (one_more n (a + 1) ∙ ap (λ x. range_with_len (a + 1) n ++ x ∷ []) e)

pub last_below : (n : ℕ) → range_with_len 0 (suc n) ≡ range_with_len 0 n ++ n ∷ []
last_below n = let e : 0 + n ≡ n = omega arith in one_more n 0 ∙ ap (λ x. range_with_len 0 n ++ x ∷ []) e

module _ (test : ℕ → Bool) where
  all_behind : (xs : List ℕ) (x : ℕ) → list_all test (xs ++ x ∷ []) ≡ (list_all test xs && test x)
  all_behind [] x = go (test x)
    where
      go : (b : Bool) → (b && true) ≡ b
      go true = refl
      go false = refl
  all_behind (y ∷ ys) x = ap (λ b. test y && b) (all_behind ys x) ∙ go (test y)
    where
      go : (b : Bool) → (b && (list_all test ys && test x)) ≡ ((b && list_all test ys) && test x)
      go true = refl
      go false = refl

  any_behind : (xs : List ℕ) (x : ℕ) → list_any test (xs ++ x ∷ []) ≡ (list_any test xs || test x)
  any_behind [] x = go (test x)
    where
      go : (b : Bool) → (b || false) ≡ b
      go true = refl
      go false = refl
  any_behind (y ∷ ys) x = ap (λ b. test y || b) (any_behind ys x) ∙ go (test y)
    where
      go : (b : Bool) → (b || (list_any test ys || test x)) ≡ ((b || list_any test ys) || test x)
      go true = refl
      go false = refl

  pub all-below : (n : ℕ) → list_all test (range_with_len 0 n) ≡ all_below test n
  unfolding all_below
  all-below zero = refl
  all-below (suc n) = ap (list_all test) (last_below n) ∙ all_behind (range_with_len 0 n) n ∙ ap (λ b. b && test n) (all-below n)

  pub any-below : (n : ℕ) → list_any test (range_with_len 0 n) ≡ some_below test n
  unfolding some_below
  any-below zero = refl
  any-below (suc n) = ap (list_any test) (last_below n) ∙ any_behind (range_with_len 0 n) n ∙ ap (λ b. b || test n) (any-below n)

-- (0..n).all and (0..n).any, whose closure computes `test`: the call's clause `ran`, and what one call of the closure gives
module _ {F : Type 0} {g : Mut F (ℕ × Unit {0}) Bool} {s u : Range ℕ} {f : F} {r : Bool} (test : ℕ → Bool) (n : ℕ) where
  pub all_over : (xs : List ℕ) × (o : Option ℕ) × (j : F) × YieldsThen nat_range_steps s xs o u × FoldsTo (λ p x q. Called g p (x, tt) true q) f xs j × MatchOption o (r ≡ true) (λ x. (r ≡ false) × ((h : F) × Called g j (x, tt) false h))
      → s ≡ record { start = 0; end = n } → ((x : ℕ) (b : Bool) (q : F) → Called g f (x, tt) b q → (q ≡ f) × (b ≡ test x)) → r ≡ all_below test n
  all_over ran e each = all_from_yields_List test u f r ran (YieldsList-from_range 0 n n e (omega arith)) each ∙ all-below test n

  pub any_over : (xs : List ℕ) × (o : Option ℕ) × (j : F) × YieldsThen nat_range_steps s xs o u × FoldsTo (λ p x q. Called g p (x, tt) false q) f xs j × MatchOption o (r ≡ false) (λ x. (r ≡ true) × ((h : F) × Called g j (x, tt) true h))
      → s ≡ record { start = 0; end = n } → ((x : ℕ) (b : Bool) (q : F) → Called g f (x, tt) b q → (q ≡ f) × (b ≡ test x)) → r ≡ some_below test n
  any_over ran e each = any_from_yields_List test u f r ran (YieldsList-from_range 0 n n e (omega arith)) each ∙ any-below test n
