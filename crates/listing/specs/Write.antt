-- What a writer does: the digits of a number, and a text over the front of the output.
use Rattle.std.specs.Prelude.{◌≡◌, cond, List, [], ◌∷◌, ◌++◌, ℕ, zero, suc, ◌+◌, ◌/◌, ◌%◌, length, drop, ltb}

-- the decimal digits of x, of which there are at most k
unfoldable pub digits_in : ℕ → ℕ → List ℕ
digits_in zero x = []
digits_in (suc k) x = cond (ltb x 10) ((48 + x) ∷ []) (digits_in k (x / 10) ++ ((48 + x % 10) ∷ []))

-- a number in decimal, with no needless leading zero: twenty digits are enough for 64 bits
unfoldable pub digits : ℕ → List ℕ
digits x = digits_in 20 x

-- a number below this has five digits at most, as every step's has
abbrev pub five_digits : ℕ
five_digits = 100000

-- `out` with w over its front: the bytes after it stay
unfoldable pub over : List ℕ → List ℕ → List ℕ
over w out = w ++ drop (length w) out

-- what a writer answers, how long w is, and what it leaves in the output
pub record Wrote (w : List ℕ) (r : ℕ) (before after : List ℕ) : Type 0 where
  pub bytes : r ≡ length w
  pub text : after ≡ over w before
