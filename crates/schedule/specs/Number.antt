-- A number is decimal, 0 to 4294967295, without sign or needless leading zero.
use Rattle.std.specs.Prelude.{Bool, cond, ◌&&◌, ◌||◌, List, [], ◌∷◌, ℕ, ◌+◌, ◌-◌, ◌*◌, Option, Some, None, length, get_or, eqb, ltb}
use Rattle.lamport.specs.Order.{limit}

-- the byte of the digit 0
abbrev pub zero_byte : ℕ
zero_byte = 48

-- a byte that is none of the ten digits
abbrev pub no_digit : ℕ → Bool
no_digit b = ltb b zero_byte || ltb (zero_byte + 9) b

-- a number with the digit b behind it
unfoldable pub digit_on : Option ℕ → ℕ → Option ℕ
digit_on None b = None
digit_on (Some x) b = cond (no_digit b || ltb limit (x * 10 + (b - zero_byte))) None (Some (x * 10 + (b - zero_byte)))

-- a number with more digits behind it
unfoldable pub grow : Option ℕ → List ℕ → Option ℕ
grow n [] = n
grow n (b ∷ bs) = grow (digit_on n b) bs

-- empty, or with a needless leading zero: one that more digits follow
unfoldable pub begins_ill : List ℕ → Bool
begins_ill s = eqb (length s) 0 || (eqb (get_or s 0 0) zero_byte && ltb 1 (length s))

-- the number that a field is
unfoldable pub number_of : List ℕ → Option ℕ
number_of s = cond (begins_ill s) None (grow (Some 0) s)
