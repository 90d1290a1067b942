-- Repetition over 0, 1, .. n - 1, in that order.
use Rattle.std.specs.Prelude.{ℕ, zero, suc, ◌+◌, Bool, true, false, cond, not, ◌&&◌, ◌||◌, eqb}

-- f holds of some number below n
unfoldable pub some_below : (ℕ → Bool) → ℕ → Bool
some_below f zero = false
some_below f (suc n) = some_below f n || f n

-- f holds of every number below n
unfoldable pub all_below : (ℕ → Bool) → ℕ → Bool
all_below f zero = true
all_below f (suc n) = all_below f n && f n

-- how many numbers below n f holds of
unfoldable pub count_below : (ℕ → Bool) → ℕ → ℕ
count_below f zero = 0
count_below f (suc n) = count_below f n + cond (f n) 1 0

-- f holds of some bench of n other than p
abbrev pub some_other : ℕ → ℕ → (ℕ → Bool) → Bool
some_other n p f = some_below (λ q. not (eqb q p) && f q) n

-- f holds of every bench of n other than p
abbrev pub every_other : ℕ → ℕ → (ℕ → Bool) → Bool
every_other n p f = all_below (λ q. eqb q p || f q) n

-- t after f 0, then f 1, .. then f (n - 1)
unfoldable pub up_to : {A : Type 0} → (ℕ → A → A) → ℕ → A → A
up_to f zero t = t
up_to f (suc n) t = f n (up_to f n t)
