-- The lines of the readings: the fields one by one, and how long a line is.
use Prim.Native.Nat.{ℕ, zero, suc, ◌+◌, ◌*◌, ◌≤◌, ◌<◌}
use native.Mathlib.Omega.{arith}
use native.Mathlib.Numerals.{add-one}
use mathlib.Core.Path.{◌≡◌, refl, ap}
use mathlib.Core.List.{List, [], ◌∷◌, ◌++◌}
use lib.ListN.{length, take, length-append}
use Rattle.std.specs.Prelude.{Option, Some}
use Rattle.lamport.specs.Vectors.{counts_in}
use Rattle.words.specs.View.{listed}
use Rattle.words.proofs.Listed.{listed-length, listed_same, listed_cons}
use Rattle.vectors.specs.Rows.{row_of}
use Rattle.vectors.proofs.Row.{listed_get}
use Rattle.listing.specs.Record.{lf, cell_text, fields}
use Rattle.listing.proofs.Laws.{number_short}
use Rattle.marks.specs.Reading.{cells}

-- the first of a list that is given by its elements
listed_front : {A : Type 0} (n m : ℕ) (f : ℕ → A) → n ≤ m → take n (listed f m) ≡ listed f n
unfolding listed
listed_front zero m f h = refl
listed_front (suc n) zero f h = absurd (omega arith)
listed_front (suc n) (suc m) f h = rw (listed_cons f m, listed_cons f n) (ap (λ l. f 0 ∷ l) (listed_front n m (λ i. f (suc i)) (omega arith)))

-- one field more
pub cells-more : (k p clock : ℕ) (f : ℕ → ℕ) (n : ℕ) → cells k p clock f (n + 1) ≡ cells k p clock f n ++ (Some (f n) ∷ [])
unfolding listed
cells-more k p clock f n = rw add-one refl

-- the fields of a line are the front of those with a count for each bench that there can be
pub cells-front : (k p clock : ℕ) (f : ℕ → ℕ) (n : ℕ) → n ≤ 8 → take (3 + n) (cells k p clock f 8) ≡ cells k p clock f n
cells-front k p clock f n h = let three : 3 + n ≡ suc (suc (suc n)) = omega arith in rw three (ap (λ l. Some k ∷ Some p ∷ Some clock ∷ l) (listed_front n 8 (λ q. Some (f q)) h))

-- of counts that stand in a row they are the same
pub cells-row : (k p clock : ℕ) (f : ℕ → ℕ) (n : ℕ) → n ≤ 8 → cells k p clock (counts_in (row_of f)) n ≡ cells k p clock f n
cells-row k p clock f n h =
    ap (λ l. Some k ∷ Some p ∷ Some clock ∷ l) (listed_same (λ q. Some (counts_in (row_of f) q)) (λ q. Some (f q)) n (λ q l. ap Some (listed_get 8 f q 0 (omega arith))))

pub cells-length : (k p clock : ℕ) (f : ℕ → ℕ) (n : ℕ) → length (cells k p clock f n) ≡ 3 + n
cells-length k p clock f n = omega (arith, listed-length (λ q. Some (f q)) n)

-- ---- how long a line is

fields-cons : (c : Option ℕ) (cs : List (Option ℕ)) (end : ℕ) → length (fields (c ∷ cs) end) ≡ length (cell_text c) + 1 + length (fields cs end)
unfolding fields
fields-cons c [] end = simp length-append (omega arith)
fields-cons c (d ∷ ds) end = simp length-append (omega arith)

counts-short : (n : ℕ) (f : ℕ → ℕ) → ((q : ℕ) → f q < 4294967296) → length (fields (listed (λ q. Some (f q)) n) lf) ≤ 11 * n
unfolding listed fields
counts-short zero f h = omega arith
counts-short (suc n) f h =
    rw (listed_cons (λ q. Some (f q)) n, fields-cons (Some (f 0)) (listed (λ q. Some (f (suc q))) n) lf)
    (omega (arith, number_short 9 (f 0) (omega (arith, h 0)), counts-short n (λ q. f (suc q)) (λ q. h (suc q))))

-- a step's number has five digits, a bench one, a clock and each count ten
pub line-short : (k p clock : ℕ) (f : ℕ → ℕ) (n : ℕ) → k < 100000 → p < 8 → clock < 4294967296 → ((q : ℕ) → f q < 4294967296) → n ≤ 8 →
    length (fields (cells k p clock f n) lf) ≤ 107
line-short k p clock f n a b c h l =
    rw (fields-cons (Some k) (Some p ∷ Some clock ∷ listed (λ q. Some (f q)) n) lf, fields-cons (Some p) (Some clock ∷ listed (λ q. Some (f q)) n) lf, fields-cons (Some clock) (listed (λ q. Some (f q)) n) lf)
    (omega (arith, number_short 4 k a, number_short 0 p (omega arith), number_short 9 clock (omega arith), counts-short n f h))
