-- The comparison of two vector stamps, of so many counts as there can be benches.
use Rattle.std.specs.Prelude.{ℕ, Bool, cond, ◌&&◌, ltb, leb, eqb}
use Rattle.lamport.specs.Each.{some_below, all_below}
use Rattle.lamport.specs.Table.{most_benches}
use Rattle.stamps.specs.declared.Comparison.{Comparison}
use Rattle.stamps.specs.declared.Comparison.TheVariants.{Before, After, Same, Neither}

-- every count of v is at most that of w
unfoldable pub none_larger : (ℕ → ℕ) → (ℕ → ℕ) → Bool
none_larger v w = all_below (λ a. leb (v a) (w a)) most_benches

-- some count of v is smaller than that of w
unfoldable pub some_smaller : (ℕ → ℕ) → (ℕ → ℕ) → Bool
some_smaller v w = some_below (λ a. ltb (v a) (w a)) most_benches

-- v < w
abbrev pub less : (ℕ → ℕ) → (ℕ → ℕ) → Bool
less v w = none_larger v w && some_smaller v w

-- every count of v is that of w
unfoldable pub alike : (ℕ → ℕ) → (ℕ → ℕ) → Bool
alike v w = all_below (λ a. eqb (v a) (w a)) most_benches

unfoldable pub comparison : (ℕ → ℕ) → (ℕ → ℕ) → Comparison
comparison v w = cond (less v w) Before (cond (less w v) After (cond (alike v w) Same Neither))

-- an answer as a number
abbrev pub comparison_number : Comparison → ℕ
comparison_number Before = 0
comparison_number After = 1
comparison_number Same = 2
comparison_number Neither = 3
