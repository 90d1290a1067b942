-- These promises leave nothing open: two outcomes that meet one are the same.
use Rattle.std.specs.Prelude.{ℕ, ◌≡◌, false, List}
use Rattle.lamport.specs.declared.Step.{Step}
use Rattle.counted.specs.declared.Lent.{Lent}
use Rattle.counted.specs.Post.{lent_ok, Stepped, all_zero, Made, Handed}

abbrev pub OneOutcome : Type 0
OneOutcome = (t : Lent) (s : Step) (r r' : ℕ) (u u' : Lent) → Stepped t s r u → Stepped t s r' u' → (r ≡ r') × (u ≡ u')

abbrev pub OneFresh : Type 0
OneFresh = (n capacity start r r' : ℕ) (u u' : Lent) → Made n capacity start r u → Made n capacity start r' u' → (r ≡ r') × (u ≡ u')

abbrev pub OneStamp : Type 0
OneStamp = (t : Lent) (p r r' : ℕ) (before after after' : List ℕ) → Handed t p r before after → Handed t p r' before after' → (r ≡ r') × (after ≡ after')

-- an all-zero table is not well formed
abbrev pub ZeroIsNone : Type 0
ZeroIsNone = lent_ok all_zero ≡ false
