-- The promise of a fresh table's words leaves nothing open: two outcomes that meet it are the same.
use Rattle.std.specs.Prelude.{ℕ, ◌≡◌, List}
use Rattle.table.specs.Post.{Made}

abbrev pub OneFresh : Type 0
OneFresh = (n capacity start r r' : ℕ) (u u' : List ℕ) → Made n capacity start r u → Made n capacity start r' u' → (r ≡ r') × (u ≡ u')
