-- What a fresh table and a step that is done leave in the words.
use Rattle.std.specs.Prelude.{ℕ, ◌≡◌, true, false, List, replicate}
use Rattle.lamport.specs.Table.{sizes_ok, sizes_answer, fresh}
use Rattle.lamport.specs.Steps.{first}
use Rattle.lamport.specs.declared.Step.{Step}
use Rattle.lamport.specs.declared.Step.TheVariants.{Ask, Carry, Enter, Leave, Mark}
use Rattle.words.specs.Places.{size}
use Rattle.words.specs.View.{view}
use Rattle.words.specs.WellFormed.{well_formed}
use Rattle.store.specs.Stores.{asked, left, entered, marked, carried}

-- a fresh table of n benches: the answer r and the words u
pub record Made (n capacity start r : ℕ) (u : List ℕ) : Type 0 where
  pub answered : r ≡ sizes_answer n capacity
  -- bad sizes give an all-zero table
  pub zero : sizes_ok n capacity ≡ false → u ≡ replicate size 0
  pub done : sizes_ok n capacity ≡ true → view u ≡ fresh n capacity start
  pub formed : sizes_ok n capacity ≡ true → well_formed u ≡ true

-- what a step that is done stores
abbrev pub stored : List ℕ → Step → List ℕ
stored t (Ask p) = asked t p
stored t (Carry p q) = carried t p q (first ((view t).messages p q))
stored t (Enter p) = entered t p
stored t (Leave p) = left t p
stored t (Mark p) = marked t p
