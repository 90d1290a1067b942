-- Laws of a list that is given by its elements.
use Prim.Native.Nat.{ℕ, zero, suc, ◌<◌}
use native.Mathlib.Omega.{arith}
use mathlib.Core.Path.{◌≡◌, refl, ap, ◌∙◌}
use mathlib.Core.List.{List, [], ◌∷◌, ◌++◌}
use lib.ListN.{length, length-append}
use Rattle.lamport.specs.Steps.{first}
use Rattle.lamport.specs.declared.Message.{Message}
use Rattle.words.specs.View.{listed}

pub listed-length : {A : Type 0} (f : ℕ → A) (k : ℕ) → length (listed f k) ≡ k
unfolding listed
listed-length f zero = refl
listed-length f (suc k) = length-append (listed f k) (f k ∷ []) ∙ omega (arith, listed-length f k)

pub listed_same : {A : Type 0} (f g : ℕ → A) (k : ℕ) → ((i : ℕ) → i < k → f i ≡ g i) → listed f k ≡ listed g k
unfolding listed
listed_same f g zero h = refl
listed_same f g (suc k) h = rw (listed_same f g k (λ i l. h i (omega arith)), h k (omega arith))

pub listed_cons : {A : Type 0} (f : ℕ → A) (k : ℕ) → listed f (suc k) ≡ f 0 ∷ listed (λ i. f (suc i)) k
unfolding listed
listed_cons f zero = refl
listed_cons f (suc k) = ap (λ r. r ++ f (suc k) ∷ []) (listed_cons f k)

pub listed-first : (f : ℕ → Message) (k : ℕ) → 0 < k → first (listed f k) ≡ f 0
listed-first f zero h = absurd (omega arith)
listed-first f (suc k) h = ap first (listed_cons f k)

-- what stands at place i of a list
unfoldable pub nth : List Message → ℕ → Message
nth [] i = first []
nth (m ∷ ms) zero = m
nth (m ∷ ms) (suc i) = nth ms i

pub listed_nth : (k : ℕ) (f : ℕ → Message) (i : ℕ) → i < k → nth (listed f k) i ≡ f i
unfolding nth
listed_nth zero f i h = absurd (omega arith)
listed_nth (suc k) f zero h = rw (listed_cons f k)
listed_nth (suc k) f (suc i) h = rw (listed_cons f k) (listed_nth k (λ j. f (suc j)) i (omega arith))
