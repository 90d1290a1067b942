-- Twelve cases, on both sides of the limits that the rules set, as one list.
use Rattle.std.specs.Prelude.{ℕ, ◌≡◌, List, [], ◌∷◌}
use Rattle.lamport.specs.Table.{sizes_answer}
use Rattle.lamport.specs.Counted.{counted_fresh, counted_answers, counted_after}
use Rattle.lamport.specs.declared.Step.{Step}
use Rattle.lamport.specs.declared.Step.TheVariants.{Ask, Carry, Enter, Leave, Mark}

-- n, capacity, start; the answer to them; steps, their answers, and bench 0's clock at the end
pub data Case : Type 0 where
  case : ℕ → ℕ → ℕ → ℕ → List Step → List ℕ → ℕ → Case

abbrev pub Holds : List Case → Type 0
Holds [] = Unit {0}
Holds (case n capacity start size ks told clock ∷ cs) =
    ((sizes_answer n capacity ≡ size)
    × ((counted_answers (counted_fresh n capacity start) ks ≡ told) × ((counted_after (counted_fresh n capacity start) ks).table.clock 0 ≡ clock)))
    × Holds cs

abbrev pub starred : List Case
starred =
    case 0 4 0 9 [] [] 0
    ∷ case 9 4 0 9 [] [] 0
    ∷ case 2 17 0 9 [] [] 0
    ∷ case 1 4 0 0 (Ask 0 ∷ Enter 0 ∷ []) (0 ∷ 0 ∷ []) 2
    ∷ case 2 1 0 0 (Ask 0 ∷ Ask 1 ∷ Carry 0 1 ∷ []) (0 ∷ 0 ∷ 7 ∷ []) 1
    ∷ case 2 1 0 0 (Ask 0 ∷ Carry 0 1 ∷ Carry 1 0 ∷ Enter 0 ∷ Leave 0 ∷ Ask 0 ∷ []) (0 ∷ 0 ∷ 0 ∷ 0 ∷ 0 ∷ 7 ∷ []) 6
    ∷ case 2 4 4294967294 0 (Mark 0 ∷ Mark 0 ∷ []) (0 ∷ 8 ∷ []) 4294967295
    ∷ case 2 4 4294967293 0 (Ask 0 ∷ Carry 0 1 ∷ []) (0 ∷ 8 ∷ []) 4294967294
    ∷ case 2 4 4294967292 0 (Ask 0 ∷ Carry 0 1 ∷ []) (0 ∷ 0 ∷ []) 4294967293
    ∷ case 2 4 0 0 (Carry 2 2 ∷ []) (2 ∷ []) 0
    ∷ case 2 4 0 0 (Carry 0 0 ∷ []) (3 ∷ []) 0
    ∷ case 2 4 0 0 (Carry 0 1 ∷ []) (5 ∷ []) 0
    ∷ []
