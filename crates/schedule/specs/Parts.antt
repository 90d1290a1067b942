-- How a text is parted: lines end in LF, fields are parted by one tab.
use Rattle.std.specs.Prelude.{Bool, true, false, cond, List, [], ◌∷◌, ◌++◌, ◌≡◌, ℕ, suc, eqb}

abbrev pub lf : ℕ
lf = 10

abbrev pub tab : ℕ
tab = 9

-- a byte in front of the first of some parts
unfoldable pub on_first : ℕ → List (List ℕ) → List (List ℕ)
on_first x [] = (x ∷ []) ∷ []
on_first x (p ∷ ps) = (x ∷ p) ∷ ps

-- the parts of a text that are parted by b: one more than there are b in it
unfoldable pub parts : ℕ → List ℕ → List (List ℕ)
parts b [] = [] ∷ []
parts b (x ∷ xs) = cond (eqb x b) ([] ∷ parts b xs) (on_first x (parts b xs))

-- a text that is cut at its first b: what stands before it, and what follows
pub record IsCut (b : ℕ) (text front rest : List ℕ) : Type 0 where
  pub parted : parts b text ≡ front ∷ parts b rest
  pub whole : text ≡ front ++ (b ∷ rest)

-- how many b there are in a text
unfoldable pub count : ℕ → List ℕ → ℕ
count b [] = 0
count b (x ∷ xs) = cond (eqb x b) (suc (count b xs)) (count b xs)

-- whether two texts are the same
unfoldable pub same : List ℕ → List ℕ → Bool
same [] [] = true
same [] (y ∷ ys) = false
same (x ∷ xs) [] = false
same (x ∷ xs) (y ∷ ys) = cond (eqb x y) (same xs ys) false
