-- The lines of the listing, as bytes.
use Rattle.std.specs.Prelude.{List, [], ◌∷◌, ◌++◌, ℕ, Option, Some, None}
use Rattle.listing.specs.Write.{digits}
use Rattle.listing.specs.declared.Record.{Record}

abbrev pub lf : ℕ
lf = 10

abbrev pub tab : ℕ
tab = 9

-- a field: a number, or `-`
unfoldable pub cell_text : Option ℕ → List ℕ
cell_text (Some x) = digits x
cell_text None = 45 ∷ []

-- fields with tabs between them, and the byte `end` after the last
unfoldable pub fields : List (Option ℕ) → ℕ → List ℕ
fields [] end = []
fields (c ∷ []) end = cell_text c ++ (end ∷ [])
fields (c ∷ d ∷ ds) end = cell_text c ++ (tab ∷ fields (d ∷ ds) end)

-- a record: step number, answer, bench, its clock, phase and place, the holder
unfoldable pub record_text : Record → List ℕ
record_text r =
    fields (Some r.step ∷ Some r.answer ∷ r.bench ∷ r.clock ∷ r.phase ∷ r.place ∷ r.holder ∷ []) lf

-- a word, its tab with it, and two numbers
unfoldable pub word_line : List ℕ → ℕ → ℕ → List ℕ
word_line word a b = word ++ fields (Some a ∷ Some b ∷ []) lf

-- the last line: `end`, steps taken, steps refused
unfoldable pub end_text : ℕ → ℕ → List ℕ
end_text taken refused = word_line (101 ∷ 110 ∷ 100 ∷ tab ∷ []) taken refused

-- the program's line for a run that is refused: `refused`, number, line
unfoldable pub refused_text : ℕ → ℕ → List ℕ
refused_text number line = word_line (114 ∷ 101 ∷ 102 ∷ 117 ∷ 115 ∷ 101 ∷ 100 ∷ tab ∷ []) number line
