-- What is printed of a verdict.
use Rattle.std.specs.Prelude.{List, [], ◌∷◌, ◌++◌, ℕ, Result, Ok, Err}
use Rattle.lamport.specs.Refusals.{number}
use Rattle.stamps.specs.declared.Comparison.{Comparison}
use Rattle.stamps.specs.declared.Comparison.TheVariants.{Before, After, Same, Neither}
use Rattle.listing.specs.Record.{refused_text}
use Rattle.schedule.specs.Parts.{lf}
use Rattle.schedule.specs.declared.Refused.{Refused}
use Rattle.verdict.specs.Verdict.{verdict_of}

-- the words `before`, `after`, `same` and `neither`, as bytes
abbrev pub word : Comparison → List ℕ
word Before = 98 ∷ 101 ∷ 102 ∷ 111 ∷ 114 ∷ 101 ∷ []
word After = 97 ∷ 102 ∷ 116 ∷ 101 ∷ 114 ∷ []
word Same = 115 ∷ 97 ∷ 109 ∷ 101 ∷ []
word Neither = 110 ∷ 101 ∷ 105 ∷ 116 ∷ 104 ∷ 101 ∷ 114 ∷ []

-- what is said of the first line's event, or the line that says which line is bad
unfoldable pub shown : Result Comparison Refused → List ℕ
shown (Ok c) = word c ++ (lf ∷ [])
shown (Err r) = refused_text (number r.refusal) r.line

-- what is printed of an input
abbrev pub printed : List ℕ → List ℕ
printed input = shown (verdict_of input)
