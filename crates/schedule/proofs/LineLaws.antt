-- A line whose word and first numbers are read, by its next field.
use mathlib.Core.Path.{◌≡◌, refl}
use mathlib.Core.List.{List, [], ◌∷◌, ◌++◌}
use Prim.Native.Nat.{ℕ}
use lib.ListN.{drop}
use Rattle.std.specs.Prelude.{Option, Some, None}
use Rattle.schedule.specs.Parts.{tab, parts, IsCut}
use Rattle.schedule.specs.Number.{number_of}
use Rattle.schedule.specs.Lines.{line_for, on_number, reading, fields_line, line_of}
use Rattle.schedule.specs.declared.Line.{Line}
use Rattle.schedule.proofs.PartsLaws.{up_to, parts-cons}

-- the next field, with more behind it
module _ (word numbers rest : List ℕ) {f after : List ℕ} (cut : IsCut tab rest f after) where
  pub next_bad : number_of f ≡ None → reading word numbers (parts tab rest) ≡ None
  unfolding reading on_number
  next_bad e = rw (cut.parted, e)

  pub next_read : {x : ℕ} → number_of f ≡ Some x → reading word numbers (parts tab rest) ≡ reading word (numbers ++ (x ∷ [])) (parts tab after)
  unfolding reading on_number
  next_read e = rw (cut.parted, e)

-- the last field
module _ (word numbers rest : List ℕ) (one : parts tab rest ≡ rest ∷ []) where
  pub last_bad : number_of rest ≡ None → reading word numbers (parts tab rest) ≡ None
  unfolding reading on_number
  last_bad e = rw (one, e)

  pub last_read : {x : ℕ} → number_of rest ≡ Some x → reading word numbers (parts tab rest) ≡ line_for word (numbers ++ (x ∷ []))
  unfolding reading on_number
  last_read e = rw (one, e)

-- more than three numbers make no line
bad_on : (n : Option ℕ) (f : ℕ → Option Line) → ((x : ℕ) → f x ≡ None) → on_number n f ≡ None
unfolding on_number
bad_on (Some x) f h = h x
bad_on None f h = refl

reading-many : (word numbers : List ℕ) (a b c d : ℕ) (fs : List (List ℕ)) → reading word (a ∷ b ∷ c ∷ d ∷ numbers) fs ≡ None
unfolding reading line_for
reading-many word numbers a b c d [] = refl
reading-many word numbers a b c d (f ∷ fs) = bad_on (number_of f) (λ x. reading word (a ∷ b ∷ c ∷ d ∷ numbers ++ (x ∷ [])) fs) (λ x. reading-many word (numbers ++ (x ∷ [])) a b c d fs)

pub reading_fourth : (word : List ℕ) (x y : ℕ) {rest f after : List ℕ} → IsCut tab rest f after → reading word (x ∷ y ∷ []) (parts tab rest) ≡ None
unfolding reading
reading_fourth word x y {rest} {f} {after} cut =
    rw (cut.parted, parts-cons tab after)
    (bad_on (number_of f) _ (λ z. bad_on (number_of (up_to tab after)) _ (λ t. reading-many word [] x y z t (drop 1 (parts tab after)))))

pub ruleset reading_laws = (next_bad, last_bad, reading_fourth)

-- a line: a word alone, or with fields
pub line_word : (line : List ℕ) → parts tab line ≡ line ∷ [] → line_of line ≡ None
unfolding line_of fields_line reading line_for
line_word line one = rw one

pub line_fields : {line word rest : List ℕ} → IsCut tab line word rest → line_of line ≡ reading word [] (parts tab rest)
unfolding line_of fields_line
line_fields cut = rw cut.parted

pub ruleset line_laws = (line_word, line_fields)
