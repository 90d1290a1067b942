-- What a line of the schedule says: a header or a step. A bad line says neither.
use Rattle.std.specs.Prelude.{cond, List, [], ◌∷◌, ◌++◌, ℕ, Option, Some, None}
use Rattle.lamport.specs.declared.Step.TheVariants.{Ask, Carry, Enter, Leave, Mark}
use Rattle.schedule.specs.Parts.{tab, parts, same}
use Rattle.schedule.specs.Number.{number_of}
use Rattle.schedule.specs.declared.Line.{Line}
use Rattle.schedule.specs.declared.Line.TheVariants as L

-- the words `table`, `ask`, `enter`, `leave`, `mark` and `carry`, as bytes
abbrev pub table : List ℕ
table = 116 ∷ 97 ∷ 98 ∷ 108 ∷ 101 ∷ []

abbrev pub ask : List ℕ
ask = 97 ∷ 115 ∷ 107 ∷ []

abbrev pub enter : List ℕ
enter = 101 ∷ 110 ∷ 116 ∷ 101 ∷ 114 ∷ []

abbrev pub leave : List ℕ
leave = 108 ∷ 101 ∷ 97 ∷ 118 ∷ 101 ∷ []

abbrev pub mark : List ℕ
mark = 109 ∷ 97 ∷ 114 ∷ 107 ∷ []

abbrev pub carry : List ℕ
carry = 99 ∷ 97 ∷ 114 ∷ 114 ∷ 121 ∷ []

-- the header: `table`, n, capacity, start
unfoldable pub header : List ℕ → ℕ → ℕ → ℕ → Option Line
header word n capacity start =
    cond (same word table) (Some (L.Header (record { benches = n; capacity = capacity; start = start }))) None

-- a step of one bench: `ask p`, `enter p`, `leave p` or `mark p`
unfoldable pub one_bench : List ℕ → ℕ → Option Line
one_bench word p =
    cond (same word ask) (Some (L.Step (Ask p)))
    (cond (same word enter) (Some (L.Step (Enter p)))
    (cond (same word leave) (Some (L.Step (Leave p))) (cond (same word mark) (Some (L.Step (Mark p))) None)))

-- a step of two: `carry p q`
unfoldable pub two_benches : List ℕ → ℕ → ℕ → Option Line
two_benches word p q = cond (same word carry) (Some (L.Step (Carry p q))) None

-- a word and its numbers; anything else is a bad line
unfoldable pub line_for : List ℕ → List ℕ → Option Line
line_for word [] = None
line_for word (p ∷ []) = one_bench word p
line_for word (p ∷ q ∷ []) = two_benches word p q
line_for word (n ∷ capacity ∷ start ∷ []) = header word n capacity start
line_for word (n ∷ capacity ∷ start ∷ x ∷ xs) = None

-- a field that is no number makes a bad line
unfoldable pub on_number : Option ℕ → (ℕ → Option Line) → Option Line
on_number (Some x) f = f x
on_number None f = None

-- a word and the numbers read so far, with the fields that are left
unfoldable pub reading : List ℕ → List ℕ → List (List ℕ) → Option Line
reading word numbers [] = line_for word numbers
reading word numbers (f ∷ fs) = on_number (number_of f) (λ x. reading word (numbers ++ (x ∷ [])) fs)

-- the fields of a line: the first is its word
unfoldable pub fields_line : List (List ℕ) → Option Line
fields_line [] = None
fields_line (word ∷ fs) = reading word [] fs

-- a line, without its LF
unfoldable pub line_of : List ℕ → Option Line
line_of s = fields_line (parts tab s)
