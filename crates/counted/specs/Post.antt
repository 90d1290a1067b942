-- What the entry points promise, of the table lent at entry and at exit.
use Rattle.std.specs.Prelude.{ℕ, ◌≡◌, true, false, Bool, cond, ◌&&◌, List, replicate, leb, eqb}
use Rattle.lamport.specs.Table.{sizes_ok, sizes_answer}
use Rattle.lamport.specs.Counted.{Counted, counted_fresh, counted_answer, counted_next}
use Rattle.lamport.specs.declared.Step.{Step}
use Rattle.words.specs.Places.{size}
use Rattle.words.specs.WellFormed.{well_formed}
use Rattle.vectors.specs.Rows.{counted, rows, row_of, zeros}
use Rattle.vectors.specs.Formed.{counts_ok}
use Rattle.counted.specs.declared.Lent.{Lent}

-- the larger table that is read in what is lent
abbrev pub read : Lent → Counted
read t = counted t.words t.counts

-- the words are well formed, and so are the rows of counts
unfoldable pub lent_ok : Lent → Bool
lent_ok t = well_formed t.words && counts_ok t.words t.counts

-- 1: the table isn't well formed; else what the rules say
unfoldable pub answer_of : Lent → Step → ℕ
answer_of t s = cond (lent_ok t) (counted_answer (read t) s) 1

-- the step s on the table t is answered r, and leaves the table u
pub record Stepped (t : Lent) (s : Step) (r : ℕ) (u : Lent) : Type 0 where
  pub answered : r ≡ answer_of t s
  -- a refusal returns the table given
  pub untouched : (r ≡ 0 → ⊥) → u ≡ t
  -- done leaves the rules' next table, well formed, which fixes every word
  pub done : r ≡ 0 → read u ≡ counted_next (read t) s
  pub formed : r ≡ 0 → lent_ok u ≡ true

-- all words and all counts are zero
abbrev pub all_zero : Lent
all_zero = record { words = replicate size 0; counts = replicate rows zeros }

-- a fresh table of n benches: the answer r and the table u
pub record Made (n capacity start r : ℕ) (u : Lent) : Type 0 where
  pub answered : r ≡ sizes_answer n capacity
  -- bad sizes give an all-zero table
  pub zero : sizes_ok n capacity ≡ false → u ≡ all_zero
  pub done : sizes_ok n capacity ≡ true → read u ≡ counted_fresh n capacity start
  pub formed : sizes_ok n capacity ≡ true → lent_ok u ≡ true

-- the answer to one who asks for the counts of bench p: 1, the table isn't well formed; then 2, the bench number is n or more
unfoldable pub counts_answer : Lent → ℕ → ℕ
counts_answer t p = cond (lent_ok t) (cond (leb (read t).table.benches p) 2 0) 1

-- the counts of bench p of the table t are asked for: the answer r, and what is left in the words that were lent for them; a refusal writes nothing
pub record Handed (t : Lent) (p r : ℕ) (before after : List ℕ) : Type 0 where
  pub answered : r ≡ counts_answer t p
  pub written : after ≡ cond (eqb r 0) (row_of ((read t).counts p)) before
