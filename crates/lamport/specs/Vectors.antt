-- Vector stamps: each bench counts the events of every bench, by VC1 and VC2. A stamp is the eight counts of its bench.
use Rattle.std.specs.Prelude.{ℕ, ◌+◌, max, cond, List, [], ◌∷◌, eqb, get_or}
use Rattle.lamport.specs.declared.Kind.{Kind}
use Rattle.lamport.specs.declared.Kind.TheVariants.{Request, Ack, Release}
use Rattle.lamport.specs.Steps.{at1}

-- ---- the rules, for the counts of one bench

-- VC1, of an event of bench p that is no receipt: its own count goes up by 1
abbrev pub vc1 : ℕ → (ℕ → ℕ) → ℕ → ℕ
vc1 p v = at1 v p (v p + 1)

-- VC2, of the receipt at bench q of a message with the counts w: its own count only goes up by 1; the maximum is taken over the others
abbrev pub vc2 : ℕ → (ℕ → ℕ) → (ℕ → ℕ) → ℕ → ℕ
vc2 q v w a = cond (eqb a q) (v q + 1) (max (v a) (w a))

-- a request's receipt is followed by a second event, its acknowledgement
abbrev pub counts_acknowledged : Kind → ℕ → (ℕ → ℕ) → ℕ → ℕ
counts_acknowledged Request q v = vc1 q v
counts_acknowledged Ack q v = v
counts_acknowledged Release q v = v

-- the receiver's counts after a message with the counts w was carried to it
abbrev pub counts_after : Kind → ℕ → (ℕ → ℕ) → (ℕ → ℕ) → ℕ → ℕ
counts_after k q v w = counts_acknowledged k q (vc2 q v w)

-- ---- where they stand

-- a row of words, read as counts: what is past its end is zero
abbrev pub counts_in : List ℕ → ℕ → ℕ
counts_in row a = get_or row a 0

-- the counts that the oldest message of a channel brings; where there is none, zeros
abbrev pub first_counts : List (ℕ → ℕ) → ℕ → ℕ
first_counts [] = λ a. 0
first_counts (v ∷ vs) = v
