-- The number for no of a bench that is not there; and an answer is fixed by its number.
use mathlib.Core.Path.{◌≡◌, refl, sym, ap, ◌∙◌}
use mathlib.Core.Bool.{true}
use Rattle.std.specs.Prelude.{⊤, Result, Ok, Err, cond, eqb}
use Prim.Native.Nat.{ℕ, ◌≤◌}
use native.Mathlib.Omega.{arith}
use Rattle.lamport.specs.declared.Refusal.{Refusal}
use Rattle.lamport.specs.declared.Refusal.TheVariants.{Malformed, NoSuchBench, ToItself, NotAdmitted, NothingThere, NotYet, ChannelFull, ClockSpent, BadSizes, BadLine, NoRoom, TooLong}
use Rattle.lamport.specs.declared.Step.{Step}
use Rattle.lamport.specs.Table.{Table}
use Rattle.lamport.specs.Refusals.{outside, number, answer_number, answer}

module _ (t : Table) (s : Step) where
  pub no-2 : outside t s ≡ true → 2 ≡ answer t s
  unfolding answer
  no-2 a = simp a

-- no refusal has the number of what is done
pub number-some : (refusal : Refusal) → 1 ≤ number refusal
number-some Malformed = omega arith
number-some NoSuchBench = omega arith
number-some ToItself = omega arith
number-some NotAdmitted = omega arith
number-some NothingThere = omega arith
number-some NotYet = omega arith
number-some ChannelFull = omega arith
number-some ClockSpent = omega arith
number-some BadSizes = omega arith
number-some BadLine = omega arith
number-some NoRoom = omega arith
number-some TooLong = omega arith

pub not-done : (r : Refusal) → number r ≡ 0 → ⊥
not-done r e = let some = number-some r in omega arith

-- the refusal that has a number; those past 11 are 12
refusal_of : ℕ → Refusal
refusal_of k = cond (eqb k 1) Malformed (cond (eqb k 2) NoSuchBench (cond (eqb k 3) ToItself (cond (eqb k 4) NotAdmitted
    (cond (eqb k 5) NothingThere (cond (eqb k 6) NotYet (cond (eqb k 7) ChannelFull (cond (eqb k 8) ClockSpent
    (cond (eqb k 9) BadSizes (cond (eqb k 10) BadLine (cond (eqb k 11) NoRoom TooLong))))))))))

back : (r : Refusal) → refusal_of (number r) ≡ r
unfolding refusal_of
back Malformed = refl
back NoSuchBench = refl
back ToItself = refl
back NotAdmitted = refl
back NothingThere = refl
back NotYet = refl
back ChannelFull = refl
back ClockSpent = refl
back BadSizes = refl
back BadLine = refl
back NoRoom = refl
back TooLong = refl

-- no two refusals share a number
pub one-refusal : (r s : Refusal) → number r ≡ number s → r ≡ s
one-refusal r s e = sym (back r) ∙ ap refusal_of e ∙ back s

-- an answer is fixed by its number
pub one-answer : (a b : Result ⊤ Refusal) → answer_number a ≡ answer_number b → a ≡ b
one-answer (Ok x) (Ok y) e = refl
one-answer (Ok x) (Err s) e = absurd (not-done s (sym e))
one-answer (Err r) (Ok y) e = absurd (not-done r e)
one-answer (Err r) (Err s) e = ap Err (one-refusal r s e)
