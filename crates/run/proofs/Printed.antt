-- What is printed of an answer.
use Prim.Native.Nat.{ℕ, ◌≤◌}
use native.Mathlib.Omega.{arith}
use mathlib.Core.Path.{◌≡◌, sym}
use mathlib.Core.List.{List}
use borrow.Author.Tests.{ne_eqb}
use lib.ListN.{length}
use Rattle.std.specs.Prelude.{Result, Ok, Err, IfOk}
use Rattle.std.proofs.lemmas.List.{nil_from_length}
use Rattle.lamport.specs.Refusals.{number}
use Rattle.lamport.proofs.Numbers.{number-some}
use Rattle.listing.specs.Write.{over, Wrote}
use Rattle.listing.specs.Record.{refused_text}
use Rattle.listing.proofs.Laws.{written-within}
use Rattle.schedule.specs.declared.Refused.{Refused}
use Rattle.run.specs.Run.{Outcome, Answers, shown}

-- what is done lies within the output
pub answered_within : {o : Outcome} {before after : List ℕ} (a : Result ℕ Refused) → Answers o a before after → IfOk a (λ n. n ≤ length after)
answered_within (Ok n) a = written-within a.wrote
answered_within (Err r) a = tt

module _ (o : Outcome) (before after : List ℕ) (r : Refused) (a : Answers o (Err r) before after) where
  untouched : after ≡ before
  unfolding over
  untouched = rw (nil_from_length o.text (sym a.wrote.bytes)) at a.wrote.text

  shown-refused : shown o ≡ refused_text (number r.refusal) r.line
  shown-refused =
      let some : o.no ≡ 0 → ⊥ = λ z. omega (arith, a.no, number-some r.refusal) in
      rw (ne_eqb o.no 0 some, ← a.no, ← a.line)

  -- of a refusal the line that says why, over the output as it was
  pub printed-refused : (n : ℕ) (left : List ℕ) → Wrote (refused_text (number r.refusal) r.line) n after left → Wrote (shown o) n before left
  printed-refused n left w = rw (shown-refused, ← untouched) w
