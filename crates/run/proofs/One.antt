-- What a run promises leaves it one answer and one output: of any outcome, and so of the one that `run` promises.
use Prim.Native.Nat.{ℕ}
use mathlib.Core.Path.{◌≡◌, sym, ap, ◌∙◌}
use mathlib.Core.List.{List}
use Rattle.std.specs.Prelude.{Result, Ok, Err}
use Rattle.lamport.proofs.Numbers.{not-done, one-refusal}
use Rattle.schedule.specs.declared.Refused.{Refused}
use Rattle.run.specs.Run.{Outcome, Answers}
use Rattle.run.specs.One.{OneRun}

one-refused : (r s : Refused) → r.refusal ≡ s.refusal → r.line ≡ s.line → r ≡ s
one-refused r s e f = ap (λ x. record { refusal = x; line = r.line }) e ∙ ap (λ l. record { refusal = s.refusal; line = l }) f

module _ (o : Outcome) (before after left : List ℕ) where
  one-answer : (a b : Result ℕ Refused) → Answers o a before after → Answers o b before left → a ≡ b
  one-answer (Ok n) (Ok m) x y = ap Ok (x.wrote.bytes ∙ sym y.wrote.bytes)
  one-answer (Ok n) (Err s) x y = absurd (not-done s.refusal (y.no ∙ sym x.no))
  one-answer (Err r) (Ok m) x y = absurd (not-done r.refusal (x.no ∙ sym y.no))
  one-answer (Err r) (Err s) x y = ap Err (one-refused r s (one-refusal r.refusal s.refusal (x.no ∙ sym y.no)) (x.line ∙ sym y.line))

pub one-run : OneRun
one-run o before after left a b x y = (one-answer o before after left a b x y, x.wrote.text ∙ sym y.wrote.text)
