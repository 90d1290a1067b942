-- What a carry makes of the receiver's own count.
use Prim.Native.Nat.{ℕ, ◌+◌}
use mathlib.Core.Path.{◌≡◌, ap, ◌∙◌, sym}
use mathlib.Core.List.{List}
use mathlib.Core.Logic.{◌⊎◌}
use Rattle.lamport.specs.declared.Kind.{Kind}
use Rattle.lamport.specs.declared.Kind.TheVariants.{Request, Ack, Release}
use Rattle.lamport.specs.declared.Message.{Message}
use Rattle.lamport.specs.declared.Step.TheVariants.{Carry}
use Rattle.lamport.specs.Steps.{first}
use Rattle.lamport.specs.Vectors.{counts_after, first_counts}
use Rattle.lamport.specs.Counted.{counts_then}
use Rattle.words.specs.View.{view}
use Rattle.vectors.proofs.Carrying.{raised-once, raised-twice}
use Rattle.vectors.specs.Rows.{counts, brought, counted}

module _ (k : Kind) (q own : ℕ) (v w : ℕ → ℕ) (e : v q ≡ own) where
  -- a request raises it twice, any other message once
  pub twice : k ≡ Request → own + 1 + 1 ≡ counts_after k q v w q
  twice is = sym (raised-twice k q v w is ∙ ap (λ x. x + 1 + 1) e)

  pub once : (k ≡ Ack) ⊎ (k ≡ Release) → own + 1 ≡ counts_after k q v w q
  once is = sym (raised-once k q v w is ∙ ap (λ x. x + 1) e)

-- x is what becomes of the receiver's own count, whatever its other counts and those of the message o are
pub carried-own : (t : List ℕ) (r : List (List ℕ)) (p q x own : ℕ) (o : Message) → o ≡ first ((view t).messages p q) → own ≡ counts r q q
    → ((a : ℕ) (v w : ℕ → ℕ) → v a ≡ own → x ≡ counts_after o.kind a v w a) → x ≡ counts_then (counted t r) (Carry p q) q
carried-own t r p q x own o f e each = rw f at (each q (counts r q) (first_counts (brought t r p q)) (sym e))
