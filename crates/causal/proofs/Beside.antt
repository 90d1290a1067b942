-- Beside: on each channel stand as many counts as messages, and each step keeps it.
use mathlib.Core.Path.{◌≡◌, refl, ap, ◌∙◌, sym}
use mathlib.Core.Bool.{Bool, true, false, cond, not, ◌&&◌}
use mathlib.Core.List.{List, [], ◌∷◌, ◌++◌, append-nil}
use Prim.Native.Nat.{ℕ}
use native.Mathlib.Omega.{arith}
use lib.Dec.{ltb, eqb}
use lib.ListN.{length, length-append}
use Rattle.lamport.specs.declared.Kind.{Kind}
use Rattle.lamport.specs.declared.Kind.TheVariants.{Request, Ack, Release}
use Rattle.lamport.specs.declared.Step.{Step}
use Rattle.lamport.specs.declared.Step.TheVariants.{Ask, Carry, Enter, Leave, Mark}
use Rattle.lamport.specs.Steps.{rest, sends, replies, acts, takes, done}
use Rattle.lamport.specs.Counted.{Counted, brought_back, counted_done}
use Rattle.lamport.proofs.Readings.{cond_same}

abbrev pub Beside : Counted → Type 0
Beside s = (p q : ℕ) → length (s.brought p q) ≡ length (s.table.messages p q)

module _ {A B : Type 0} where
  -- two pairs of lists of one length, joined
  append-beside : (xs xs' : List A) (ys ys' : List B) → length xs ≡ length ys → length xs' ≡ length ys' → length (xs ++ xs') ≡ length (ys ++ ys')
  append-beside xs xs' ys ys' e d = rw (length-append xs xs', length-append ys ys') (omega arith)

  -- and without the first
  rest-beside : (xs : List A) (ys : List B) → length xs ≡ length ys → length (rest xs) ≡ length (rest ys)
  rest-beside [] [] e = refl
  rest-beside [] (y ∷ ys) e = absurd (omega arith)
  rest-beside (x ∷ xs) [] e = absurd (omega arith)
  rest-beside (x ∷ xs) (y ∷ ys) e = omega arith

  -- two readings that change together, or neither
  cond-beside : (c : Bool) (xs xs' : List A) (ys ys' : List B) → length xs' ≡ length ys' → length xs ≡ length ys → length (cond c xs' xs) ≡ length (cond c ys' ys)
  cond-beside true xs xs' ys ys' d e = d
  cond-beside false xs xs' ys ys' d e = e

-- what a carried message sends back
back-beside : (k : Kind) (v : ℕ → ℕ) (clock : ℕ) → length (brought_back k v) ≡ length (replies k clock)
back-beside Request v clock = refl
back-beside Ack v clock = refl
back-beside Release v clock = refl

-- nothing is sent
sends-none : {A : Type 0} (n : ℕ) (f : ℕ → ℕ → List A) (p a b : ℕ) → sends n f p [] a b ≡ f a b
sends-none n f p a b = rw (append-nil (f a b)) (cond_same (eqb a p && (not (eqb b p) && ltb b n)) (f a b))

-- each step that is done keeps it
pub done-beside : (s : Counted) (k : Step) → Beside s → Beside (counted_done s k)
unfolding counted_done done acts takes
done-beside s (Ask p) h a b = cond-beside (eqb a p && (not (eqb b p) && ltb b s.table.benches)) _ _ _ _ (append-beside _ _ _ _ (h a b) refl) (h a b)
done-beside s (Carry p q) h a b =
    cond-beside (eqb a q && eqb b p) _ _ _ _ (append-beside _ _ _ _ (h q p) (back-beside _ _ _))
    (cond-beside (eqb a p && eqb b q) _ _ _ _ (rest-beside _ _ (h p q)) (h a b))
done-beside s (Enter p) h a b = h a b ∙ ap length (sym (sends-none s.table.benches s.table.messages p a b))
done-beside s (Leave p) h a b = cond-beside (eqb a p && (not (eqb b p) && ltb b s.table.benches)) _ _ _ _ (append-beside _ _ _ _ (h a b) refl) (h a b)
done-beside s (Mark p) h a b = h a b ∙ ap length (sym (sends-none s.table.benches s.table.messages p a b))
