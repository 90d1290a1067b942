-- What one step adds, by the bench that it marks.
use Prim.Native.Nat.{ℕ, ◌<◌}
use native.Mathlib.Omega.{arith}
use mathlib.Core.Path.{◌≡◌, refl, sym, ◌∙◌}
use mathlib.Core.Bool.{Bool, true, false, cond}
use borrow.Author.Tests.{eqb-true, leb-false}
use lib.Dec.{eqb}
use Rattle.std.specs.Prelude.{Option, Some, None}
use Rattle.lamport.specs.Refusals.{answer}
use Rattle.lamport.specs.declared.Step.{Step}
use Rattle.lamport.specs.declared.Step.TheVariants.{Ask, Carry, Enter, Leave, Mark}
use Rattle.lamport.proofs.Granted.{granted}
use Rattle.ahead.specs.Ahead.{Ahead}
use Rattle.ahead.proofs.Ahead.{answers-as}
use Rattle.words.specs.View.{view}
use Rattle.words.proofs.Formed.{few}
use Rattle.counted.specs.declared.Lent.{Lent}
use Rattle.counted.specs.Post.{read, lent_ok}
use Rattle.counted.proofs.Stepping.{words-formed}
use Rattle.reached.specs.Advanced.{Advanced}
use Rattle.marks.specs.Reading.{marked, reading_if, reading_of}

-- a bench that is marked is that of a mark answered 0
marked-is : (r : ℕ) (x : Step) (p : ℕ) → marked r x ≡ Some p → (x ≡ Mark p) × (r ≡ 0)
marked-is r (Ask a) p e = cc
marked-is r (Carry a b) p e = cc
marked-is r (Enter a) p e = cc
marked-is r (Leave a) p e = cc
marked-is r (Mark a) p e = go (eqb r 0) refl e
  where
    go : (b : Bool) → eqb r 0 ≡ b → cond b (Some a) None ≡ Some p → (Mark a ≡ Mark p) × (r ≡ 0)
    go true f k = (cc, eqb-true r 0 f)
    go false f k = absurd (cc)

module _ (t : Lent) (x : Step) (r : ℕ) (u : Lent) (m : Advanced t x r u) where
  -- it is one of the table's, and so there is room for it
  pub marks-bench : (p : ℕ) → marked r x ≡ Some p → lent_ok t ≡ true → p < 8
  marks-bench p e w =
      let is = marked-is r x p e in
      let z : answer (view t.words) (Mark p) ≡ 0 = rw is.0 at (sym m.answered ∙ is.1) in
      omega (arith, leb-false (view t.words).benches p (granted (view t.words) (Mark p) z).inside, few t.words (words-formed t w))

  -- what the step adds, by the bench that it marks
  pub adds : (k : ℕ) (o : Option ℕ) → Ahead (read t) → o ≡ marked r x → reading_if k o (read u) ≡ reading_of k (read t) x
  unfolding reading_of
  adds k o h e = rw (answers-as (read t) h x, ← m.answered, ← e, ← m.counted) refl
