-- A step on a table where the clocks run ahead of the counts.
use mathlib.Core.Path.{◌≡◌, ap, ◌∙◌, subst, sym}
use mathlib.Core.Bool.{true}
use Prim.Native.Nat.{ℕ}
use Rattle.lamport.specs.declared.Step.{Step}
use Rattle.lamport.specs.Counted.{Counted}
use Rattle.ahead.specs.Ahead.{Ahead}
use Rattle.ahead.proofs.Ahead.{stays-ahead, answers-as, next-as}
use Rattle.counted.specs.declared.Lent.{Lent}
use Rattle.counted.specs.Post.{read, lent_ok, Stepped}
use Rattle.counted.proofs.Determined.{answered, follows}
use Rattle.reached.specs.Advanced.{Advanced}

module _ (t : Lent) (s : Step) (r : ℕ) (u : Lent) (w : lent_ok t ≡ true) (h : Ahead (read t)) (m : Stepped t s r u) where
  pub advanced : Advanced t s r u
  advanced =
      record {
        answered = answered t s r u w m ∙ answers-as (read t) h s;
        viewed = ap (λ (x : Counted). x.table) (follows t s r u w m) ∙ next-as (read t) h s;
        counted = follows t s r u w m;
      }

  pub still-ahead : Ahead (read u)
  still-ahead = subst Ahead (sym (follows t s r u w m)) (stays-ahead (read t) h s)
