-- Ahead: a bench's own count stays at most its clock, so 8 by a count is never what refuses.
use mathlib.Core.Path.{◌≡◌, refl, ap, ◌∙◌}
use mathlib.Core.Bool.{Bool, true, false, cond}
use mathlib.Core.List.{List, [], ◌∷◌}
use Prim.Native.Nat.{ℕ, ◌≤◌}
use native.Mathlib.Omega.{arith}
use native.Mathlib.Decide.{ℕ_discrete}
use borrow.Author.Tests.{le-ltb, eq-eqb, ne_eqb}
use lib.Dec.{eqb}
use Rattle.lamport.specs.declared.Kind.{Kind}
use Rattle.lamport.specs.declared.Kind.TheVariants.{Request, Ack, Release}
use Rattle.lamport.specs.declared.Step.{Step}
use Rattle.lamport.specs.declared.Step.TheVariants.{Ask, Carry, Enter, Leave, Mark}
use Rattle.lamport.specs.Order.{limit, lc2, acknowledged}
use Rattle.lamport.specs.Table.{Table}
use Rattle.lamport.specs.Steps.{actor, first, at1, acts, takes, done}
use Rattle.lamport.specs.Refusals.{clock_then, answer, next, answers, after}
use Rattle.lamport.specs.Vectors.{counts_after, first_counts}
use Rattle.lamport.specs.Counted.{Counted, counted_fresh, counts_then, counted_done, count_spent, counted_answer, counted_next, counted_answers, counted_after}
use Rattle.lamport.proofs.Readings.{at1-here}
use Rattle.lamport.proofs.Granted.{granted}
use Rattle.ahead.specs.Ahead.{Ahead, CountsNeverDecide}

-- ---- a fresh table

-- its counts are 0
pub fresh-ahead : (n capacity start : ℕ) → Ahead (counted_fresh n capacity start)
fresh-ahead n capacity start p = omega arith

-- ---- what a step does to the count and to the clock of its bench

-- a carried message raises the own count no further than the clock
carried-below : (k : Kind) (q clock t : ℕ) (v w : ℕ → ℕ) → v q ≤ clock → counts_after k q v w q ≤ acknowledged k (lc2 clock t)
carried-below Request q clock t v w l = rw (eq-eqb q q refl) (omega arith)
carried-below Ack q clock t v w l = rw (eq-eqb q q refl) (omega arith)
carried-below Release q clock t v w l = rw (eq-eqb q q refl) (omega arith)

-- a step that is done moves the clock of its bench alone
done-clock : (s : Table) (k : Step) (a : ℕ) → (done s k).clock a ≡ at1 s.clock (actor k) (clock_then s k) a
unfolding done acts takes
done-clock s (Ask p) a = refl
done-clock s (Carry p q) a = refl
done-clock s (Enter p) a = refl
done-clock s (Leave p) a = refl
done-clock s (Mark p) a = refl

-- ---- one step from a table whose clocks are ahead

module _ (s : Counted) (h : Ahead s) where
  -- the own count that a step would give is at most the clock that it would give
  own-below : (k : Step) → counts_then s k (actor k) ≤ clock_then s.table k
  own-below (Ask p) = rw at1-here (omega (arith, h p))
  own-below (Carry p q) = carried-below (first (s.table.messages p q)).kind q (s.table.clock q) _ (s.counts q) (first_counts (s.brought p q)) (h q)
  own-below (Enter p) = rw at1-here (omega (arith, h p))
  own-below (Leave p) = rw at1-here (omega (arith, h p))
  own-below (Mark p) = rw at1-here (omega (arith, h p))

  -- they stay ahead after a step that is done
  done-ahead : (k : Step) → Ahead (counted_done s k)
  unfolding counted_done
  done-ahead k a = rw (done-clock s.table k a) (go (ℕ_discrete a (actor k)))
    where
      go : Dec (a ≡ actor k) → cond (eqb a (actor k)) (counts_then s k) (s.counts a) a ≤ at1 s.table.clock (actor k) (clock_then s.table k) a
      go (yes e) = rw (e, eq-eqb (actor k) (actor k) refl) (own-below k)
      go (no ne) = rw (ne_eqb a (actor k) ne) (h a)

  -- and after any step, done or refused
  pub stays-ahead : (k : Step) → Ahead (counted_next s k)
  unfolding counted_next
  stays-ahead k = go (eqb (counted_answer s k) 0)
    where
      go : (b : Bool) → Ahead (cond b (counted_done s k) s)
      go true = done-ahead k
      go false = h

  -- where nothing else refuses the clock fits, and so does the count
  pub answers-as : (k : Step) → counted_answer s k ≡ answer s.table k
  unfolding counted_answer
  answers-as k = go (ℕ_discrete (answer s.table k) 0)
    where
      go : Dec (answer s.table k ≡ 0) → cond (eqb (answer s.table k) 0) (cond (count_spent s k) 8 0) (answer s.table k) ≡ answer s.table k
      go (yes e) =
          let fits : counts_then s k (actor k) ≤ limit = omega (arith, own-below k, (granted s.table k e).fits) in
          rw (e, le-ltb limit (counts_then s k (actor k)) fits)
      go (no ne) = rw (ne_eqb (answer s.table k) 0 ne)

  -- the table goes on as without counts
  pub next-as : (k : Step) → (counted_next s k).table ≡ next s.table k
  unfolding counted_next counted_done next
  next-as k = rw (answers-as k) (go (eqb (answer s.table k) 0))
    where
      go : (b : Bool) → (cond b (counted_done s k) s).table ≡ cond b (done s.table k) s.table
      go true = refl
      go false = refl

-- ---- a list of steps from such a table

-- the clocks stay ahead
pub after-ahead : (s : Counted) → Ahead s → (ks : List Step) → Ahead (counted_after s ks)
after-ahead s h [] = h
after-ahead s h (k ∷ ks) = after-ahead (counted_next s k) (stays-ahead s h k) ks

-- the table that it leads to, and the answers, are those without counts
pub after-as : (s : Counted) → Ahead s → (ks : List Step) → (counted_after s ks).table ≡ after s.table ks
after-as s h [] = refl
after-as s h (k ∷ ks) = after-as (counted_next s k) (stays-ahead s h k) ks ∙ ap (λ t. after t ks) (next-as s h k)

pub all-answers-as : (s : Counted) → Ahead s → (ks : List Step) → counted_answers s ks ≡ answers s.table ks
all-answers-as s h [] = refl
all-answers-as s h (k ∷ ks) = rw (answers-as s h k, all-answers-as (counted_next s k) (stays-ahead s h k) ks, next-as s h k)

-- ---- and so from a fresh table

pub never-decides : CountsNeverDecide
never-decides n capacity start ks =
    let s = counted_fresh n capacity start in
    let h = fresh-ahead n capacity start in
    record {
      ahead = after-ahead s h ks;
      table = after-as s h ks;
      answered = all-answers-as s h ks;
      next = λ k. answers-as (counted_after s ks) (after-ahead s h ks) k ∙ ap (λ t. answer t k) (after-as s h ks);
    }
