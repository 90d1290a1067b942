-- What an answer of 0 says: that no refusal applies.
use Prim.Native.Nat.{ℕ, suc, ◌≤◌}
use native.Mathlib.Omega.{arith}
use mathlib.Core.Path.{◌≡◌, refl}
use mathlib.Core.Bool.{Bool, true, false, cond}
use lib.Dec.{eqb}
use borrow.Author.Tests.{ltb-false, eq-eqb, not-false}
use Rattle.lamport.specs.declared.Step.{Step}
use Rattle.lamport.specs.declared.Step.TheVariants.{Ask, Carry, Enter, Leave, Mark}
use Rattle.lamport.specs.Order.{limit}
use Rattle.lamport.specs.Table.{Table}
use Rattle.lamport.specs.Steps.{actor, admitted, acts, takes, done}
use Rattle.lamport.specs.Refusals.{outside, to_itself, not_admitted, nothing_there, not_yet, no_room, clock_then, clock_spent, answer, next}

passed : (b : Bool) (k rest : ℕ) → cond b (suc k) rest ≡ 0 → (b ≡ false) × (rest ≡ 0)
passed true k rest e = absurd (omega arith)
passed false k rest e = (refl, e)

pub record Granted (s : Table) (k : Step) : Type 0 where
  pub inside : outside s k ≡ false
  pub apart : to_itself k ≡ false
  pub fit : admitted k (s.phase (actor k)) ≡ true
  pub something : nothing_there s k ≡ false
  pub ready : not_yet s k ≡ false
  pub room : no_room s k ≡ false
  pub fits : clock_then s k ≤ limit

pub granted : (s : Table) (k : Step) → answer s k ≡ 0 → Granted s k
unfolding answer
granted s k e =
    let b = passed (outside s k) 1 _ e in
    let c = passed (to_itself k) 2 _ b.1 in
    let d = passed (not_admitted s k) 3 _ c.1 in
    let f = passed (nothing_there s k) 4 _ d.1 in
    let g = passed (not_yet s k) 5 _ f.1 in
    let h = passed (no_room s k) 6 _ g.1 in
    let i = passed (clock_spent s k) 7 0 h.1 in
    record {
      inside = b.0;
      apart = c.0;
      fit = not-false _ d.0;
      something = f.0;
      ready = g.0;
      room = h.0;
      fits = ltb-false _ _ i.0;
    }

-- a step that is answered 0 is done
pub next-done : (s : Table) (k : Step) → answer s k ≡ 0 → next s k ≡ done s k
unfolding next
next-done s k e = rw (eq-eqb (answer s k) 0 e)

-- no step changes a size
pub done-sizes : (s : Table) (k : Step) → ((done s k).benches ≡ s.benches) × ((done s k).capacity ≡ s.capacity)
unfolding done acts takes
done-sizes s (Ask p) = (refl, refl)
done-sizes s (Carry p q) = (refl, refl)
done-sizes s (Enter p) = (refl, refl)
done-sizes s (Leave p) = (refl, refl)
done-sizes s (Mark p) = (refl, refl)

pub next-benches : (s : Table) (k : Step) → (next s k).benches ≡ s.benches
unfolding next
next-benches s k = go (eqb (answer s k) 0)
  where
    go : (b : Bool) → (cond b (done s k) s).benches ≡ s.benches
    go true = (done-sizes s k).0
    go false = refl
