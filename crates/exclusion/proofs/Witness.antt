-- Witnessed, by computation.
use mathlib.Core.Path.{◌≡◌, refl}
use mathlib.Core.Logic.{◌≢◌}
use mathlib.Core.List.{[]}
use Prim.Native.Nat.{ℕ, zero, suc, ◌<◌}
use native.Mathlib.Omega.{arith}
use Rattle.lamport.specs.Each.{all_below, some_below}
use Rattle.lamport.specs.Order.{own_first, late_enough, heard_all, entry_rule}
use Rattle.lamport.specs.Table.{Table, idle, waiting, holding}
use Rattle.lamport.specs.Steps.{acts, takes, done}
use Rattle.lamport.specs.Refusals.{any_full, answer, next, after}
use Rattle.exclusion.specs.Demand.{Quiet, ComesFirst}
use Rattle.exclusion.specs.Witness.{two, one_asks, late, Witnessed}

-- a fact of each of two benches
each_of_two : (P : ℕ → Type 0) → P 0 → P 1 → (q : ℕ) → q < 2 → P q
each_of_two P a b zero h = a
each_of_two P a b (suc zero) h = b
each_of_two P a b (suc (suc q)) h = absurd (omega arith)

-- ---- a bench that waits alone, with no message in transit

record Alone (s : Table) : Type 0 where
  two : s.benches ≡ 2
  there : s.messages 0 1 ≡ []
  back : s.messages 1 0 ≡ []
  waits : s.phase 0 ≡ waiting
  rests : s.phase 1 ≡ idle

module _ (s : Table) (al : Alone s) where
  empty-at : (p : ℕ) → p < 2 → (q : ℕ) → q < 2 → p ≢ q → s.messages p q ≡ []
  empty-at =
      each_of_two (λ p. (q : ℕ) → q < 2 → p ≢ q → s.messages p q ≡ [])
      (each_of_two (λ q. 0 ≢ q → s.messages 0 q ≡ []) (λ ne. absurd (ne refl)) (λ ne. al.there))
      (each_of_two (λ q. 1 ≢ q → s.messages 1 q ≡ []) (λ ne. al.back) (λ ne. absurd (ne refl)))

  free-at : (p : ℕ) → p < 2 → s.phase p ≢ holding
  free-at = each_of_two (λ p. s.phase p ≢ holding) (λ e. omega (arith, al.waits)) (λ e. omega (arith, al.rests))

  rest_at : (q : ℕ) → q < 2 → q ≢ 0 → s.phase q ≢ waiting
  rest_at = each_of_two (λ q. q ≢ 0 → s.phase q ≢ waiting) (λ ne. absurd (ne refl)) (λ ne w. omega (arith, al.rests))

  alone-quiet : Quiet s
  alone-quiet =
      record {
        empty = λ p q hp hq. empty-at p (omega (arith, al.two)) q (omega (arith, al.two));
        free = λ p h. free-at p (omega (arith, al.two));
        waiter = 0;
        inside = omega (arith, al.two);
        waits = al.waits;
      }

  alone-first : ComesFirst s 0
  alone-first = record { inside = omega (arith, al.two); waits = al.waits; ahead = λ q h ne w. absurd (rest_at q (omega (arith, al.two)) ne w) }

alone-early : Alone (after two one_asks)
unfolding answer next done acts takes own_first late_enough heard_all entry_rule any_full all_below some_below
alone-early = record { two = refl; there = refl; back = refl; waits = refl; rests = refl }

alone-late : Alone (after late one_asks)
unfolding answer next done acts takes own_first late_enough heard_all entry_rule any_full all_below some_below
alone-late = record { two = refl; there = refl; back = refl; waits = refl; rests = refl }

-- ---- all of it

pub witnessed : Witnessed
unfolding answer next done acts takes own_first late_enough heard_all entry_rule any_full all_below some_below
witnessed =
    record {
      both_granted = refl;
      both_rise = ((refl, tt), (tt, tt));
      last_copy =
          record {
            taker = 0;
            inside = omega arith;
            other = omega arith;
            takes = refl;
            lacks = refl;
            reached = each_of_two _ (λ np nt. absurd (nt refl)) (λ np nt. absurd (np refl));
          };
      carried = record { waits = record { phase = refl; stamp = refl }; reached = each_of_two _ (λ ne. refl) (λ ne. absurd (ne refl)) };
      one_copy = refl;
      overtaken = refl;
      waits = refl;
      quiet = alone-quiet _ alone-early;
      first = alone-first _ alone-early;
      let_in = refl;
      let_in_so = refl;
      quiet_late = alone-quiet _ alone-late;
      first_late = alone-first _ alone-late;
      spent = refl;
      spent_so = refl;
    }
