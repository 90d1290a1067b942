-- Told: of two different events the comparison of their stamps says exactly which happened before the other.
use mathlib.Core.Path.{◌≡◌, refl, sym, ◌∙◌}
use mathlib.Core.Logic.{◌≢◌, ◌↔◌, ◌⊎◌, inl, inr}
use mathlib.Core.Bool.{Bool, true, false, true≢false}
use mathlib.Core.List.{List}
use Prim.Native.Nat.{ℕ, ◌≤◌}
use native.Mathlib.Omega.{arith}
use borrow.Author.Tests.{leb-true, le-leb}
use lib.Dec.{leb}
use lib.ListN.{length}
use Rattle.lamport.specs.Table.{within, sizes_ok}
use Rattle.lamport.specs.Counted.{Counted, counted_fresh, counted_after}
use Rattle.lamport.proofs.Each.{and_left, and_right, all_at, all_all}
use Rattle.stamps.specs.Compare.{none_larger}
use Rattle.stamps.specs.declared.Comparison.{Comparison}
use Rattle.stamps.specs.declared.Comparison.TheVariants.{Before, After, Same, Neither}
use Rattle.stamps.proofs.Comparing.{by-tests}
use Rattle.causal.specs.Events.{Stamped, events}
use Rattle.causal.specs.Told.{event_at, Precedes, Two, said, SaysExactly, StampsTell}
use Rattle.causal.proofs.Causal.{Inv, Rise, rises}
use Rattle.causal.proofs.Run.{events-inv}

-- there are eight benches at most
few : (n capacity : ℕ) → sizes_ok n capacity ≡ true → n ≤ 8
few n capacity e = leb-true n 8 (and_right (leb 1 n) _ (and_left (within 1 n 8) _ e))

-- the events es of n benches, at the end of which the table is s
module _ (n : ℕ) (few : n ≤ 8) (es : List Stamped) (s : Counted) (iv : Inv n (length es) (event_at es) (length es) s) where
  abbrev stamp : ℕ → ℕ → ℕ
  stamp i = (event_at es i).counts

  flip : {i j : ℕ} → Two es i j → Two es j i
  flip t = record { first = t.second; second = t.first; apart = λ e. t.apart (sym e) }

  -- what happened before has a smaller stamp
  rise : (i j : ℕ) → Precedes n es i j → Rise n (length es) (event_at es) i j
  rise i j b = rises n (length es) (event_at es) s iv i j b

  -- no count of the first is larger exactly if the first happened before the second
  counted-precedes : (i j : ℕ) → Two es i j → none_larger (stamp i) (stamp j) ≡ true → Precedes n es i j
  unfolding none_larger
  counted-precedes i j t e = go (iv.linked i j t.first t.second (leb-true _ _ (all_at (λ a. leb (stamp i a) (stamp j a)) 8 _ e (omega (arith, iv.there i t.first)))))
    where
      go : (i ≡ j) ⊎ Precedes n es i j → Precedes n es i j
      go (inl d) = absurd (t.apart d)
      go (inr b) = b

  precedes-counted : (i j : ℕ) → Precedes n es i j → none_larger (stamp i) (stamp j) ≡ true
  unfolding none_larger
  precedes-counted i j b = all_all (λ a. leb (stamp i a) (stamp j a)) 8 (λ a l. le-leb _ _ ((rise i j b).all a))

  -- no two events happened each before the other
  never-both : (i j : ℕ) → Precedes n es i j → Precedes n es j i → ⊥
  never-both i j b c = omega (arith, (rise i j b).own, (rise j i c).all (event_at es j).event.bench)

  -- what is said, with what happened
  data Says (i j : ℕ) (c : Comparison) : Type 0 where
    before : c ≡ Before → Precedes n es i j → (¬ Precedes n es j i) → Says i j c
    after : c ≡ After → (¬ Precedes n es i j) → Precedes n es j i → Says i j c
    neither : c ≡ Neither → (¬ Precedes n es i j) → (¬ Precedes n es j i) → Says i j c

  -- of any two different events
  says : (i j : ℕ) → Two es i j → Says i j (said es i j)
  says i j t = go (none_larger (stamp i) (stamp j)) refl (none_larger (stamp j) (stamp i)) refl
    where
      go : (x : Bool) → x ≡ none_larger (stamp i) (stamp j) → (y : Bool) → y ≡ none_larger (stamp j) (stamp i) → Says i j (said es i j)
      go true x true y = absurd (never-both i j (counted-precedes i j t (sym x)) (counted-precedes j i (flip t) (sym y)))
      go true x false y = let b = counted-precedes i j t (sym x) in before (by-tests (stamp i) (stamp j) true false x y) b (λ c. never-both i j b c)
      go false x true y = let c = counted-precedes j i (flip t) (sym y) in after (by-tests (stamp i) (stamp j) false true x y) (λ b. never-both i j b c) c
      go false x false y =
          neither (by-tests (stamp i) (stamp j) false false x y) (λ b. true≢false (sym (precedes-counted i j b) ∙ sym x)) (λ c. true≢false (sym (precedes-counted j i c) ∙ sym y))

  pub says-exactly : SaysExactly n es
  says-exactly =
      record {
        says_before = λ i j t. at-before i j (says i j t);
        says_after = λ i j t. at-after i j (says i j t);
        says_neither = λ i j t. at-neither i j (says i j t);
        never_same = λ i j t e. at-same i j (says i j t) e;
      }
    where
      at-before : (i j : ℕ) → Says i j (said es i j) → (said es i j ≡ Before) ↔ Precedes n es i j
      at-before i j (before e b nc) = ((λ x. b), (λ x. e))
      at-before i j (after e nb c) = ((λ x. cc), (λ x. absurd (nb x)))
      at-before i j (neither e nb nc) = ((λ x. cc), (λ x. absurd (nb x)))

      at-after : (i j : ℕ) → Says i j (said es i j) → (said es i j ≡ After) ↔ Precedes n es j i
      at-after i j (before e b nc) = ((λ x. cc), (λ x. absurd (nc x)))
      at-after i j (after e nb c) = ((λ x. c), (λ x. e))
      at-after i j (neither e nb nc) = ((λ x. cc), (λ x. absurd (nc x)))

      at-neither : (i j : ℕ) → Says i j (said es i j) → (said es i j ≡ Neither) ↔ ((¬ Precedes n es i j) × (¬ Precedes n es j i))
      at-neither i j (before e b nc) = ((λ x. cc), (λ x. absurd (x.0 b)))
      at-neither i j (after e nb c) = ((λ x. cc), (λ x. absurd (x.1 c)))
      at-neither i j (neither e nb nc) = ((λ x. (nb, nc)), (λ x. e))

      at-same : (i j : ℕ) → Says i j (said es i j) → said es i j ≢ Same
      at-same i j (before e b nc) x = cc
      at-same i j (after e nb c) x = cc
      at-same i j (neither e nb nc) x = cc

pub stamps-tell : StampsTell
stamps-tell n capacity start ok ks =
    says-exactly n (few n capacity ok) (events (counted_fresh n capacity start) ks) (counted_after (counted_fresh n capacity start) ks) (events-inv n capacity start ks)
