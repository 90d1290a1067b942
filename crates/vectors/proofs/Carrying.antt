-- A carry: what it wants of the receiver's own count, and what it stores.
use Prim.Native.Nat.{ℕ, ◌+◌, ◌<◌, ◌≤◌}
use native.Mathlib.Omega.{arith}
use mathlib.Core.Path.{◌≡◌, refl, ◌∙◌}
use mathlib.Core.Logic.{◌≢◌, ◌⊎◌, inl, inr}
use mathlib.Core.List.{List}
use lib.ListN.{length}
use borrow.Author.Tests.{eq-eqb, ne_eqb}
use Rattle.lamport.specs.declared.Kind.{Kind}
use Rattle.lamport.specs.declared.Kind.TheVariants.{Request, Ack, Release}
use Rattle.lamport.specs.declared.Message.{Message}
use Rattle.lamport.specs.declared.Step.TheVariants.{Carry}
use Rattle.lamport.specs.Order.{limit}
use Rattle.lamport.specs.Steps.{first}
use Rattle.lamport.specs.Vectors.{vc2, counts_in, counts_after, first_counts}
use Rattle.lamport.specs.Counted.{counts_then}
use Rattle.words.specs.Places.{chan, count}
use Rattle.words.specs.View.{view}
use Rattle.vectors.specs.Rows.{row, slot_row, counts, brought, counted}
use Rattle.vectors.specs.Stores.{ticked, merged, attached_to, taken_off, answered, carried_counts}
use Rattle.vectors.proofs.Row.{listed_get, counts_at}
use Rattle.vectors.proofs.Laws.{merged-here, taken-else}

-- a receipt raises the receiver's own count by one, and its acknowledgement by one more
raised : (k : Kind) (q : ℕ) (v w : ℕ → ℕ) → v q + 1 ≤ counts_after k q v w q
raised Request q v w = rw (eq-eqb q q refl) (omega arith)
raised Ack q v w = rw (eq-eqb q q refl) (omega arith)
raised Release q v w = rw (eq-eqb q q refl) (omega arith)

pub raised-twice : (k : Kind) (q : ℕ) (v w : ℕ → ℕ) → k ≡ Request → counts_after k q v w q ≡ v q + 1 + 1
raised-twice k q v w e = rw (e, eq-eqb q q refl) refl

pub raised-once : (k : Kind) (q : ℕ) (v w : ℕ → ℕ) → (k ≡ Ack) ⊎ (k ≡ Release) → counts_after k q v w q ≡ v q + 1
raised-once k q v w (inl e) = rw (e, eq-eqb q q refl) refl
raised-once k q v w (inr e) = rw (e, eq-eqb q q refl) refl

module _ (t : List ℕ) (r : List (List ℕ)) (p q : ℕ) (hq : q < 8) (fits : counts_then (counted t r) (Carry p q) q ≤ limit) where
  pub own-fits : counts_in (row r q) q < limit
  own-fits = omega (arith, fits, raised (first ((view t).messages p q)).kind q (counts r q) (first_counts (brought t r p q)), counts_at r q q hq)

  -- after the receipt there is room for the acknowledgement's event
  pub own-fits-twice : (c k : ℕ) (m x : List (List ℕ)) (o : Message) → length r ≡ 1032 → 0 < k → m ≡ merged r q c → x ≡ taken_off m c k → o ≡ first ((view t).messages p q) → o.kind ≡ Request
      → counts_in (row x q) q < limit
  own-fits-twice c k m x o long some e f g is =
      let twice = raised-twice (first ((view t).messages p q)).kind q (counts r q) (first_counts (brought t r p q)) (rw (← g) is) in
      omega (arith, fits, twice, counts_at r q q hq, own)
    where
      own : counts_in (row x q) q ≡ counts_in (row r q) q + 1
      own =
          let there : row x q ≡ row m q = rw f (taken-else c m k some q (λ i l. omega arith)) in
          let here = merged-here r q c (omega (arith, long)) in
          rw (there, e, here) (listed_get 8 (vc2 q (counts_in (row r q)) (counts_in (row r (slot_row c 0)))) q 0 hq ∙ rw (eq-eqb q q refl) refl)

module _ (t : List ℕ) (r : List (List ℕ)) (p q c k : ℕ) (m x : List (List ℕ)) (o : Message) (ne : p ≢ q)
    (d : c ≡ chan p q) (n : k ≡ count t c) (e : m ≡ merged r q c) (f : x ≡ taken_off m c k) (g : o ≡ first ((view t).messages p q)) where
  carried-as : (z : List (List ℕ)) → z ≡ answered t x p q o.kind → z ≡ carried_counts t r p q
  unfolding carried_counts
  carried-as z a = rw (f, e, n, d, g) at a

  pub carried-request : (y z : List (List ℕ)) → o.kind ≡ Request → y ≡ ticked x q → z ≡ attached_to t q p y → z ≡ carried_counts t r p q
  unfolding answered attached_to
  carried-request y z is h l = carried-as z (rw (is) (l ∙ rw (ne_eqb p q ne, h) refl))

  pub carried-other : (o.kind ≡ Ack) ⊎ (o.kind ≡ Release) → x ≡ carried_counts t r p q
  unfolding answered
  carried-other (inl is) = carried-as x (rw is refl)
  carried-other (inr is) = carried-as x (rw is refl)
