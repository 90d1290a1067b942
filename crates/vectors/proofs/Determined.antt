-- Well-formed rows that read as the same counts are the same rows.
use Prim.Native.Nat.{ℕ, ◌-◌, ◌/◌, ◌%◌, ◌<◌, ◌≤◌}
use native.Mathlib.Omega.{arith}
use native.Mathlib.Decide.{dec_lt}
use mathlib.Core.Path.{◌≡◌, sym, ap, ◌∙◌, fun_ext}
use mathlib.Core.Bool.{true}
use mathlib.Core.List.{List, []}
use lib.ListN.{length, get_or}
use lib.Seq.{ext_get_or}
use borrow.Author.Tests.{le-ltb}
use Rattle.lamport.specs.Vectors.{counts_in}
use Rattle.words.specs.Places.{chan, count}
use Rattle.words.specs.View.{listed}
use Rattle.vectors.specs.Rows.{row, slot_row, slot_counts, counts, brought}
use Rattle.vectors.specs.Formed.{counts_ok}
use Rattle.vectors.proofs.Row.{listed_get, counts_at}
use Rattle.vectors.proofs.Channels.{brought-at}
use Rattle.vectors.proofs.Zero.{zero-out, zero-same, Good, good-out}

-- rows of eight that read the same
row-ext : (x y : List ℕ) → length x ≡ 8 → length y ≡ 8 → counts_in x ≡ counts_in y → x ≡ y
row-ext x y l k e = ext_get_or 0 x y (l ∙ sym k) (λ a h. ap (λ (f : ℕ → ℕ). f a) e)

module _ (t : List ℕ) (r u : List (List ℕ)) (ok : counts_ok t r ≡ true) (ok' : counts_ok t u ≡ true) (e : counts r ≡ counts u) (f : brought t r ≡ brought t u) where
  g : Good t r
  g = good-out t r ok

  h : Good t u
  h = good-out t u ok'

  same-own : (p : ℕ) → p < 8 → row r p ≡ row u p
  same-own p l = row-ext (row r p) (row u p) (zero-out _ _ (g.own p l)).long (zero-out _ _ (h.own p l)).long reads
    where
      reads : counts_in (row r p) ≡ counts_in (row u p)
      reads = fun_ext (λ a. sym (counts_at r p a l) ∙ ap (λ (x : ℕ → ℕ → ℕ). x p a) e ∙ counts_at u p a l)

  same-slot : (a b i : ℕ) → a < 8 → b < 8 → i < 16 → row r (slot_row (chan a b) i) ≡ row u (slot_row (chan a b) i)
  same-slot a b i ha hb hi = go (dec_lt i (count t (chan a b)))
    where
      c64 : chan a b < 64
      c64 = omega (arith, ha, hb)

      listed-same : listed (slot_counts r (chan a b)) (count t (chan a b)) ≡ listed (slot_counts u (chan a b)) (count t (chan a b))
      listed-same = sym (brought-at t r a b ha hb) ∙ ap (λ (x : ℕ → ℕ → List (ℕ → ℕ)). x a b) f ∙ brought-at t u a b ha hb

      go : Dec (i < count t (chan a b)) → row r (slot_row (chan a b) i) ≡ row u (slot_row (chan a b) i)
      go (yes l) =
          row-ext _ _ (zero-out _ _ (g.slots (chan a b) i c64 hi)).long (zero-out _ _ (h.slots (chan a b) i c64 hi)).long
          (sym (listed_get (count t (chan a b)) (slot_counts r (chan a b)) i (λ x. 0) l) ∙ ap (λ (x : List (ℕ → ℕ)). get_or x i (λ y. 0)) listed-same
          ∙ listed_get (count t (chan a b)) (slot_counts u (chan a b)) i (λ x. 0) l)
      go (no nl) =
          let k : count t (chan a b) ≤ i = omega arith in
          zero-same _ _ (zero-out 0 _ (rw (le-ltb i (count t (chan a b)) k) at (g.slots (chan a b) i c64 hi))) (zero-out 0 _ (rw (le-ltb i (count t (chan a b)) k) at (h.slots (chan a b) i c64 hi)))

  pub rows-determined : r ≡ u
  rows-determined = ext_get_or [] r u (g.long ∙ sym h.long) (λ j l. go j (omega (arith, l, g.long)) (dec_lt j 8))
    where
      go : (j : ℕ) → j < 1032 → Dec (j < 8) → row r j ≡ row u j
      go j l (yes k) = same-own j k
      go j l (no nk) =
          let is : slot_row (chan ((j - 8) / 16 / 8) ((j - 8) / 16 % 8)) ((j - 8) % 16) ≡ j = omega arith in
          rw is at (same-slot ((j - 8) / 16 / 8) ((j - 8) / 16 % 8) ((j - 8) % 16) (omega arith) (omega arith) (omega arith))
