-- What a carry stores in the rows is the rules' change of the counts, and keeps the rows well formed.
use Prim.Native.Nat.{ℕ, zero, suc, ◌+◌, ◌-◌, ◌/◌, ◌%◌, ◌<◌, ◌≤◌}
use native.Mathlib.Omega.{arith}
use native.Mathlib.Decide.{ℕ_discrete, dec_lt}
use mathlib.Core.Path.{◌≡◌, refl, sym, ap, ◌∙◌}
use mathlib.Core.Logic.{◌≢◌, ◌⊎◌, inl, inr}
use mathlib.Core.Bool.{true, cond}
use mathlib.Core.List.{List, [], ◌∷◌, ◌++◌}
use lib.Dec.{eqb}
use lib.ListN.{length}
use Rattle.std.proofs.Common.{append-nil}
use Rattle.lamport.specs.declared.Kind.{Kind}
use Rattle.lamport.specs.declared.Kind.TheVariants.{Request, Ack, Release}
use Rattle.lamport.specs.Steps.{at2, rest}
use Rattle.lamport.specs.Vectors.{vc1, vc2, counts_in, counts_after, first_counts}
use Rattle.lamport.specs.Counted.{brought_back}
use Rattle.lamport.proofs.Readings.{Other, at2-here, at2-else}
use Rattle.words.specs.Places.{chan, benches, count}
use Rattle.words.specs.View.{listed}
use Rattle.words.proofs.Listed.{listed_cons}
use Rattle.vectors.specs.Rows.{row, slot_row, slot_counts, row_of, zeros, counts, brought}
use Rattle.vectors.specs.Formed.{slot_ok}
use Rattle.vectors.specs.Stores.{ticked, merged, attached, taken_off, answered}
use Rattle.vectors.proofs.Laws.{ticked-length, ticked-here, ticked-else, merged-length, merged-here, merged-else, attached-length, attached-here, attached-else, taken-length, taken-here, taken-last, taken-else}
use Rattle.vectors.proofs.Channels.{SameSlot, list-same, list-joined, list-taken, brought-at, nothing-left, nothing-right, brought-is}
use Rattle.vectors.proofs.Zero.{ZeroFrom, reads-row, zero-row, zero-zeros, all-zero, vc1-zero, vc2-zero, Good, own-row, used-row, still, in-use, unused, unused-row}
use Rattle.vectors.proofs.Stored.{counts-changed, read-counts, own-kept}

-- what is sent back: for a request the counts, for any other message nothing
back-request : (K : Kind) (u : ℕ → ℕ) → K ≡ Request → brought_back K u ≡ u ∷ []
back-request K u e = rw e refl

back-other : (K : Kind) (u : ℕ → ℕ) → K ≢ Request → brought_back K u ≡ []
back-other Request u h = absurd (h refl)
back-other Ack u h = refl
back-other Release u h = refl

module _ (t t' : List ℕ) (r : List (List ℕ)) (g : Good t r) (n8 : benches t ≤ 8) (sb : benches t' ≡ benches t) (few : (c : ℕ) → c < 64 → count t c ≤ 16) (p q : ℕ)
    (hp : p < benches t) (hq : q < benches t) (ne : p ≢ q) (some : 0 < count t (chan p q)) where
  p8 : p < 8
  p8 = omega (arith, hp, n8)

  q8 : q < 8
  q8 = omega (arith, hq, n8)

  -- the channel that is taken from, its messages, the channel back
  abbrev pub c : ℕ
  c = chan p q

  abbrev pub k : ℕ
  k = count t (chan p q)

  abbrev pub d : ℕ
  d = chan q p

  abbrev pub v : ℕ → ℕ
  v = counts r q

  abbrev pub w : ℕ → ℕ
  w = first_counts (brought t r p q)

  -- what the oldest message brings stands in the first slot
  w-is : slot_counts r (chan p q) 0 ≡ w
  w-is = rw (brought-at t r p q p8 q8) (go (count t (chan p q)) some)
    where
      go : (j : ℕ) → 0 < j → slot_counts r (chan p q) 0 ≡ first_counts (listed (slot_counts r (chan p q)) j)
      go zero h = absurd (omega arith)
      go (suc j) h = rw (listed_cons (slot_counts r (chan p q)) j)

  w-zero : (a : ℕ) → benches t ≤ a → w a ≡ 0
  w-zero a l = rw (← w-is) (all-zero (benches t) (row r (slot_row (chan p q) 0)) (used-row t r g (chan p q) 0 (omega (arith, p8, q8)) (omega arith) some) a l)

  v-zero : (a : ℕ) → benches t ≤ a → v a ≡ 0
  v-zero a l = rw (← read-counts t t' r g n8 sb few q hq) (all-zero (benches t) (row r q) (own-row t r g q q8 hq) a l)

  -- the counts after the receipt
  abbrev pub m : ℕ → ℕ
  m = vc2 q v w

  m-zero : (a : ℕ) → benches t ≤ a → m a ≡ 0
  m-zero a l = vc2-zero (benches t) q v w hq v-zero w-zero a l

  abbrev pub x : List (List ℕ)
  x = taken_off (merged r q (chan p q)) (chan p q) (count t (chan p q))

  x-long : length x ≡ 1032
  x-long = taken-length (chan p q) (merged r q (chan p q)) (count t (chan p q)) ∙ merged-length r q (chan p q) ∙ g.long

  -- the rows of benches are no slots
  x-bench : (a : ℕ) → a < 8 → row x a ≡ row (merged r q (chan p q)) a
  x-bench a l = taken-else (chan p q) (merged r q (chan p q)) (count t (chan p q)) some a (λ i h. omega (arith, l))

  x-own : row x q ≡ row_of m
  x-own = x-bench q q8 ∙ merged-here r q (chan p q) (omega (arith, g.long, q8)) ∙ rw (w-is, read-counts t t' r g n8 sb few q hq) refl

  x-bench-else : (a : ℕ) → a < 8 → a ≢ q → row x a ≡ row r a
  x-bench-else a l o = x-bench a l ∙ merged-else r q (chan p q) a o

  room-for : slot_row (chan p q) (count t (chan p q)) ≤ length (merged r q (chan p q))
  room-for = let f = few (chan p q) (omega (arith, p8, q8)) in omega (arith, f, merged-length r q (chan p q), g.long, p8, q8)

  x-up : (i : ℕ) → suc i < k → row x (slot_row c i) ≡ row r (slot_row c (suc i))
  x-up i h =
      let up : i + 1 ≡ suc i = omega arith in
      taken-here (chan p q) (merged r q (chan p q)) (count t (chan p q)) some i (omega (arith, h)) room-for
      ∙ rw up (merged-else r q (chan p q) (slot_row (chan p q) (suc i)) (omega (arith, q8)))

  x-last : (i : ℕ) → suc i ≡ k → row x (slot_row c i) ≡ zeros
  x-last i h =
      let is : i ≡ count t (chan p q) - 1 = omega (arith, h) in
      rw is (taken-last (chan p q) (merged r q (chan p q)) (count t (chan p q)) some room-for)

  x-slot : (e i : ℕ) → e < 64 → i < 16 → (e ≢ c) ⊎ (k ≤ i) → SameSlot r x e i
  x-slot e i he hi f =
      taken-else (chan p q) (merged r q (chan p q)) (count t (chan p q)) some (slot_row e i) (other f) ∙ merged-else r q (chan p q) (slot_row e i) (omega (arith, q8))
    where
      other : (e ≢ chan p q) ⊎ (count t (chan p q) ≤ i) → (j : ℕ) → j < count t (chan p q) → slot_row e i ≢ slot_row (chan p q) j
      other (inl o) j h z = let l = few (chan p q) (omega (arith, p8, q8)) in o (omega (arith, z, h, l, hi))
      other (inr l) j h z = let l' = few (chan p q) (omega (arith, p8, q8)) in omega (arith, z, h, l, l', hi)

  -- ---- the rows after the receipt, and after its acknowledgement

  pub record Rows (K : Kind) (y : List (List ℕ)) : Type 0 where
    pub long : length y ≡ 1032
    pub own : row y q ≡ row_of (counts_after K q v w)
    pub bench : (a : ℕ) → a < 8 → a ≢ q → row y a ≡ row r a
    pub slot : (e i : ℕ) → e < 64 → i < 16 → (K ≡ Request → (e ≢ d) ⊎ (i ≢ count t d)) → row y (slot_row e i) ≡ row x (slot_row e i)
    pub joined : K ≡ Request → row y (slot_row d (count t d)) ≡ row_of (counts_after K q v w)

  x-rows : (K : Kind) → counts_after K q v w ≡ m → K ≢ Request → Rows K x
  x-rows K e no-reply =
      record { long = x-long; own = rw e x-own; bench = x-bench-else; slot = λ f i h l z. refl; joined = λ z. absurd (no-reply z) }

  answered-rows : count t d < 16 → Rows Request (attached (ticked x q) q d (count t d))
  answered-rows room =
      record {
        long = attached-length (ticked x q) q d (count t d) ∙ ticked-length x q ∙ x-long;
        own = attached-else (ticked x q) q d (count t d) q (omega (arith, q8)) ∙ ticked-own;
        bench = λ a l o. attached-else (ticked x q) q d (count t d) a (omega (arith, l)) ∙ ticked-else x q a o ∙ x-bench-else a l o;
        slot =
            λ e i he hi z.
            attached-else (ticked x q) q d (count t d) (slot_row e i) (λ same. clash e i hi (z refl) same) ∙ ticked-else x q (slot_row e i) (omega (arith, q8));
        joined = λ z. attached-here (ticked x q) q d (count t d) (omega (arith, ticked-length x q, x-long, room, d8)) ∙ ticked-own;
      }
    where
      d8 : d < 64
      d8 = omega (arith, p8, q8)

      clash : (e i : ℕ) → i < 16 → (e ≢ d) ⊎ (i ≢ count t d) → slot_row e i ≡ slot_row d (count t d) → ⊥
      clash e i hi (inl o) same = o (omega (arith, same, hi, room))
      clash e i hi (inr o) same = o (omega (arith, same, hi, room))

      ticked-own : row (ticked x q) q ≡ row_of (vc1 q m)
      ticked-own =
          ticked-here x q (omega (arith, x-long, q8))
          ∙ ap (λ u. row_of (vc1 q u)) (ap counts_in x-own ∙ reads-row m (λ a l. m-zero a (omega (arith, l, n8))))

  pub rows-after : (K : Kind) → (K ≡ Request → count t d < 16) → Rows K (answered t x p q K)
  unfolding answered
  rows-after Request room = answered-rows (room refl)
  rows-after Ack room = x-rows Ack refl (λ z. cc)
  rows-after Release room = x-rows Release refl (λ z. cc)

  -- ---- what is read then

  -- the counts after the carry
  after-zero : (K : Kind) (a : ℕ) → benches t ≤ a → counts_after K q v w a ≡ 0
  after-zero Request a l = vc1-zero (benches t) q m hq m-zero a l
  after-zero Ack a l = m-zero a l
  after-zero Release a l = m-zero a l

  module _ (K : Kind) (y : List (List ℕ)) (s : Rows K y) (room : K ≡ Request → count t d < 16) (less : suc (count t' c) ≡ k)
      (back : (K ≡ Request) × (count t' d ≡ suc (count t d)) ⊎ (K ≢ Request) × (count t' d ≡ count t d))
      (same : (a b : ℕ) → a < 8 → b < 8 → Other a b p q → Other a b q p → count t' (chan a b) ≡ count t (chan a b)) where
    pub carried-counted : counts y ≡ (λ a. cond (eqb a q) (counts_after K q v w) (counts r a))
    carried-counted = counts-changed r y q (counts_after K q v w) (ap counts_in s.own ∙ reads-row (counts_after K q v w) (λ a l. after-zero K a (omega (arith, l, n8)))) q8 s.bench

    -- the channels without the oldest message, and then with its acknowledgement
    without : ℕ → ℕ → List (ℕ → ℕ)
    without = at2 (brought t r) p q (rest (brought t r p q))

    then-brought : ℕ → ℕ → List (ℕ → ℕ)
    then-brought = at2 without q p (brought t r q p ++ brought_back K (counts_after K q v w))

    d64 : d < 64
    d64 = omega (arith, p8, q8)

    c-few : k ≤ 16
    c-few = few c (omega (arith, p8, q8))

    d-few : count t d ≤ 16
    d-few = few d (omega (arith, p8, q8))

    c-not-d : c ≢ d
    c-not-d e = ne (omega (arith, e, p8, q8))

    -- a slot that stays: of another channel than the message's, and not the acknowledgement's
    y-slot : (e i : ℕ) → e < 64 → i < 16 → e ≢ c → (K ≡ Request → (e ≢ d) ⊎ (i ≢ count t d)) → SameSlot r y e i
    y-slot e i he hi o z = s.slot e i he hi z ∙ x-slot e i he hi (inl o)

    y-up : (i : ℕ) → suc i < k → row y (slot_row c i) ≡ row r (slot_row c (suc i))
    y-up i h = s.slot c i (omega (arith, p8, q8)) (omega (arith, h, c-few)) (λ z. inl c-not-d) ∙ x-up i h

    y-reads : K ≡ Request → slot_counts y d (count t d) ≡ counts_after K q v w
    y-reads e = ap counts_in (s.joined e) ∙ reads-row (counts_after K q v w) (λ a l. after-zero K a (omega (arith, l, n8)))

    taken : listed (slot_counts y c) (count t' c) ≡ then-brought p q
    unfolding then-brought without
    taken =
        list-taken r y c (count t' c) (λ i h. y-up i (omega (arith, h, less)))
        ∙ ap rest (ap (listed (slot_counts r c)) less ∙ sym (brought-at t r p q p8 q8))
        ∙ sym (at2-else without q p (brought t r q p ++ brought_back K (counts_after K q v w)) p q (λ z. ne z.0) ∙ at2-here (brought t r) p q (rest (brought t r p q)))

    sent : listed (slot_counts y d) (count t' d) ≡ then-brought q p
    unfolding then-brought
    sent = go back ∙ sym (at2-here without q p (brought t r q p ++ brought_back K (counts_after K q v w)))
      where
        kept : (i : ℕ) → i < count t d → SameSlot r y d i
        kept i h = y-slot d i d64 (omega (arith, h, d-few)) (λ e. c-not-d (sym e)) (λ z. inr (omega (arith, h)))

        go : (K ≡ Request) × (count t' d ≡ suc (count t d)) ⊎ (K ≢ Request) × (count t' d ≡ count t d) → listed (slot_counts y d) (count t' d) ≡ brought t r q p ++ brought_back K (counts_after K q v w)
        go (inl e) =
            rw (e.1, back-request K (counts_after K q v w) e.0, brought-at t r q p q8 p8) (list-joined r y d (count t d) (counts_after K q v w) kept (y-reads e.0))
        go (inr e) =
            rw (e.1, back-other K (counts_after K q v w) e.0, append-nil (brought t r q p), brought-at t r q p q8 p8) (list-same r y d (count t d) kept)

    others : (a b : ℕ) → a < 8 → b < 8 → Other a b p q → Other a b q p → listed (slot_counts y (chan a b)) (count t' (chan a b)) ≡ then-brought a b
    unfolding then-brought without
    others a b ha hb o z =
        rw (same a b ha hb o z)
        (list-same r y (chan a b) (count t (chan a b)) kept ∙ sym (brought-at t r a b ha hb))
        ∙ sym (at2-else without q p (brought t r q p ++ brought_back K (counts_after K q v w)) a b z ∙ at2-else (brought t r) p q (rest (brought t r p q)) a b o)
      where
        kept : (i : ℕ) → i < count t (chan a b) → SameSlot r y (chan a b) i
        kept i h =
            y-slot (chan a b) i (omega (arith, ha, hb)) (omega (arith, h, few (chan a b) (omega (arith, ha, hb)))) (λ e. o (omega (arith, e, ha, hb, p8, q8), omega (arith, e, ha, hb, p8, q8)))
            (λ r. inl (λ e. z (omega (arith, e, ha, hb, p8, q8), omega (arith, e, ha, hb, p8, q8))))

    pub carried-brought : brought t' y ≡ at2 (at2 (brought t r) p q (rest (brought t r p q))) q p (brought t r q p ++ brought_back K (counts_after K q v w))
    unfolding then-brought without
    carried-brought = brought-is t' y then-brought (λ a b ha hb. go a b ha hb (ℕ_discrete a p) (ℕ_discrete b q) (ℕ_discrete a q) (ℕ_discrete b p)) left right
      where
        else : (a b : ℕ) → Other a b p q → Other a b q p → then-brought a b ≡ brought t r a b
        else a b o z =
            at2-else without q p (brought t r q p ++ brought_back K (counts_after K q v w)) a b z ∙ at2-else (brought t r) p q (rest (brought t r p q)) a b o

        left : (a b : ℕ) → 8 ≤ a → then-brought a b ≡ []
        left a b l = else a b (λ z. omega (arith, z.0, l, p8)) (λ z. omega (arith, z.0, l, q8)) ∙ nothing-left t r a b l

        right : (a b : ℕ) → 8 ≤ b → then-brought a b ≡ []
        right a b l = else a b (λ z. omega (arith, z.1, l, q8)) (λ z. omega (arith, z.1, l, p8)) ∙ nothing-right t r a b l

        go : (a b : ℕ) → a < 8 → b < 8 → Dec (a ≡ p) → Dec (b ≡ q) → Dec (a ≡ q) → Dec (b ≡ p) → listed (slot_counts y (chan a b)) (count t' (chan a b)) ≡ then-brought a b
        go a b ha hb (yes e) (yes f) g h = rw (e, f) taken
        go a b ha hb (yes e) (no nf) g h = others a b ha hb (λ z. nf z.1) (λ z. ne (sym e ∙ z.0))
        go a b ha hb (no ne') f (yes g) (yes h) = rw (g, h) sent
        go a b ha hb (no ne') f (yes g) (no nh) = others a b ha hb (λ z. ne' z.0) (λ z. nh z.1)
        go a b ha hb (no ne') f (no ng) h = others a b ha hb (λ z. ne' z.0) (λ z. ng z.0)

    -- ---- the slots stay well formed

    own-zero : ZeroFrom (benches t) (row y q)
    own-zero = rw s.own (zero-row (benches t) (counts_after K q v w) (after-zero K))

    -- of the channel that is taken from
    taken-slot : (i : ℕ) → i < 16 → Dec (suc i < k) → Dec (suc i ≡ k) → slot_ok t' y c i ≡ true
    taken-slot i hi (yes h) e =
        rw sb
        (in-use (benches t) k (count t' c) i (row r (slot_row c i)) (row y (slot_row c i)) (omega (arith, h, less))
        (rw (y-up i h) (used-row t r g c (suc i) (omega (arith, p8, q8)) (omega (arith, h, c-few)) h)))
    taken-slot i hi (no nh) (yes e) =
        unused (benches t') k (count t' c) i (row r (slot_row c i)) (row y (slot_row c i)) (omega (arith, e, less))
        (rw (s.slot c i (omega (arith, p8, q8)) hi (λ z. inl c-not-d), x-last i e) (zero-zeros 0))
    taken-slot i hi (no nh) (no nd) =
        let past : k ≤ i = omega arith in
        let same-row : SameSlot r y c i = s.slot c i (omega (arith, p8, q8)) hi (λ z. inl c-not-d) ∙ x-slot c i (omega (arith, p8, q8)) hi (inr past) in
        unused (benches t') k (count t' c) i (row r (slot_row c i)) (row y (slot_row c i)) (omega (arith, past, less))
        (rw same-row (unused-row (benches t) k (count t' c) i (row r (slot_row c i)) (row y (slot_row c i)) past (g.slots c i (omega (arith, p8, q8)) hi)))

    -- a slot that stays, of a channel that stays
    quiet-slot : (e i : ℕ) → e < 64 → i < 16 → e ≢ c → (K ≡ Request → (e ≢ d) ⊎ (i ≢ count t d)) → count t' e ≡ count t e → slot_ok t' y e i ≡ true
    quiet-slot e i he hi o z f =
        rw sb (still (benches t) (count t e) (count t' e) i (row r (slot_row e i)) (row y (slot_row e i)) f (y-slot e i he hi o z) (g.slots e i he hi))

    -- of the channel back, when it is acknowledged
    joined-slot : (i : ℕ) → i < 16 → K ≡ Request → count t' d ≡ suc (count t d) → Dec (i < count t d) → Dec (i ≡ count t d) → slot_ok t' y d i ≡ true
    joined-slot i hi e f (yes h) l =
        rw (sb, f)
        (in-use (benches t) (count t d) (suc (count t d)) i (row r (slot_row d i)) (row y (slot_row d i)) (omega (arith, h))
        (rw (y-slot d i d64 hi (λ z. c-not-d (sym z)) (λ z. inr (omega (arith, h)))) (used-row t r g d i d64 hi h)))
    joined-slot i hi e f (no nh) (yes l) =
        rw (sb, f, l)
        (in-use (benches t) (count t d) (suc (count t d)) (count t d) (row r (slot_row d (count t d))) (row y (slot_row d (count t d))) (omega arith)
        (rw (s.joined e) (zero-row (benches t) (counts_after K q v w) (after-zero K))))
    joined-slot i hi e f (no nh) (no nl) =
        let past : suc (count t d) ≤ i = omega arith in
        rw (sb, f)
        (unused (benches t) (count t d) (suc (count t d)) i (row r (slot_row d i)) (row y (slot_row d i)) past
        (rw (y-slot d i d64 hi (λ z. c-not-d (sym z)) (λ z. inr nl))
        (unused-row (benches t) (count t d) (suc (count t d)) i (row r (slot_row d i)) (row y (slot_row d i)) (omega (arith, past)) (g.slots d i d64 hi))))

    pub carried-good : Good t' y
    carried-good =
        record { long = s.long; own = own-kept t t' r g n8 sb few q hq y own-zero s.bench; slots = λ e i he hi. go e i he hi (ℕ_discrete e c) (ℕ_discrete e d) back }
      where
        go : (e i : ℕ) → e < 64 → i < 16 → Dec (e ≡ c) → Dec (e ≡ d) → (K ≡ Request) × (count t' d ≡ suc (count t d)) ⊎ (K ≢ Request) × (count t' d ≡ count t d) → slot_ok t' y e i ≡ true
        go e i he hi (yes f) h b = rw f (taken-slot i hi (dec_lt (suc i) k) (ℕ_discrete (suc i) k))
        go e i he hi (no nf) (yes h) (inl b) = rw h (joined-slot i hi b.0 b.1 (dec_lt i (count t d)) (ℕ_discrete i (count t d)))
        go e i he hi (no nf) (yes h) (inr b) = rw h (quiet-slot d i d64 hi (λ z. c-not-d (sym z)) (λ z. absurd (b.0 z)) b.1)
        go e i he hi (no nf) (no nh) b = quiet-slot e i he hi nf (λ z. inl nh) stays
          where
            stays : count t' e ≡ count t e
            stays =
                let is : chan (e / 8) (e % 8) ≡ e = omega arith in
                rw is at (same (e / 8) (e % 8) (omega arith) (omega arith) (λ z. nf (omega (arith, z.0, z.1, is))) (λ z. nh (omega (arith, z.0, z.1, is))))
