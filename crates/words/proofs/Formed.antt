-- What the test of well-formed words says, as facts; and the test from the facts.
use mathlib.Core.Path.{◌≡◌, refl}
use mathlib.Core.Logic.{◌≢◌, ◌⊎◌, inl, inr}
use mathlib.Core.Bool.{true, false, cond, ◌&&◌, ◌||◌}
use mathlib.Core.List.{List}
use Prim.Native.Nat.{ℕ, ◌≤◌, ◌<◌}
use native.Mathlib.Omega.{arith}
use native.Mathlib.Decide.{ℕ_discrete, dec_lt}
use lib.Dec.{ltb, leb, eqb}
use lib.ListN.{length}
use borrow.Author.Tests.{eq-eqb, ne_eqb, lt-ltb, le-ltb, le-leb, eqb-true, leb-true}
use Rattle.lamport.specs.Each.{all_below}
use Rattle.lamport.specs.Table.{sizes_ok, within}
use Rattle.lamport.proofs.Each.{and_left, and_right, and_in, and_false, or_in, or_out, all_at, all_all}
use Rattle.words.specs.Places.{size, clock_at, phase_at, entry_at, heard_at, chan, count_at, kind_at, stamp_at, benches, capacity, clock, phase, entry, heard, count, kind, stamp}
use Rattle.words.specs.View.{view}
use Rattle.words.specs.WellFormed.{joined, own_entry, slot_ok, bench_ok, link_ok, pair_ok, row_ok, well_formed}
use Rattle.words.proofs.Reading.{view-benches, view-capacity, view-clock, view-phase, view-entry, view-heard, view-count}
use Rattle.words.proofs.Shut.{word, size_of}

-- the sixteen slots of channel c
pub record Slots (t : List ℕ) (c cap : ℕ) : Type 0 where
  pub few : word t (count_at c) ≤ cap
  pub kinds : (i : ℕ) → i < word t (count_at c) → word t (kind_at c i) ≤ 2
  pub stamps : (i : ℕ) → i < word t (count_at c) → 1 ≤ word t (stamp_at c i)
  pub no-kinds : (i : ℕ) → word t (count_at c) ≤ i → i < 16 → word t (kind_at c i) ≡ 0
  pub no-stamps : (i : ℕ) → word t (count_at c) ≤ i → i < 16 → word t (stamp_at c i) ≡ 0

-- a b are no two different benches of n
abbrev pub Apart : ℕ → ℕ → ℕ → Type 0
Apart n a b = (n ≤ a) ⊎ ((n ≤ b) ⊎ (a ≡ b))

-- words for n benches and capacity cap
pub record Wf (n cap : ℕ) (t : List ℕ) : Type 0 where
  pub sized : size_of t ≡ size
  pub proper : (a : ℕ) → a < n → word t (phase_at a) ≤ 2
  pub idle : (a : ℕ) → a < n → word t (phase_at a) ≡ 0 → word t (entry_at a a) ≡ 0
  pub busy : (a : ℕ) → a < n → word t (phase_at a) ≢ 0 → word t (entry_at a a) ≢ 0
  pub no-clock : (a : ℕ) → n ≤ a → a < 8 → word t (clock_at a) ≡ 0
  pub no-phase : (a : ℕ) → n ≤ a → a < 8 → word t (phase_at a) ≡ 0
  pub no-entry : (a b : ℕ) → a < 8 → b < 8 → (n ≤ a) ⊎ (n ≤ b) → word t (entry_at a b) ≡ 0
  pub no-heard : (a b : ℕ) → a < 8 → b < 8 → Apart n a b → word t (heard_at a b) ≡ 0
  pub no-channel : (a b : ℕ) → a < 8 → b < 8 → Apart n a b → word t (count_at (chan a b)) ≡ 0
  pub slots : (a b : ℕ) → a < 8 → b < 8 → Slots t (chan a b) cap

-- the sizes that the words name
pub record Sizes (t : List ℕ) : Type 0 where
  pub some : 1 ≤ benches t
  pub most : benches t ≤ 8
  pub room : 1 ≤ capacity t
  pub slots : capacity t ≤ 16

-- no two different benches: no channel
apart : (t : List ℕ) (a b : ℕ) → Apart (benches t) a b → joined (view t) a b ≡ false
apart t a b (inl l) = rw (view-benches t, le-ltb a (benches t) l)
apart t a b (inr (inl l)) = rw (view-benches t, le-ltb b (benches t) l) (and_false (ltb a (benches t)) false refl)
apart t a b (inr (inr e)) =
    rw (view-benches t, eq-eqb a b e) (and_false (ltb a (benches t)) _ (and_false (ltb b (benches t)) false refl))

-- ---- from the test

module _ (t : List ℕ) (w : well_formed t ≡ true) where
  inner : (sizes_ok (benches t) (capacity t) && all_below (row_ok t) 8) ≡ true
  unfolding well_formed view
  inner = and_right (eqb (length t) size) _ w

  pub test_length : length t ≡ size
  unfolding well_formed
  test_length = eqb-true (length t) size (and_left (eqb (length t) size) _ w)

  pub test_sizes : Sizes t
  test_sizes =
      let s = and_left (sizes_ok (benches t) (capacity t)) _ inner in
      let n = and_left (within 1 (benches t) 8) _ s in
      let k = and_right (within 1 (benches t) 8) _ s in
      record {
        some = leb-true 1 (benches t) (and_left (leb 1 (benches t)) _ n);
        most = leb-true (benches t) 8 (and_right (leb 1 (benches t)) _ n);
        room = leb-true 1 (capacity t) (and_left (leb 1 (capacity t)) _ k);
        slots = leb-true (capacity t) 16 (and_right (leb 1 (capacity t)) _ k);
      }

  one : (a : ℕ) → a < 8 → (bench_ok (view t) a ≡ true) × (all_below (pair_ok t a) 8 ≡ true)
  unfolding row_ok
  one a h =
      let o = all_at (row_ok t) 8 a (and_right (sizes_ok (benches t) (capacity t)) _ inner) h in
      (and_left (bench_ok (view t) a) _ o, and_right (bench_ok (view t) a) _ o)

  two : (a b : ℕ) → a < 8 → b < 8 → (link_ok (view t) a b ≡ true) × (all_below (slot_ok t (chan a b)) 16 ≡ true)
  unfolding pair_ok
  two a b ha hb =
      let o = all_at (pair_ok t a) 8 b (one a ha).1 hb in
      (and_left (link_ok (view t) a b) _ o, and_right (link_ok (view t) a b) _ o)

  there : (a : ℕ) → a < benches t → (leb (phase t a) 2 && cond (eqb (phase t a) 0) (eqb (entry t a a) 0) (leb 1 (entry t a a))) ≡ true
  unfolding bench_ok
  there a h =
      let l : a < 8 = omega (arith, test_sizes.most) in
      rw (view-benches t, lt-ltb a (benches t) h, view-phase t a l, view-entry t a a l l) at (one a l).0

  absent : (a : ℕ) → benches t ≤ a → a < 8 → (clock t a ≡ 0) × (phase t a ≡ 0)
  unfolding bench_ok
  absent a h l =
      let o = rw (view-benches t, le-ltb a (benches t) h, view-clock t a l, view-phase t a l) at (one a l).0 in
      (eqb-true (clock t a) 0 (and_left (eqb (clock t a) 0) _ o), eqb-true (phase t a) 0 (and_right (eqb (clock t a) 0) _ o))

  own : (a : ℕ) → a < benches t → (phase t a ≡ 0 → entry t a a ≡ 0) × (phase t a ≢ 0 → entry t a a ≢ 0)
  own a h =
      let o = and_right (leb (phase t a) 2) _ (there a h) in
      (λ z. eqb-true (entry t a a) 0 (rw (eq-eqb (phase t a) 0 z) at o), λ nz. busy (leb-true 1 (entry t a a) (rw (ne_eqb (phase t a) 0 nz) at o)))
    where
      busy : 1 ≤ entry t a a → entry t a a ≢ 0
      busy l z = omega arith

  nothing : (a b : ℕ) → a < 8 → b < 8 → Apart (benches t) a b →
      (count t (chan a b) ≡ 0) × ((heard t a b ≡ 0) × ((own_entry (view t) a b || eqb (entry t a b) 0) ≡ true))
  unfolding link_ok
  nothing a b ha hb f =
      let o = rw (apart t a b f, view-count t a b ha hb, view-heard t a b ha hb, view-entry t a b ha hb) at (two a b ha hb).0 in
      let u = and_right (eqb (count t (chan a b)) 0) _ o in (
        eqb-true (count t (chan a b)) 0 (and_left (eqb (count t (chan a b)) 0) _ o),
        (eqb-true (heard t a b) 0 (and_left (eqb (heard t a b) 0) _ u), and_right (eqb (heard t a b) 0) _ u),
      )

  none_left : (a b : ℕ) → a < 8 → b < 8 → benches t ≤ a → entry t a b ≡ 0
  none_left a b ha hb l =
      eqb-true (entry t a b) 0
      (or_out (own_entry (view t) a b) _ (rw (view-benches t, le-ltb a (benches t) l) (and_false (eqb a b) false refl)) (nothing a b ha hb (inl l)).1.1)

  no-entry : (a b : ℕ) → a < 8 → b < 8 → (benches t ≤ a) ⊎ (benches t ≤ b) → entry t a b ≡ 0
  no-entry a b ha hb (inl l) = none_left a b ha hb l
  no-entry a b ha hb (inr l) = go (dec_lt a (benches t))
    where
      go : Dec (a < benches t) → entry t a b ≡ 0
      go (yes h) =
          let ne : a ≢ b = omega arith in
          eqb-true (entry t a b) 0 (or_out (own_entry (view t) a b) _ (rw (ne_eqb a b ne)) (nothing a b ha hb (inr (inl l))).1.1)
      go (no nh) = none_left a b ha hb (omega arith)

  at_most : (a b : ℕ) → a < 8 → b < 8 → count t (chan a b) ≤ capacity t
  unfolding link_ok
  at_most a b ha hb = go (dec_lt a (benches t)) (dec_lt b (benches t)) (ℕ_discrete a b)
    where
      out : Apart (benches t) a b → count t (chan a b) ≤ capacity t
      out f = omega (arith, (nothing a b ha hb f).0)

      go : Dec (a < benches t) → Dec (b < benches t) → Dec (a ≡ b) → count t (chan a b) ≤ capacity t
      go (no na) y z = out (inl (omega arith))
      go (yes x) (no nb) z = out (inr (inl (omega arith)))
      go (yes x) (yes y) (yes e) = out (inr (inr e))
      go (yes x) (yes y) (no ne) =
          leb-true (count t (chan a b)) (capacity t)
          (rw (view-benches t, lt-ltb a (benches t) x, lt-ltb b (benches t) y, ne_eqb a b ne, view-count t a b ha hb, view-capacity t) at (two a b ha hb).0)

  channel-ok : (a b : ℕ) → a < 8 → b < 8 → Slots t (chan a b) (capacity t)
  unfolding word
  channel-ok a b ha hb =
      record {
        few = at_most a b ha hb;
        kinds = λ i l. leb-true (kind t c i) 2 (live i l).0;
        stamps = λ i l. leb-true 1 (stamp t c i) (live i l).1;
        no-kinds = λ i l k. eqb-true (kind t c i) 0 (dead i l k).0;
        no-stamps = λ i l k. eqb-true (stamp t c i) 0 (dead i l k).1;
      }
    where
      c : ℕ
      c = chan a b

      live : (i : ℕ) → i < count t c → (leb (kind t c i) 2 ≡ true) × (leb 1 (stamp t c i) ≡ true)
      live i l =
          let o = rw (lt-ltb i (count t c) l) at (all_at (slot_ok t c) 16 i (two a b ha hb).1 (omega (arith, at_most a b ha hb, test_sizes.slots))) in
          (and_left (leb (kind t c i) 2) _ o, and_right (leb (kind t c i) 2) _ o)

      dead : (i : ℕ) → count t c ≤ i → i < 16 → (eqb (kind t c i) 0 ≡ true) × (eqb (stamp t c i) 0 ≡ true)
      dead i l k =
          let o = rw (le-ltb i (count t c) l) at (all_at (slot_ok t c) 16 i (two a b ha hb).1 k) in
          (and_left (eqb (kind t c i) 0) _ o, and_right (eqb (kind t c i) 0) _ o)

  pub test_wf : Wf (benches t) (capacity t) t
  unfolding word size_of
  test_wf =
      record {
        sized = test_length;
        proper = λ a h. leb-true (phase t a) 2 (and_left (leb (phase t a) 2) _ (there a h));
        idle = λ a h. (own a h).0;
        busy = λ a h. (own a h).1;
        no-clock = λ a h l. (absent a h l).0;
        no-phase = λ a h l. (absent a h l).1;
        no-entry = no-entry;
        no-heard = λ a b ha hb f. (nothing a b ha hb f).1.0;
        no-channel = λ a b ha hb f. (nothing a b ha hb f).0;
        slots = channel-ok;
      }

-- ---- to the test

module _ (t : List ℕ) (s : Sizes t) (w : Wf (benches t) (capacity t) t) where
  bench-passes : (a : ℕ) → a < 8 → bench_ok (view t) a ≡ true
  unfolding bench_ok word
  bench-passes a h = go (dec_lt a (benches t)) (ℕ_discrete (phase t a) 0)
    where
      go : Dec (a < benches t) → Dec (phase t a ≡ 0) → bench_ok (view t) a ≡ true
      go (yes l) (yes z) =
          rw (view-benches t, lt-ltb a (benches t) l, view-phase t a h, view-entry t a a h h, z) (eq-eqb (entry t a a) 0 (w.idle a l z))
      go (yes l) (no nz) =
          let nz' = w.busy a l nz in
          rw (view-benches t, lt-ltb a (benches t) l, view-phase t a h, view-entry t a a h h, ne_eqb (phase t a) 0 nz)
          (and_in _ _ (le-leb (phase t a) 2 (w.proper a l)) (le-leb 1 (entry t a a) (omega arith)))
      go (no nl) z =
          let l : benches t ≤ a = omega arith in
          rw (view-benches t, le-ltb a (benches t) l, view-clock t a h, view-phase t a h)
          (and_in _ _ (eq-eqb (clock t a) 0 (w.no-clock a l h)) (eq-eqb (phase t a) 0 (w.no-phase a l h)))

  unjoined_passes : (a b : ℕ) → a < 8 → b < 8 → Apart (benches t) a b → (own_entry (view t) a b || eqb (entry t a b) 0) ≡ true → link_ok (view t) a b ≡ true
  unfolding link_ok word
  unjoined_passes a b ha hb f e =
      rw (apart t a b f, view-count t a b ha hb, view-heard t a b ha hb, view-entry t a b ha hb)
      (and_in _ _ (eq-eqb (count t (chan a b)) 0 (w.no-channel a b ha hb f))
      (and_in _ _ (eq-eqb (heard t a b) 0 (w.no-heard a b ha hb f)) e))

  link_passes : (a b : ℕ) → a < 8 → b < 8 → link_ok (view t) a b ≡ true
  unfolding link_ok word
  link_passes a b ha hb = go (dec_lt a (benches t)) (dec_lt b (benches t)) (ℕ_discrete a b)
    where
      zero-entry : (benches t ≤ a) ⊎ (benches t ≤ b) → (own_entry (view t) a b || eqb (entry t a b) 0) ≡ true
      zero-entry f = or_in (own_entry (view t) a b) _ (eq-eqb (entry t a b) 0 (w.no-entry a b ha hb f))

      go : Dec (a < benches t) → Dec (b < benches t) → Dec (a ≡ b) → link_ok (view t) a b ≡ true
      go (no na) y z = let l : benches t ≤ a = omega arith in unjoined_passes a b ha hb (inl l) (zero-entry (inl l))
      go (yes x) (no nb) z = let l : benches t ≤ b = omega arith in unjoined_passes a b ha hb (inr (inl l)) (zero-entry (inr l))
      go (yes x) (yes y) (yes e) = unjoined_passes a b ha hb (inr (inr e)) (rw (view-benches t, eq-eqb a b e, lt-ltb a (benches t) x))
      go (yes x) (yes y) (no ne) =
          rw (view-benches t, lt-ltb a (benches t) x, lt-ltb b (benches t) y, ne_eqb a b ne, view-count t a b ha hb, view-capacity t)
          (le-leb (count t (chan a b)) (capacity t) (w.slots a b ha hb).few)

  slot-passes : (a b : ℕ) → a < 8 → b < 8 → (i : ℕ) → i < 16 → slot_ok t (chan a b) i ≡ true
  unfolding word
  slot-passes a b ha hb i l = go (dec_lt i (count t (chan a b)))
    where
      go : Dec (i < count t (chan a b)) → slot_ok t (chan a b) i ≡ true
      go (yes k) =
          rw (lt-ltb i (count t (chan a b)) k)
          (and_in (leb (kind t (chan a b) i) 2) _ (le-leb _ 2 ((w.slots a b ha hb).kinds i k)) (le-leb 1 _ ((w.slots a b ha hb).stamps i k)))
      go (no nk) =
          let k : count t (chan a b) ≤ i = omega arith in
          rw (le-ltb i (count t (chan a b)) k)
          (and_in (eqb (kind t (chan a b) i) 0) _ (eq-eqb _ 0 ((w.slots a b ha hb).no-kinds i k l)) (eq-eqb _ 0 ((w.slots a b ha hb).no-stamps i k l)))

  sizes-pass : sizes_ok (benches t) (capacity t) ≡ true
  sizes-pass =
      and_in (within 1 (benches t) 8) _
      (and_in (leb 1 (benches t)) _ (le-leb 1 (benches t) s.some) (le-leb (benches t) 8 s.most))
      (and_in (leb 1 (capacity t)) _ (le-leb 1 (capacity t) s.room) (le-leb (capacity t) 16 s.slots))

  pub wf-test : well_formed t ≡ true
  unfolding well_formed row_ok pair_ok size_of
  wf-test =
      rw (view-benches t, view-capacity t)
      (and_in (eqb (length t) size) _ (eq-eqb (length t) size w.sized)
      (and_in (sizes_ok (benches t) (capacity t)) _ sizes-pass
      (all_all (row_ok t) 8
      (λ a ha. and_in (bench_ok (view t) a) _ (bench-passes a ha)
      (all_all (pair_ok t a) 8
      (λ b hb. and_in (link_ok (view t) a b) _ (link_passes a b ha hb) (all_all (slot_ok t (chan a b)) 16 (slot-passes a b ha hb))))))))

-- ---- what is read of words that are well formed

module _ (t : List ℕ) (w : well_formed t ≡ true) where
  pub few : (view t).benches ≤ 8
  few = rw (view-benches t) (test_sizes t w).most

  pub phase-small : (p : ℕ) → p < (view t).benches → (view t).phase p < 3
  phase-small p h =
      let h8 : p < 8 = omega (arith, few) in
      let h' : p < benches t = rw (view-benches t) at h in
      let k : phase t p ≤ 2 = unfold word in ((test_wf t w).proper p h') in
      omega (arith, view-phase t p h8)

  pub phase-named : (p : ℕ) → p < 8 → (view t).phase p ≤ 2
  phase-named p h = go (dec_lt p (benches t))
    where
      go : Dec (p < benches t) → (view t).phase p ≤ 2
      go (yes l) = let l' : p < (view t).benches = rw (view-benches t) l in omega (arith, phase-small p l')
      go (no nl) =
          let z : phase t p ≡ 0 = unfold word in ((test_wf t w).no-phase p (omega arith) h) in
          omega (arith, view-phase t p h)
