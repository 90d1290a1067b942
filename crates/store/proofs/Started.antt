-- A fresh table's words: their view, and that they are well formed.
use mathlib.Core.Path.{◌≡◌, refl, ap, ◌∙◌}
use mathlib.Core.Logic.{◌⊎◌, inl, inr}
use mathlib.Core.Bool.{true, cond}
use mathlib.Core.List.{List, []}
use Prim.Native.Nat.{ℕ, zero, suc, ◌+◌, ◌≤◌, ◌<◌}
use native.Mathlib.Omega.{arith}
use native.Mathlib.Decide.{ℕ_discrete, dec_lt}
use borrow.Author.Tests.{lt-ltb, le-ltb}
use lib.Dec.{ltb}
use Rattle.lamport.specs.Each.{up_to}
use Rattle.lamport.specs.Table.{fresh}
use Rattle.lamport.proofs.Readings.{cond_same}
use Rattle.words.specs.Places.{size, clock_at, phase_at, entry_at, heard_at, chan, count_at, kind_at, stamp_at, clock, phase, entry, heard}
use Rattle.words.specs.View.{listed, slot, channel, two, view}
use Rattle.words.specs.WellFormed.{well_formed}
use Rattle.words.proofs.Shut.{word, put, size_of, on, off, len}
use Rattle.words.proofs.Formed.{Wf, wf-test}
use Rattle.store.specs.Stores.{started}
use Rattle.store.proofs.Bridge.{table-ext}

module _ (z : List ℕ) (sz : size_of z ≡ size) (nought : (j : ℕ) → j < size → word z j ≡ 0) (n k c : ℕ) (n1 : 1 ≤ n) (n8 : n ≤ 8) (k1 : 1 ≤ k) (k16 : k ≤ 16) where
  base : List ℕ
  base = put (put z 0 n) 1 k

  started-as : (i : ℕ) (t : List ℕ) → started c i t ≡ put t (clock_at i) c
  unfolding put
  started-as i t = refl

  up-length : (i : ℕ) → size_of (up_to (started c) i base) ≡ size
  unfolding up_to base
  up-length zero = len _ _ _ ∙ len _ _ _ ∙ sz
  up-length (suc i) = rw (started-as i (up_to (started c) i base)) (len _ _ _ ∙ up-length i)

  up-off : (i j : ℕ) → (j < 2) ⊎ (2 + i ≤ j) → word (up_to (started c) i base) j ≡ word base j
  unfolding up_to
  up-off zero j h = refl
  up-off (suc i) j (inl h) = rw (started-as i (up_to (started c) i base)) (off _ _ _ j (omega arith) ∙ up-off i j (inl h))
  up-off (suc i) j (inr h) = rw (started-as i (up_to (started c) i base)) (off _ _ _ j (omega arith) ∙ up-off i j (inr (omega arith)))

  up_in : (i : ℕ) → i ≤ 8 → (a : ℕ) → a < i → word (up_to (started c) i base) (clock_at a) ≡ c
  unfolding up_to
  up_in zero h a l = absurd (omega arith)
  up_in (suc i) h a l = rw (started-as i (up_to (started c) i base)) (go (ℕ_discrete a i) (λ s. up_in i (omega arith) a s))
    where
      go : Dec (a ≡ i) → (a < i → word (up_to (started c) i base) (clock_at a) ≡ c) → word (put (up_to (started c) i base) (clock_at i) c) (clock_at a) ≡ c
      go (yes e) r = rw e (on _ _ _ (omega (arith, up-length i)))
      go (no ne) r = off _ _ _ _ (omega arith) ∙ r (omega arith)

  u : List ℕ
  u = up_to (started c) n base

  u-benches : word u 0 ≡ n
  unfolding u base
  u-benches = up-off n 0 (inl (omega arith)) ∙ off _ _ _ 0 (omega arith) ∙ on _ _ _ (omega arith)

  u-capacity : word u 1 ≡ k
  unfolding u base
  u-capacity = up-off n 1 (inl (omega arith)) ∙ on _ _ _ (simp len (omega arith))

  u-clock : (a : ℕ) → a < n → word u (clock_at a) ≡ c
  unfolding u
  u-clock a h = up_in n n8 a h

  u-zero : (j : ℕ) → 2 + n ≤ j → j < size → word u j ≡ 0
  unfolding u base
  u-zero j h l = up-off n j (inr h) ∙ off _ _ _ j (omega arith) ∙ off _ _ _ j (omega arith) ∙ nought j l

  u-size : size_of u ≡ size
  unfolding u
  u-size = up-length n

  u-wf : Wf n k u
  u-wf =
      record {
        sized = u-size;
        proper = λ a h. rw (u-zero (phase_at a) (omega arith) (omega arith)) (omega arith);
        idle = λ a h e. u-zero (entry_at a a) (omega arith) (omega arith);
        busy = λ a h e. absurd (e (u-zero (phase_at a) (omega arith) (omega arith)));
        no-clock = λ a h l. u-zero (clock_at a) (omega arith) (omega arith);
        no-phase = λ a h l. u-zero (phase_at a) (omega arith) (omega arith);
        no-entry = λ a b ha hb f. u-zero (entry_at a b) (omega arith) (omega arith);
        no-heard = λ a b ha hb f. u-zero (heard_at a b) (omega arith) (omega arith);
        no-channel = λ a b ha hb f. u-zero (count_at (chan a b)) (omega arith) (omega arith);
        slots = λ a b ha hb.
            let e : word u (count_at (chan a b)) ≡ 0 = u-zero (count_at (chan a b)) (omega arith) (omega arith) in
            record {
              few = omega arith;
              kinds = λ i h. absurd (omega arith);
              stamps = λ i h. absurd (omega arith);
              no-kinds = λ i h l. u-zero (kind_at (chan a b) i) (omega arith) (omega arith);
              no-stamps = λ i h l. u-zero (stamp_at (chan a b) i) (omega arith) (omega arith);
            };
      }

  pub started-wf : well_formed (up_to (started c) n (put (put z 0 n) 1 k)) ≡ true
  unfolding base u word
  started-wf = wf-test u (record { some = omega (arith, u-benches); most = omega (arith, u-benches); room = omega (arith, u-capacity); slots = omega (arith, u-capacity) }) (rw (u-benches, u-capacity) u-wf)

  pub started-view : view (up_to (started c) n (put (put z 0 n) 1 k)) ≡ fresh n k c
  unfolding base u word view
  started-view = table-ext _ _ u-benches u-capacity clocks phases entries heards channels
    where
      clocks : (a : ℕ) → cond (ltb a 8) (clock u a) 0 ≡ cond (ltb a n) c 0
      clocks a = go (dec_lt a n) (dec_lt a 8)
        where
          go : Dec (a < n) → Dec (a < 8) → cond (ltb a 8) (clock u a) 0 ≡ cond (ltb a n) c 0
          go (yes h) l = let h8 : a < 8 = omega arith in rw (lt-ltb a 8 h8, lt-ltb a n h) (u-clock a h)
          go (no nh) (yes l) = let h : n ≤ a = omega arith in rw (lt-ltb a 8 l, le-ltb a n h) (u-zero (clock_at a) (omega arith) (omega arith))
          go (no nh) (no nl) = let h : n ≤ a = omega arith in let l : 8 ≤ a = omega arith in rw (le-ltb a 8 l, le-ltb a n h)

      phases : (a : ℕ) → cond (ltb a 8) (phase u a) 0 ≡ 0
      phases a = go (dec_lt a 8)
        where
          go : Dec (a < 8) → cond (ltb a 8) (phase u a) 0 ≡ 0
          go (yes l) = rw (lt-ltb a 8 l) (u-zero (phase_at a) (omega arith) (omega arith))
          go (no nl) = let l : 8 ≤ a = omega arith in rw (le-ltb a 8 l)

      guarded : {A : Type 0} (f : ℕ → ℕ → A) (x : A) → ((a b : ℕ) → a < 8 → b < 8 → f a b ≡ x) → (a b : ℕ) → cond (two a b) (f a b) x ≡ x
      guarded f x h a b = go (dec_lt a 8) (dec_lt b 8)
        where
          go : Dec (a < 8) → Dec (b < 8) → cond (two a b) (f a b) x ≡ x
          go (yes l) (yes m) = rw (h a b l m) (cond_same (two a b) x)
          go (yes l) (no nm) = let m : 8 ≤ b = omega arith in rw (lt-ltb a 8 l, le-ltb b 8 m)
          go (no nl) m = let l : 8 ≤ a = omega arith in rw (le-ltb a 8 l)

      entries : (a b : ℕ) → cond (two a b) (entry u a b) 0 ≡ 0
      entries = guarded (entry u) 0 (λ a b ha hb. u-zero (entry_at a b) (omega arith) (omega arith))

      heards : (a b : ℕ) → cond (two a b) (heard u a b) 0 ≡ 0
      heards = guarded (heard u) 0 (λ a b ha hb. u-zero (heard_at a b) (omega arith) (omega arith))

      empty : (a b : ℕ) → a < 8 → b < 8 → channel u (chan a b) ≡ []
      empty a b ha hb = unfold channel in (ap (listed (slot u (chan a b))) (u-zero (count_at (chan a b)) (omega arith) (omega arith)) ∙ unfold listed in refl)

      channels : (a b : ℕ) → cond (two a b) (channel u (chan a b)) [] ≡ []
      channels = guarded (λ a b. channel u (chan a b)) [] empty
