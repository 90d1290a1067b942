-- Well-formed words that read as the same table are the same words.
use mathlib.Core.Path.{◌≡◌, refl, sym, ap, ◌∙◌}
use mathlib.Core.Bool.{true}
use mathlib.Core.List.{List}
use Prim.Native.Nat.{ℕ, zero, suc, ◌+◌, ◌*◌, ◌-◌, ◌≤◌, ◌<◌, ◌/◌, ◌%◌}
use native.Mathlib.Omega.{arith}
use native.Mathlib.Decide.{dec_lt}
use lib.ListN.{length, get_or}
use lib.Seq.{ext_get_or}
use Rattle.lamport.specs.declared.Message.{Message}
use Rattle.lamport.specs.Table.{Table}
use Rattle.lamport.specs.Codes.{code_of}
use Rattle.words.specs.Places.{slot_words, channel_words, first_clock, first_phase, first_entry, first_heard, first_count, first_kind, size, clock_at, phase_at, chan, count_at, kind_at, stamp_at, capacity, clock, phase, entry, heard, count, kind_of}
use Rattle.words.specs.View.{slot, channel, view}
use Rattle.words.specs.WellFormed.{well_formed}
use Rattle.words.proofs.Listed.{nth, listed_nth}
use Rattle.words.proofs.Reading.{view-clock, view-phase, view-entry, view-heard, view-messages, view-count}
use Rattle.words.proofs.Shut.{word}
use Rattle.words.proofs.Formed.{Slots, test_length, test_wf}

code_kind : (x : ℕ) → x ≤ 2 → code_of (kind_of x) ≡ x
code_kind zero h = refl
code_kind (suc zero) h = refl
code_kind (suc (suc zero)) h = refl
code_kind (suc (suc (suc x))) h = absurd (omega arith)

-- a number below 64 is a pair of bench numbers, and one below 2048 a slot's word
pub record Pair (k : ℕ) : Type 0 where
  pub a : ℕ
  pub b : ℕ
  pub left : a < 8
  pub right : b < 8
  pub is : k ≡ a * 8 + b

pair_of : (k : ℕ) → k < 64 → Pair k
pair_of k h = record { a = k / 8; b = k % 8; left = omega arith; right = omega arith; is = omega arith }

module _ (t u : List ℕ) (v : well_formed t ≡ true) (w : well_formed u ≡ true) (e : view t ≡ view u) where
  same-benches : get_or t 0 0 ≡ get_or u 0 0
  same-benches = unfold view in ap (λ (s : Table). s.benches) e

  same-capacity : get_or t 1 0 ≡ get_or u 1 0
  same-capacity = unfold view in ap (λ (s : Table). s.capacity) e

  same-clock : (a : ℕ) → a < 8 → clock t a ≡ clock u a
  same-clock a h = sym (view-clock t a h) ∙ ap (λ (s : Table). s.clock a) e ∙ view-clock u a h

  same-phase : (a : ℕ) → a < 8 → phase t a ≡ phase u a
  same-phase a h = sym (view-phase t a h) ∙ ap (λ (s : Table). s.phase a) e ∙ view-phase u a h

  module _ (a b : ℕ) (ha : a < 8) (hb : b < 8) where
    same-entry : entry t a b ≡ entry u a b
    same-entry = sym (view-entry t a b ha hb) ∙ ap (λ (s : Table). s.entry a b) e ∙ view-entry u a b ha hb

    same-heard : heard t a b ≡ heard u a b
    same-heard = sym (view-heard t a b ha hb) ∙ ap (λ (s : Table). s.heard a b) e ∙ view-heard u a b ha hb

    same_count : count t (chan a b) ≡ count u (chan a b)
    same_count = sym (view-count t a b ha hb) ∙ ap (λ (s : Table). length (s.messages a b)) e ∙ view-count u a b ha hb

    same-channel : channel t (chan a b) ≡ channel u (chan a b)
    same-channel = sym (view-messages t a b ha hb) ∙ ap (λ (s : Table). s.messages a b) e ∙ view-messages u a b ha hb

    same-slot : (i : ℕ) → i < count t (chan a b) → slot t (chan a b) i ≡ slot u (chan a b) i
    unfolding channel
    same-slot i h =
        sym (listed_nth (count t (chan a b)) (slot t (chan a b)) i h)
        ∙ ap (λ (l : List Message). nth l i) same-channel
        ∙ listed_nth (count u (chan a b)) (slot u (chan a b)) i (omega (arith, same_count))

    St : Slots t (chan a b) (capacity t)
    St = (test_wf t v).slots a b ha hb

    Su : Slots u (chan a b) (capacity u)
    Su = (test_wf u w).slots a b ha hb

    same_kind : (i : ℕ) → i < 16 → get_or t (kind_at (chan a b) i) 0 ≡ get_or u (kind_at (chan a b) i) 0
    unfolding word
    same_kind i l = go (dec_lt i (count t (chan a b)))
      where
        go : Dec (i < count t (chan a b)) → get_or t (kind_at (chan a b) i) 0 ≡ get_or u (kind_at (chan a b) i) 0
        go (yes h) =
            let h' : i < count u (chan a b) = omega (arith, same_count) in
            sym (code_kind _ (St.kinds i h)) ∙ ap (λ (m : Message). code_of m.kind) (same-slot i h) ∙ code_kind _ (Su.kinds i h')
        go (no nh) =
            let h : count t (chan a b) ≤ i = omega arith in
            let h' : count u (chan a b) ≤ i = omega (arith, same_count) in
            (St.no-kinds i h l ∙ sym (Su.no-kinds i h' l))

    same-stamp : (i : ℕ) → i < 16 → get_or t (stamp_at (chan a b) i) 0 ≡ get_or u (stamp_at (chan a b) i) 0
    unfolding word
    same-stamp i l = go (dec_lt i (count t (chan a b)))
      where
        go : Dec (i < count t (chan a b)) → get_or t (stamp_at (chan a b) i) 0 ≡ get_or u (stamp_at (chan a b) i) 0
        go (yes h) = ap (λ (m : Message). m.stamp) (same-slot i h)
        go (no nh) =
            let h : count t (chan a b) ≤ i = omega arith in
            let h' : count u (chan a b) ≤ i = omega (arith, same_count) in
            (St.no-stamps i h l ∙ sym (Su.no-stamps i h' l))

  -- every place is one of the named ones
  Same : ℕ → Type 0
  Same j = get_or t j 0 ≡ get_or u j 0

  at : (j k : ℕ) → k ≡ j → Same j → Same k
  unfolding Same
  at j k q s = rw q s

  paired : (base : ℕ) → ((a b : ℕ) → a < 8 → b < 8 → Same (base + a * 8 + b)) → (j : ℕ) → base ≤ j → j < base + 64 → Same j
  paired base h j lo hi = let p = pair_of (j - base) (omega arith) in at (base + p.a * 8 + p.b) j (omega (arith, p.is)) (h p.a p.b p.left p.right)

  slotted : (j : ℕ) → first_kind ≤ j → j < size → Same j
  unfolding Same
  slotted j lo hi = go (pair_of ((j - first_kind) / channel_words) (omega arith)) (dec_lt ((j - first_kind) % slot_words) 1)
    where
      go : Pair ((j - first_kind) / channel_words) → Dec ((j - first_kind) % slot_words < 1) → Same j
      go p (yes even) = at (kind_at (chan p.a p.b) ((j - first_kind) % channel_words / slot_words)) j (omega (arith, p.is)) (same_kind p.a p.b p.left p.right ((j - first_kind) % channel_words / slot_words) (omega arith))
      go p (no odd) = at (stamp_at (chan p.a p.b) ((j - first_kind) % channel_words / slot_words)) j (omega (arith, p.is)) (same-stamp p.a p.b p.left p.right ((j - first_kind) % channel_words / slot_words) (omega arith))

  all_same : (j : ℕ) → j < size → Same j
  unfolding Same
  all_same j h = go (dec_lt j 1) (dec_lt j first_clock) (dec_lt j first_phase) (dec_lt j first_entry) (dec_lt j first_heard) (dec_lt j first_count) (dec_lt j first_kind)
    where
      go : Dec (j < 1) → Dec (j < first_clock) → Dec (j < first_phase) → Dec (j < first_entry) → Dec (j < first_heard) → Dec (j < first_count) → Dec (j < first_kind) → Same j
      go (yes a) b c d x y z = at 0 j (omega arith) same-benches
      go (no a) (yes b) c d x y z = at 1 j (omega arith) same-capacity
      go (no a) (no b) (yes c) d x y z = at (clock_at (j - first_clock)) j (omega arith) (same-clock (j - first_clock) (omega arith))
      go (no a) (no b) (no c) (yes d) x y z = at (phase_at (j - first_phase)) j (omega arith) (same-phase (j - first_phase) (omega arith))
      go (no a) (no b) (no c) (no d) (yes x) y z = paired first_entry same-entry j (omega arith) (omega arith)
      go (no a) (no b) (no c) (no d) (no x) (yes y) z = paired first_heard same-heard j (omega arith) (omega arith)
      go (no a) (no b) (no c) (no d) (no x) (no y) (yes z) = paired first_count (λ p q hp hq. at (count_at (chan p q)) (first_count + p * 8 + q) (omega arith) (same_count p q hp hq)) j (omega arith) (omega arith)
      go (no a) (no b) (no c) (no d) (no x) (no y) (no z) = slotted j (omega arith) h

  pub determined : t ≡ u
  unfolding Same
  determined = ext_get_or 0 t u (test_length t v ∙ sym (test_length u w)) (λ j h. all_same j (omega (arith, test_length t v)))
