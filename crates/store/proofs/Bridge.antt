-- Stores become changes of the view: a law for each.
use mathlib.Core.Path.{◌≡◌, refl, sym, ◌∙◌, fun_ext}
use mathlib.Core.Logic.{◌≢◌, inl}
use mathlib.Core.Bool.{false, cond}
use mathlib.Core.List.{List, [], ◌∷◌, ◌++◌}
use Prim.Native.Nat.{ℕ, ◌≤◌, ◌<◌}
use native.Mathlib.Omega.{arith}
use native.Mathlib.Decide.{ℕ_discrete, dec_lt}
use borrow.Author.Tests.{lt-ltb, le-ltb, eq-eqb, ne_eqb}
use lib.Dec.{ltb}
use Rattle.lamport.specs.declared.Message.{Message}
use Rattle.lamport.specs.Table.{Table}
use Rattle.lamport.specs.Steps.{at1, at2, rest}
use Rattle.lamport.proofs.Each.{and_false}
use Rattle.lamport.proofs.Readings.{Other, at2-else}
use Rattle.words.specs.Places.{first_count, size, clock_at, phase_at, entry_at, heard_at, chan, count_at, clock, phase, entry, heard}
use Rattle.words.specs.View.{channel, two, view}
use Rattle.words.proofs.Shut.{word, put, size_of, on, off}
use Rattle.words.proofs.Reading.{view-messages}
use Rattle.store.specs.Stores.{pushed, popped}
use Rattle.store.proofs.Laws.{channel-frame, push_off, push_here, push_else, pop_off, pop_here, pop_else}

-- ---- two tables with the same readings are one

pub fields : {n n' k k' : ℕ} {c c' f f' : ℕ → ℕ} {e e' h h' : ℕ → ℕ → ℕ} {m m' : ℕ → ℕ → List Message} → n ≡ n' → k ≡ k' → c ≡ c' → f ≡ f' → e ≡ e' → h ≡ h' → m ≡ m'
    → ◌≡◌ {A = Table} (record { benches = n; capacity = k; clock = c; phase = f; entry = e; heard = h; messages = m })
    (record { benches = n'; capacity = k'; clock = c'; phase = f'; entry = e'; heard = h'; messages = m' })
fields x y a b c d e = rw (x, y, a, b, c, d, e)

pub ext2 : {A : Type 0} {f g : ℕ → ℕ → A} → ((a b : ℕ) → f a b ≡ g a b) → f ≡ g
ext2 h = fun_ext (λ a. fun_ext (λ b. h a b))

pub table-ext : (s u : Table) → s.benches ≡ u.benches → s.capacity ≡ u.capacity → ((a : ℕ) → s.clock a ≡ u.clock a) → ((a : ℕ) → s.phase a ≡ u.phase a)
    → ((a b : ℕ) → s.entry a b ≡ u.entry a b) → ((a b : ℕ) → s.heard a b ≡ u.heard a b) → ((a b : ℕ) → s.messages a b ≡ u.messages a b) → s ≡ u
table-ext s u n k c f e h m = fields n k (fun_ext c) (fun_ext f) (ext2 e) (ext2 h) (ext2 m)

-- ---- a reading that is guarded, unchanged or changed at a point

same1 : (f g : ℕ → ℕ) → ((a : ℕ) → a < 8 → f a ≡ g a) → (a : ℕ) → cond (ltb a 8) (f a) 0 ≡ cond (ltb a 8) (g a) 0
same1 f g h a = go (dec_lt a 8)
  where
    go : Dec (a < 8) → cond (ltb a 8) (f a) 0 ≡ cond (ltb a 8) (g a) 0
    go (yes l) = rw (h a l)
    go (no nl) = let l : 8 ≤ a = omega arith in rw (le-ltb a 8 l)

upd1 : (f g : ℕ → ℕ) (p v : ℕ) → p < 8 → f p ≡ v → ((a : ℕ) → a < 8 → a ≢ p → f a ≡ g a) → (a : ℕ) → cond (ltb a 8) (f a) 0 ≡ at1 (λ b. cond (ltb b 8) (g b) 0) p v a
upd1 f g p v hp e h a = go (ℕ_discrete a p) (dec_lt a 8)
  where
    go : Dec (a ≡ p) → Dec (a < 8) → cond (ltb a 8) (f a) 0 ≡ at1 (λ b. cond (ltb b 8) (g b) 0) p v a
    go (yes d) l = rw (d, lt-ltb p 8 hp, eq-eqb p p refl) e
    go (no ne) (yes l) = rw (ne_eqb a p ne, h a l ne)
    go (no ne) (no nl) = let l : 8 ≤ a = omega arith in rw (ne_eqb a p ne, le-ltb a 8 l)

module _ {A : Type 0} where
  same2 : (f g : ℕ → ℕ → A) (z : A) → ((a b : ℕ) → a < 8 → b < 8 → f a b ≡ g a b) → (a b : ℕ) → cond (two a b) (f a b) z ≡ cond (two a b) (g a b) z
  same2 f g z h a b = go (dec_lt a 8) (dec_lt b 8)
    where
      go : Dec (a < 8) → Dec (b < 8) → cond (two a b) (f a b) z ≡ cond (two a b) (g a b) z
      go (yes l) (yes k) = rw (h a b l k)
      go (yes l) (no nk) = let k : 8 ≤ b = omega arith in rw (le-ltb b 8 k, and_false (ltb a 8) false refl)
      go (no nl) k = let l : 8 ≤ a = omega arith in rw (le-ltb a 8 l)

  upd2 : (f g : ℕ → ℕ → A) (z : A) (p q : ℕ) (v : A) → p < 8 → q < 8 → f p q ≡ v → ((a b : ℕ) → a < 8 → b < 8 → Other a b p q → f a b ≡ g a b)
      → (a b : ℕ) → cond (two a b) (f a b) z ≡ at2 (λ x y. cond (two x y) (g x y) z) p q v a b
  upd2 f g z p q v hp hq e h a b = go (ℕ_discrete a p) (ℕ_discrete b q)
    where
      else : Other a b p q → cond (two a b) (f a b) z ≡ at2 (λ x y. cond (two x y) (g x y) z) p q v a b
      else o = out (dec_lt a 8) (dec_lt b 8) ∙ sym (at2-else (λ x y. cond (two x y) (g x y) z) p q v a b o)
        where
          out : Dec (a < 8) → Dec (b < 8) → cond (two a b) (f a b) z ≡ cond (two a b) (g a b) z
          out (yes l) (yes k) = rw (h a b l k o)
          out (yes l) (no nk) = let k : 8 ≤ b = omega arith in rw (le-ltb b 8 k, and_false (ltb a 8) false refl)
          out (no nl) k = let l : 8 ≤ a = omega arith in rw (le-ltb a 8 l)

      go : Dec (a ≡ p) → Dec (b ≡ q) → cond (two a b) (f a b) z ≡ at2 (λ x y. cond (two x y) (g x y) z) p q v a b
      go (yes x) (yes y) = rw (x, y, lt-ltb p 8 hp, lt-ltb q 8 hq, eq-eqb p p refl, eq-eqb q q refl) e
      go (yes x) (no ny) = else (λ o. ny o.1)
      go (no nx) y = else (λ o. nx o.0)

-- ---- changes of a table

abbrev pub with_clock : Table → ℕ → ℕ → Table
with_clock s p v = record { benches = s.benches; capacity = s.capacity; clock = at1 s.clock p v; phase = s.phase; entry = s.entry; heard = s.heard; messages = s.messages }

abbrev pub with_phase : Table → ℕ → ℕ → Table
with_phase s p v = record { benches = s.benches; capacity = s.capacity; clock = s.clock; phase = at1 s.phase p v; entry = s.entry; heard = s.heard; messages = s.messages }

abbrev pub with_entry : Table → ℕ → ℕ → ℕ → Table
with_entry s p q v = record { benches = s.benches; capacity = s.capacity; clock = s.clock; phase = s.phase; entry = at2 s.entry p q v; heard = s.heard; messages = s.messages }

abbrev pub with_heard : Table → ℕ → ℕ → ℕ → Table
with_heard s p q v = record { benches = s.benches; capacity = s.capacity; clock = s.clock; phase = s.phase; entry = s.entry; heard = at2 s.heard p q v; messages = s.messages }

abbrev pub with_messages : Table → (ℕ → ℕ → List Message) → Table
with_messages s f = record { benches = s.benches; capacity = s.capacity; clock = s.clock; phase = s.phase; entry = s.entry; heard = s.heard; messages = f }

-- ---- one store below the channels

module _ (t : List ℕ) (sz : size_of t ≡ size) where
  -- a store below the counts leaves every channel
  low-channel : (j v : ℕ) → j < first_count → (c : ℕ) → channel (put t j v) c ≡ channel t c
  low-channel j v h c = channel-frame t (put t j v) c (off _ _ _ _ (omega arith)) (λ i l. (off _ _ _ _ (omega arith), off _ _ _ _ (omega arith)))

  pub put-clock : (p v : ℕ) → p < 8 → view (put t (clock_at p) v) ≡ with_clock (view t) p v
  unfolding view word
  put-clock p v hp =
      table-ext _ _ (off t _ v 0 (omega arith)) (off t _ v 1 (omega arith))
      (upd1 (clock (put t (clock_at p) v)) (clock t) p v hp (on t (clock_at p) v (omega arith)) (λ a h ne. off t _ v (clock_at a) (omega arith)))
      (same1 _ (phase t) (λ a h. off t _ v (phase_at a) (omega arith)))
      (same2 _ (entry t) 0 (λ a b ha hb. off t _ v (entry_at a b) (omega arith)))
      (same2 _ (heard t) 0 (λ a b ha hb. off t _ v (heard_at a b) (omega arith)))
      (same2 _ (λ a b. channel t (chan a b)) [] (λ a b ha hb. low-channel (clock_at p) v (omega arith) (chan a b)))

  pub put-phase : (p v : ℕ) → p < 8 → view (put t (phase_at p) v) ≡ with_phase (view t) p v
  unfolding view word
  put-phase p v hp =
      table-ext _ _ (off t _ v 0 (omega arith)) (off t _ v 1 (omega arith))
      (same1 _ (clock t) (λ a h. off t _ v (clock_at a) (omega arith)))
      (upd1 (phase (put t (phase_at p) v)) (phase t) p v hp (on t (phase_at p) v (omega arith)) (λ a h ne. off t _ v (phase_at a) (omega arith)))
      (same2 _ (entry t) 0 (λ a b ha hb. off t _ v (entry_at a b) (omega arith)))
      (same2 _ (heard t) 0 (λ a b ha hb. off t _ v (heard_at a b) (omega arith)))
      (same2 _ (λ a b. channel t (chan a b)) [] (λ a b ha hb. low-channel (phase_at p) v (omega arith) (chan a b)))

  pub put-entry : (p q v : ℕ) → p < 8 → q < 8 → view (put t (entry_at p q) v) ≡ with_entry (view t) p q v
  unfolding view word
  put-entry p q v hp hq =
      table-ext _ _ (off t _ v 0 (omega arith)) (off t _ v 1 (omega arith))
      (same1 _ (clock t) (λ a h. off t _ v (clock_at a) (omega arith)))
      (same1 _ (phase t) (λ a h. off t _ v (phase_at a) (omega arith)))
      (upd2 (entry (put t (entry_at p q) v)) (entry t) 0 p q v hp hq (on t (entry_at p q) v (omega arith)) (λ a b ha hb o. off t _ v (entry_at a b) (λ e. o (omega arith, omega arith))))
      (same2 _ (heard t) 0 (λ a b ha hb. off t _ v (heard_at a b) (omega arith)))
      (same2 _ (λ a b. channel t (chan a b)) [] (λ a b ha hb. low-channel (entry_at p q) v (omega arith) (chan a b)))

  pub put-heard : (p q v : ℕ) → p < 8 → q < 8 → view (put t (heard_at p q) v) ≡ with_heard (view t) p q v
  unfolding view word
  put-heard p q v hp hq =
      table-ext _ _ (off t _ v 0 (omega arith)) (off t _ v 1 (omega arith))
      (same1 _ (clock t) (λ a h. off t _ v (clock_at a) (omega arith)))
      (same1 _ (phase t) (λ a h. off t _ v (phase_at a) (omega arith)))
      (same2 _ (entry t) 0 (λ a b ha hb. off t _ v (entry_at a b) (omega arith)))
      (upd2 (heard (put t (heard_at p q) v)) (heard t) 0 p q v hp hq (on t (heard_at p q) v (omega arith)) (λ a b ha hb o. off t _ v (heard_at a b) (λ e. o (omega arith, omega arith))))
      (same2 _ (λ a b. channel t (chan a b)) [] (λ a b ha hb. low-channel (heard_at p q) v (omega arith) (chan a b)))

  -- ---- a message joins a channel, or is taken off it

  module _ (counts : (a b : ℕ) → a < 8 → b < 8 → word t (count_at (chan a b)) ≤ 16) (p q : ℕ) (hp : p < 8) (hq : q < 8) where
    pub view-pushed : (m : Message) → word t (count_at (chan p q)) < 16 → view (pushed t (chan p q) m) ≡ with_messages (view t) (at2 (view t).messages p q ((view t).messages p q ++ m ∷ []))
    unfolding view word
    view-pushed m room =
        table-ext _ _ (push_off t (chan p q) m 0 (omega arith) (omega arith) (omega arith)) (push_off t (chan p q) m 1 (omega arith) (omega arith) (omega arith))
        (same1 _ (clock t) (λ a h. low (clock_at a) (omega arith)))
        (same1 _ (phase t) (λ a h. low (phase_at a) (omega arith)))
        (same2 _ (entry t) 0 (λ a b ha hb. low (entry_at a b) (omega arith)))
        (same2 _ (heard t) 0 (λ a b ha hb. low (heard_at a b) (omega arith)))
        (upd2 (λ a b. channel (pushed t (chan p q) m) (chan a b)) (λ a b. channel t (chan a b)) [] p q _ hp hq here
        (λ a b ha hb o. push_else t (chan p q) m sz (omega arith) room (chan a b) (omega arith) (λ e. o (omega arith, omega arith)) (counts a b ha hb)))
      where
        low : (j : ℕ) → j < first_count → word (pushed t (chan p q) m) j ≡ word t j
        low j h = push_off t (chan p q) m j (omega arith) (omega arith) (omega arith)

        here : channel (pushed t (chan p q) m) (chan p q) ≡ (view t).messages p q ++ m ∷ []
        here = rw (view-messages t p q hp hq) (push_here t (chan p q) m sz (omega arith) room)

    pub view-popped : 0 < word t (count_at (chan p q)) → view (popped t (chan p q)) ≡ with_messages (view t) (at2 (view t).messages p q (rest ((view t).messages p q)))
    unfolding view word
    view-popped some =
        table-ext _ _ (low 0 (omega arith)) (low 1 (omega arith))
        (same1 _ (clock t) (λ a h. low (clock_at a) (omega arith)))
        (same1 _ (phase t) (λ a h. low (phase_at a) (omega arith)))
        (same2 _ (entry t) 0 (λ a b ha hb. low (entry_at a b) (omega arith)))
        (same2 _ (heard t) 0 (λ a b ha hb. low (heard_at a b) (omega arith)))
        (upd2 (λ a b. channel (popped t (chan p q)) (chan a b)) (λ a b. channel t (chan a b)) [] p q _ hp hq here
        (λ a b ha hb o. pop_else t (chan p q) sz (omega arith) (chan a b) (omega arith) (λ e. o (omega arith, omega arith)) (counts a b ha hb)))
      where
        low : (j : ℕ) → j < first_count → word (popped t (chan p q)) j ≡ word t j
        low j h = pop_off t (chan p q) j (omega arith) (inl (omega arith))

        here : channel (popped t (chan p q)) (chan p q) ≡ rest ((view t).messages p q)
        here = rw (view-messages t p q hp hq) (pop_here t (chan p q) sz (omega arith) some (counts p q hp hq))
