-- Each store keeps the words well formed.
use mathlib.Core.Path.{◌≡◌, ◌∙◌}
use mathlib.Core.Logic.{◌≢◌, ◌⊎◌, inl, inr}
use mathlib.Core.List.{List}
use Prim.Native.Nat.{ℕ, ◌+◌, ◌*◌, ◌-◌, ◌≤◌, ◌<◌}
use native.Mathlib.Omega.{arith}
use native.Mathlib.Decide.{ℕ_discrete, dec_lt}
use Rattle.lamport.specs.declared.Kind.{Kind}
use Rattle.lamport.specs.declared.Kind.TheVariants.{Request, Ack, Release}
use Rattle.lamport.specs.declared.Message.{Message}
use Rattle.lamport.specs.Codes.{code_of}
use Rattle.words.specs.Places.{channel_words, first_count, first_kind, clock_at, phase_at, entry_at, heard_at, chan, count_at, kind_at, stamp_at}
use Rattle.words.proofs.Shut.{word, put, size_of, on, off, len}
use Rattle.words.proofs.Formed.{Slots, Apart, Wf}
use Rattle.store.specs.Stores.{pushed, popped}
use Rattle.store.proofs.Laws.{push_length, push_off, push_count, push_kind, push_stamp, pop_length, pop_off, pop_count, pop_kind, pop_stamp, pop_last_kind, pop_last_stamp}

slots-frame : (t u : List ℕ) (c cap : ℕ) → cap ≤ 16 → word u (count_at c) ≡ word t (count_at c) → ((j : ℕ) → first_kind + c * channel_words ≤ j → j < first_kind + c * channel_words + channel_words → word u j ≡ word t j) → Slots t c cap → Slots u c cap
slots-frame t u c cap c16 e f s =
    record {
      few = rw e s.few;
      kinds = λ i h. rw (f (kind_at c i) (omega arith) (omega (arith, s.few))) (s.kinds i (omega arith));
      stamps = λ i h. rw (f (stamp_at c i) (omega arith) (omega (arith, s.few))) (s.stamps i (omega arith));
      no-kinds = λ i h l. f (kind_at c i) (omega arith) (omega arith) ∙ s.no-kinds i (omega arith) l;
      no-stamps = λ i h l. f (stamp_at c i) (omega arith) (omega arith) ∙ s.no-stamps i (omega arith) l;
    }

code_small : (k : Kind) → code_of k ≤ 2
code_small Request = omega arith
code_small Ack = omega arith
code_small Release = omega arith

-- words that agree below the counts, and whose channels are given
low-wf : (n cap : ℕ) → n ≤ 8 → (t u : List ℕ) → Wf n cap t → size_of u ≡ size_of t → ((j : ℕ) → j < first_count → word u j ≡ word t j)
    → ((a b : ℕ) → a < 8 → b < 8 → Apart n a b → word u (count_at (chan a b)) ≡ word t (count_at (chan a b))) → ((a b : ℕ) → a < 8 → b < 8 → Slots u (chan a b) cap) → Wf n cap u
low-wf n cap n8 t u w sz low none sl =
    record {
      sized = sz ∙ w.sized;
      proper = λ x h. rw (low (phase_at x) (omega arith)) (w.proper x h);
      idle = λ x h. rw (low (phase_at x) (omega arith), low (entry_at x x) (omega arith)) (w.idle x h);
      busy = λ x h. rw (low (phase_at x) (omega arith), low (entry_at x x) (omega arith)) (w.busy x h);
      no-clock = λ x h l. low (clock_at x) (omega arith) ∙ w.no-clock x h l;
      no-phase = λ x h l. low (phase_at x) (omega arith) ∙ w.no-phase x h l;
      no-entry = λ x y hx hy f. low (entry_at x y) (omega arith) ∙ w.no-entry x y hx hy f;
      no-heard = λ x y hx hy f. low (heard_at x y) (omega arith) ∙ w.no-heard x y hx hy f;
      no-channel = λ x y hx hy f. none x y hx hy f ∙ w.no-channel x y hx hy f;
      slots = sl;
    }

-- two different benches are not apart
not_apart : (n a b : ℕ) → n ≤ 8 → a < n → b < n → a ≢ b → (x y : ℕ) → x < 8 → y < 8 → Apart n x y → chan x y ≢ chan a b
not_apart n a b n8 ha hb ne x y hx hy (inl l) = omega arith
not_apart n a b n8 ha hb ne x y hx hy (inr (inl l)) = omega arith
not_apart n a b n8 ha hb ne x y hx hy (inr (inr e)) = omega arith

module _ (n cap : ℕ) (n8 : n ≤ 8) (c16 : cap ≤ 16) (t : List ℕ) (w : Wf n cap t) (a b : ℕ) (ha : a < n) (hb : b < n) (ne : a ≢ b) where
  c : ℕ
  c = chan a b

  k : ℕ
  k = word t (count_at c)

  old : Slots t c cap
  unfolding c
  old = w.slots a b (omega arith) (omega arith)

  small : c < 64
  unfolding c
  small = omega arith

  module _ (m : Message) (pos : 1 ≤ m.stamp) (space : word t (count_at (chan a b)) < cap) where
    pushed-slot : (j : ℕ) → first_kind ≤ j → j ≢ kind_at c k → j ≢ stamp_at c k → word (pushed t c m) j ≡ word t j
    unfolding k
    pushed-slot j h x y = push_off t c m j (omega (arith, small)) x y

    pushed-here : Slots (pushed t c m) c cap
    unfolding c k
    pushed-here =
        record {
          few = rw count (omega arith);
          kinds = λ i h. kind i (rw count at h) (ℕ_discrete i (word t (count_at c)));
          stamps = λ i h. stamp i (rw count at h) (ℕ_discrete i (word t (count_at c)));
          no-kinds = λ i h l. let h' = rw count at h in pushed-slot (kind_at c i) (omega arith) (omega arith) (omega arith) ∙ old.no-kinds i (omega arith) l;
          no-stamps = λ i h l. let h' = rw count at h in pushed-slot (stamp_at c i) (omega arith) (omega arith) (omega arith) ∙ old.no-stamps i (omega arith) l;
        }
      where
        count : word (pushed t c m) (count_at c) ≡ word t (count_at c) + 1
        count = push_count t c m w.sized small (omega arith)

        kind : (i : ℕ) → i < word t (count_at c) + 1 → Dec (i ≡ word t (count_at c)) → word (pushed t c m) (kind_at c i) ≤ 2
        kind i h (yes e) = rw (e, push_kind t c m w.sized small (omega arith)) (code_small m.kind)
        kind i h (no d) = rw (pushed-slot (kind_at c i) (omega arith) (omega arith) (omega arith)) (old.kinds i (omega arith))

        stamp : (i : ℕ) → i < word t (count_at c) + 1 → Dec (i ≡ word t (count_at c)) → 1 ≤ word (pushed t c m) (stamp_at c i)
        stamp i h (yes e) = rw (e, push_stamp t c m w.sized small (omega arith)) pos
        stamp i h (no d) = rw (pushed-slot (stamp_at c i) (omega arith) (omega arith) (omega arith)) (old.stamps i (omega arith))

    pub push_wf : Wf n cap (pushed t (chan a b) m)
    unfolding c k
    push_wf =
        low-wf n cap n8 t (pushed t c m) w (push_length t c m) (λ j h. push_off t c m j (omega arith) (omega arith) (omega arith))
        (λ x y hx hy f. push_off t c m (count_at (chan x y)) (λ e. not_apart n a b n8 ha hb ne x y hx hy f (omega arith)) (omega arith) (omega arith))
        (λ x y hx hy. go x y hx hy (ℕ_discrete (chan x y) c))
      where
        go : (x y : ℕ) → x < 8 → y < 8 → Dec (chan x y ≡ chan a b) → Slots (pushed t (chan a b) m) (chan x y) cap
        go x y hx hy (yes e) = rw e pushed-here
        go x y hx hy (no d) =
            slots-frame t (pushed t c m) (chan x y) cap c16 (push_off t c m (count_at (chan x y)) (λ e. d (omega arith)) (omega arith) (omega arith))
            (λ j l h. pushed-slot j (omega arith) (omega arith) (omega arith)) (w.slots x y hx hy)

  module _ (some : 0 < word t (count_at (chan a b))) where
    popped-here : Slots (popped t c) c cap
    unfolding c
    popped-here =
        record {
          few = rw count (omega (arith, old.few));
          kinds = λ i h. let h' = rw count at h in rw (pop_kind t c w.sized small i (omega (arith, old.few))) (old.kinds (i + 1) (omega arith));
          stamps = λ i h. let h' = rw count at h in rw (pop_stamp t c w.sized small i (omega (arith, old.few))) (old.stamps (i + 1) (omega arith));
          no-kinds = λ i h l. no_kind i (rw count at h) l (ℕ_discrete i 15);
          no-stamps = λ i h l. no-stamp i (rw count at h) l (ℕ_discrete i 15);
        }
      where
        count : word (popped t c) (count_at c) ≡ word t (count_at c) - 1
        count = pop_count t c w.sized small

        no_kind : (i : ℕ) → word t (count_at c) - 1 ≤ i → i < 16 → Dec (i ≡ 15) → word (popped t c) (kind_at c i) ≡ 0
        no_kind i h l (yes e) = rw e (pop_last_kind t c w.sized small)
        no_kind i h l (no d) = pop_kind t c w.sized small i (omega arith) ∙ old.no-kinds (i + 1) (omega arith) (omega arith)

        no-stamp : (i : ℕ) → word t (count_at c) - 1 ≤ i → i < 16 → Dec (i ≡ 15) → word (popped t c) (stamp_at c i) ≡ 0
        no-stamp i h l (yes e) = rw e (pop_last_stamp t c w.sized small)
        no-stamp i h l (no d) = pop_stamp t c w.sized small i (omega arith) ∙ old.no-stamps (i + 1) (omega arith) (omega arith)

    pub pop_wf : Wf n cap (popped t (chan a b))
    unfolding c
    pop_wf =
        low-wf n cap n8 t (popped t c) w (pop_length t c) (λ j h. pop_off t c j (omega arith) (inl (omega arith)))
        (λ x y hx hy f. pop_off t c (count_at (chan x y)) (λ e. not_apart n a b n8 ha hb ne x y hx hy f (omega arith)) (inl (omega arith)))
        (λ x y hx hy. go x y hx hy (ℕ_discrete (chan x y) c))
      where
        beside : (x y : ℕ) → x < 8 → y < 8 → chan x y ≢ chan a b → (j : ℕ) → first_kind + chan x y * channel_words ≤ j → j < first_kind + chan x y * channel_words + channel_words → Dec (chan x y < chan a b) → word (popped t (chan a b)) j ≡ word t j
        beside x y hx hy d j l h (yes s) = pop_off t c j (omega arith) (inl (omega arith))
        beside x y hx hy d j l h (no s) = pop_off t c j (omega arith) (inr (omega arith))

        go : (x y : ℕ) → x < 8 → y < 8 → Dec (chan x y ≡ chan a b) → Slots (popped t (chan a b)) (chan x y) cap
        go x y hx hy (yes e) = rw e popped-here
        go x y hx hy (no d) =
            slots-frame t (popped t c) (chan x y) cap c16 (pop_off t c (count_at (chan x y)) (λ e. d (omega arith)) (inl (omega arith)))
            (λ j l h. beside x y hx hy d j l h (dec_lt (chan x y) (chan a b))) (w.slots x y hx hy)

-- ---- stores below the counts

module _ (n cap : ℕ) (n8 : n ≤ 8) (c16 : cap ≤ 16) (t : List ℕ) (w : Wf n cap t) (p : ℕ) (hp : p < n) where
  channels : (j v : ℕ) → j < first_count → (x y : ℕ) → x < 8 → y < 8 → Slots (put t j v) (chan x y) cap
  channels j v h x y hx hy = slots-frame t (put t j v) (chan x y) cap c16 (off _ _ _ _ (omega arith)) (λ i l k. off _ _ _ i (omega arith)) (w.slots x y hx hy)

  -- a word that no clause of being well formed speaks of
  pub record Free (j : ℕ) : Type 0 where
    pub low : j < first_count
    pub phase : (x : ℕ) → x < 8 → phase_at x ≢ j
    pub own : (x : ℕ) → x < n → entry_at x x ≢ j
    pub clock : (x : ℕ) → n ≤ x → x < 8 → clock_at x ≢ j
    pub entry : (x y : ℕ) → x < 8 → y < 8 → (n ≤ x) ⊎ (n ≤ y) → entry_at x y ≢ j
    pub heard : (x y : ℕ) → x < 8 → y < 8 → Apart n x y → heard_at x y ≢ j

  free-wf : (j v : ℕ) → Free j → Wf n cap (put t j v)
  free-wf j v f =
      record {
        sized = len _ _ _ ∙ w.sized;
        proper = λ x h. rw (off t j v (phase_at x) (f.phase x (omega arith))) (w.proper x h);
        idle = λ x h. rw (off t j v (phase_at x) (f.phase x (omega arith)), off t j v (entry_at x x) (f.own x h)) (w.idle x h);
        busy = λ x h. rw (off t j v (phase_at x) (f.phase x (omega arith)), off t j v (entry_at x x) (f.own x h)) (w.busy x h);
        no-clock = λ x h l. off _ _ _ _ (f.clock x h l) ∙ w.no-clock x h l;
        no-phase = λ x h l. off _ _ _ _ (f.phase x l) ∙ w.no-phase x h l;
        no-entry = λ x y hx hy d. off _ _ _ _ (f.entry x y hx hy d) ∙ w.no-entry x y hx hy d;
        no-heard = λ x y hx hy d. off _ _ _ _ (f.heard x y hx hy d) ∙ w.no-heard x y hx hy d;
        no-channel = λ x y hx hy d. off _ _ _ _ (omega (arith, f.low)) ∙ w.no-channel x y hx hy d;
        slots = channels j v f.low;
      }

  pub clock-wf : (v : ℕ) → Wf n cap (put t (clock_at p) v)
  clock-wf v =
      free-wf (clock_at p) v
      (record {
        low = omega arith;
        phase = λ x h. omega arith;
        own = λ x h. omega arith;
        clock = λ x h l. omega arith;
        entry = λ x y hx hy d. omega arith;
        heard = λ x y hx hy d. omega arith;
      })

  -- the phase and the own entry together
  pub own-wf : (f e : ℕ) → f ≤ 2 → (f ≡ 0 → e ≡ 0) → (f ≢ 0 → e ≢ 0) → Wf n cap (put (put t (phase_at p) f) (entry_at p p) e)
  own-wf f e small idle busy =
      record {
        sized = len _ _ _ ∙ len _ _ _ ∙ w.sized;
        proper = λ x h. proper-at x h (ℕ_discrete x p);
        idle = λ x h. idle-at x h (ℕ_discrete x p);
        busy = λ x h. busy-at x h (ℕ_discrete x p);
        no-clock = λ x h l. other (clock_at x) (omega arith) (omega arith) ∙ w.no-clock x h l;
        no-phase = λ x h l. other (phase_at x) (omega arith) (omega arith) ∙ w.no-phase x h l;
        no-entry = λ x y hx hy d. other (entry_at x y) (omega arith) (away x y hx hy d) ∙ w.no-entry x y hx hy d;
        no-heard = λ x y hx hy d. other (heard_at x y) (omega arith) (omega arith) ∙ w.no-heard x y hx hy d;
        no-channel = λ x y hx hy d. other (count_at (chan x y)) (omega arith) (omega arith) ∙ w.no-channel x y hx hy d;
        slots = λ x y hx hy. slots-frame t u (chan x y) cap c16 (other _ (omega arith) (omega arith)) (λ i l k. other i (omega arith) (omega arith)) (w.slots x y hx hy);
      }
    where
      u : List ℕ
      u = put (put t (phase_at p) f) (entry_at p p) e

      other : (j : ℕ) → j ≢ phase_at p → j ≢ entry_at p p → word u j ≡ word t j
      other j x y = off _ _ _ j y ∙ off _ _ _ j x

      on-phase : word u (phase_at p) ≡ f
      on-phase = off _ _ _ _ (omega arith) ∙ on _ _ _ (omega (arith, w.sized))

      on-own : word u (entry_at p p) ≡ e
      on-own = on _ _ _ (simp len (omega (arith, w.sized)))

      same : (x : ℕ) → x < n → x ≢ p → word u (phase_at x) ≡ word t (phase_at x)
      same x h d = other (phase_at x) (omega arith) (omega arith)

      same-own : (x : ℕ) → x < n → x ≢ p → word u (entry_at x x) ≡ word t (entry_at x x)
      same-own x h d = other (entry_at x x) (omega arith) (omega arith)

      proper-at : (x : ℕ) → x < n → Dec (x ≡ p) → word u (phase_at x) ≤ 2
      proper-at x h (yes d) = rw (d, on-phase) small
      proper-at x h (no d) = rw (same x h d) (w.proper x h)

      idle-at : (x : ℕ) → x < n → Dec (x ≡ p) → word u (phase_at x) ≡ 0 → word u (entry_at x x) ≡ 0
      idle-at x h (yes d) = rw (d, on-phase, on-own) idle
      idle-at x h (no d) = rw (same x h d, same-own x h d) (w.idle x h)

      busy-at : (x : ℕ) → x < n → Dec (x ≡ p) → word u (phase_at x) ≢ 0 → word u (entry_at x x) ≢ 0
      busy-at x h (yes d) = rw (d, on-phase, on-own) busy
      busy-at x h (no d) = rw (same x h d, same-own x h d) (w.busy x h)

      away : (x y : ℕ) → x < 8 → y < 8 → (n ≤ x) ⊎ (n ≤ y) → entry_at x y ≢ entry_at p p
      away x y hx hy (inl l) = omega arith
      away x y hx hy (inr l) = omega arith

  -- what p has of another bench q
  module _ (q : ℕ) (hq : q < n) (ne : p ≢ q) (v : ℕ) where
    pub entry-wf : Wf n cap (put t (entry_at p q) v)
    entry-wf =
        free-wf (entry_at p q) v
        (record {
          low = omega arith;
          phase = λ x h. omega arith;
          own = λ x h. omega arith;
          clock = λ x h l. omega arith;
          entry = away;
          heard = λ x y hx hy d. omega arith;
        })
      where
        away : (x y : ℕ) → x < 8 → y < 8 → (n ≤ x) ⊎ (n ≤ y) → entry_at x y ≢ entry_at p q
        away x y hx hy (inl l) = omega arith
        away x y hx hy (inr l) = omega arith

    pub heard-wf : Wf n cap (put t (heard_at p q) v)
    heard-wf =
        free-wf (heard_at p q) v
        (record {
          low = omega arith;
          phase = λ x h. omega arith;
          own = λ x h. omega arith;
          clock = λ x h l. omega arith;
          entry = λ x y hx hy d. omega arith;
          heard = away;
        })
      where
        away : (x y : ℕ) → x < 8 → y < 8 → Apart n x y → heard_at x y ≢ heard_at p q
        away x y hx hy (inl l) = omega arith
        away x y hx hy (inr (inl l)) = omega arith
        away x y hx hy (inr (inr e)) = omega arith
