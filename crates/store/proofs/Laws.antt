-- Reading laws: what each store leaves at each place.
use mathlib.Core.Path.{◌≡◌, refl, ap, ◌∙◌}
use mathlib.Core.Logic.{◌≢◌, ◌⊎◌, inl, inr}
use mathlib.Core.List.{List, [], ◌∷◌, ◌++◌}
use Prim.Native.Nat.{ℕ, zero, suc, ◌+◌, ◌*◌, ◌-◌, ◌≤◌, ◌<◌}
use native.Mathlib.Omega.{arith}
use native.Mathlib.Numerals.{add-one}
use native.Mathlib.Decide.{ℕ_discrete, dec_lt}
use Rattle.lamport.specs.declared.Kind.{Kind}
use Rattle.lamport.specs.declared.Kind.TheVariants.{Request, Ack, Release}
use Rattle.lamport.specs.declared.Message.{Message}
use Rattle.lamport.specs.Each.{up_to}
use Rattle.lamport.specs.Steps.{rest}
use Rattle.lamport.specs.Codes.{code_of}
use Rattle.words.specs.Places.{channel_words, first_kind, size, count_at, kind_at, stamp_at, count, kind_of}
use Rattle.words.specs.View.{listed, slot, channel}
use Rattle.words.proofs.Shut.{word, put, size_of, on, off, len}
use Rattle.words.proofs.Listed.{listed_same, listed_cons}
use Rattle.store.specs.Stores.{pushed, moved, popped}

-- ---- channels

pub kind-code : (k : Kind) → kind_of (code_of k) ≡ k
kind-code Request = refl
kind-code Ack = refl
kind-code Release = refl

-- a channel is as it was where its count and its slots in use are
pub channel-frame : (t u : List ℕ) (c : ℕ) → word u (count_at c) ≡ word t (count_at c)
    → ((i : ℕ) → i < word t (count_at c) → (word u (kind_at c i) ≡ word t (kind_at c i)) × (word u (stamp_at c i) ≡ word t (stamp_at c i))) → channel u c ≡ channel t c
unfolding channel word
channel-frame t u c e h = rw e (listed_same (slot u c) (slot t c) (count t c) (λ i l. let k = h i l in rw (k.0, k.1)))

module _ (t : List ℕ) (c : ℕ) (m : Message) where
  pushed-as : pushed t c m ≡ put (put (put t (kind_at c (word t (count_at c))) (code_of m.kind)) (stamp_at c (word t (count_at c))) m.stamp) (count_at c) (word t (count_at c) + 1)
  unfolding pushed put word
  pushed-as = refl

  pub push_length : size_of (pushed t c m) ≡ size_of t
  push_length = rw pushed-as (simp len)

  pub push_off : (i : ℕ) → i ≢ count_at c → i ≢ kind_at c (word t (count_at c)) → i ≢ stamp_at c (word t (count_at c)) → word (pushed t c m) i ≡ word t i
  push_off i x y z = rw pushed-as (off _ _ _ i x ∙ off _ _ _ i z ∙ off _ _ _ i y)

  module _ (sz : size_of t ≡ size) (hc : c < 64) (room : word t (count_at c) < 16) where
    pub push_count : word (pushed t c m) (count_at c) ≡ word t (count_at c) + 1
    push_count = rw pushed-as (on _ _ _ (simp len (omega arith)))

    pub push_kind : word (pushed t c m) (kind_at c (word t (count_at c))) ≡ code_of m.kind
    push_kind = rw pushed-as (off _ _ _ _ (omega arith) ∙ off _ _ _ _ (omega arith) ∙ on _ _ _ (omega arith))

    pub push_stamp : word (pushed t c m) (stamp_at c (word t (count_at c))) ≡ m.stamp
    push_stamp = rw pushed-as (off _ _ _ _ (omega arith) ∙ on _ _ _ (simp len (omega arith)))

    pub push_here : channel (pushed t c m) c ≡ channel t c ++ m ∷ []
    unfolding channel listed word
    push_here =
        rw (push_count, add-one)
        (rw (listed_same (slot (pushed t c m) c) (slot t c) (count t c) (λ i l.
        rw (push_off (kind_at c i) (omega arith) (omega arith) (omega arith), push_off (stamp_at c i) (omega arith) (omega arith) (omega arith))))
        (ap (λ (x : Message). listed (slot t c) (count t c) ++ x ∷ []) last))
      where
        last : slot (pushed t c m) c (count t c) ≡ m
        last = rw (push_kind, push_stamp, kind-code)

    pub push_else : (d : ℕ) → d < 64 → d ≢ c → word t (count_at d) ≤ 16 → channel (pushed t c m) d ≡ channel t d
    push_else d hd ne few =
        channel-frame t (pushed t c m) d (push_off (count_at d) (omega arith) (omega arith) (omega arith))
        (λ i l. (push_off (kind_at d i) (omega arith) (omega arith) (omega arith), push_off (stamp_at d i) (omega arith) (omega arith) (omega arith)))

-- ---- the oldest message is taken off

module _ (c : ℕ) where
  moved_as : (i : ℕ) (t : List ℕ) → moved c i t ≡ put (put t (kind_at c i) (word t (kind_at c (i + 1)))) (stamp_at c i) (word t (stamp_at c (i + 1)))
  unfolding put word
  moved_as i t = refl

  up-length : (k : ℕ) (t : List ℕ) → size_of (up_to (moved c) k t) ≡ size_of t
  unfolding up_to
  up-length zero t = refl
  up-length (suc k) t = rw (moved_as k (up_to (moved c) k t)) (len _ _ _ ∙ len _ _ _ ∙ up-length k t)

  up-off : (k : ℕ) (t : List ℕ) (j : ℕ) → (j < first_kind + c * channel_words) ⊎ (first_kind + c * channel_words + k * 2 ≤ j) → word (up_to (moved c) k t) j ≡ word t j
  unfolding up_to
  up-off zero t j h = refl
  up-off (suc k) t j (inl h) = rw (moved_as k (up_to (moved c) k t)) (off _ _ _ j (omega arith) ∙ off _ _ _ j (omega arith) ∙ up-off k t j (inl h))
  up-off (suc k) t j (inr h) = rw (moved_as k (up_to (moved c) k t)) (off _ _ _ j (omega arith) ∙ off _ _ _ j (omega arith) ∙ up-off k t j (inr (omega arith)))

  module _ (hc : c < 64) where
    up-kind : (k : ℕ) (t : List ℕ) → size_of t ≡ size → k ≤ 15 → (i : ℕ) → i < k → word (up_to (moved c) k t) (kind_at c i) ≡ word t (kind_at c (i + 1))
    unfolding up_to
    up-kind zero t sz hk i h = absurd (omega arith)
    up-kind (suc k) t sz hk i h = rw (moved_as k (up_to (moved c) k t)) (go (ℕ_discrete i k) (λ l. up-kind k t sz (omega arith) i l))
      where
        u : List ℕ
        u = up_to (moved c) k t

        go : Dec (i ≡ k) → (i < k → word u (kind_at c i) ≡ word t (kind_at c (i + 1)))
            → word (put (put u (kind_at c k) (word u (kind_at c (k + 1)))) (stamp_at c k) (word u (stamp_at c (k + 1)))) (kind_at c i) ≡ word t (kind_at c (i + 1))
        go (yes e) r = rw e (off _ _ _ _ (omega arith) ∙ on _ _ _ (omega (arith, up-length k t)) ∙ up-off k t _ (inr (omega arith)))
        go (no ne) r = off _ _ _ _ (omega arith) ∙ off _ _ _ _ (omega arith) ∙ r (omega arith)

    up-stamp : (k : ℕ) (t : List ℕ) → size_of t ≡ size → k ≤ 15 → (i : ℕ) → i < k → word (up_to (moved c) k t) (stamp_at c i) ≡ word t (stamp_at c (i + 1))
    unfolding up_to
    up-stamp zero t sz hk i h = absurd (omega arith)
    up-stamp (suc k) t sz hk i h = rw (moved_as k (up_to (moved c) k t)) (go (ℕ_discrete i k) (λ l. up-stamp k t sz (omega arith) i l))
      where
        u : List ℕ
        u = up_to (moved c) k t

        go : Dec (i ≡ k) → (i < k → word u (stamp_at c i) ≡ word t (stamp_at c (i + 1)))
            → word (put (put u (kind_at c k) (word u (kind_at c (k + 1)))) (stamp_at c k) (word u (stamp_at c (k + 1)))) (stamp_at c i) ≡ word t (stamp_at c (i + 1))
        go (yes e) r = rw e (on _ _ _ (simp len (omega (arith, up-length k t))) ∙ up-off k t _ (inr (omega arith)))
        go (no ne) r = off _ _ _ _ (omega arith) ∙ off _ _ _ _ (omega arith) ∙ r (omega arith)

module _ (t : List ℕ) (c : ℕ) where
  popped-as : popped t c ≡ put (put (put (up_to (moved c) 15 t) (kind_at c 15) 0) (stamp_at c 15) 0) (count_at c) (word t (count_at c) - 1)
  unfolding popped put word
  popped-as = refl

  pub pop_length : size_of (popped t c) ≡ size_of t
  pop_length = rw popped-as (len _ _ _ ∙ len _ _ _ ∙ len _ _ _ ∙ up-length c 15 t)

  pub pop_off : (j : ℕ) → j ≢ count_at c → (j < first_kind + c * channel_words) ⊎ (first_kind + c * channel_words + channel_words ≤ j) → word (popped t c) j ≡ word t j
  pop_off j ne (inl h) = rw popped-as (off _ _ _ j ne ∙ off _ _ _ j (omega arith) ∙ off _ _ _ j (omega arith) ∙ up-off c 15 t j (inl h))
  pop_off j ne (inr h) = rw popped-as (off _ _ _ j ne ∙ off _ _ _ j (omega arith) ∙ off _ _ _ j (omega arith) ∙ up-off c 15 t j (inr (omega arith)))

  module _ (sz : size_of t ≡ size) (hc : c < 64) where
    pub pop_count : word (popped t c) (count_at c) ≡ word t (count_at c) - 1
    pop_count = rw popped-as (on _ _ _ (simp len (omega (arith, up-length c 15 t))))

    pub pop_kind : (i : ℕ) → i < 15 → word (popped t c) (kind_at c i) ≡ word t (kind_at c (i + 1))
    pop_kind i h = rw popped-as (off _ _ _ _ (omega arith) ∙ off _ _ _ _ (omega arith) ∙ off _ _ _ _ (omega arith) ∙ up-kind c hc 15 t sz (omega arith) i h)

    pub pop_stamp : (i : ℕ) → i < 15 → word (popped t c) (stamp_at c i) ≡ word t (stamp_at c (i + 1))
    pop_stamp i h = rw popped-as (off _ _ _ _ (omega arith) ∙ off _ _ _ _ (omega arith) ∙ off _ _ _ _ (omega arith) ∙ up-stamp c hc 15 t sz (omega arith) i h)

    pub pop_last_kind : word (popped t c) (kind_at c 15) ≡ 0
    pop_last_kind = rw popped-as (off _ _ _ _ (omega arith) ∙ off _ _ _ _ (omega arith) ∙ on _ _ _ (omega (arith, up-length c 15 t)))

    pub pop_last_stamp : word (popped t c) (stamp_at c 15) ≡ 0
    pop_last_stamp = rw popped-as (off _ _ _ _ (omega arith) ∙ on _ _ _ (simp len (omega (arith, up-length c 15 t))))

    pub pop_here : 0 < word t (count_at c) → word t (count_at c) ≤ 16 → channel (popped t c) c ≡ rest (channel t c)
    unfolding channel word
    pop_here some few = go (count t c) refl
      where
        go : (k : ℕ) → count t c ≡ k → listed (slot (popped t c) c) (count (popped t c) c) ≡ rest (listed (slot t c) (count t c))
        go zero e = absurd (omega arith)
        go (suc k) e =
            let less : count (popped t c) c ≡ k = pop_count ∙ omega arith in
            rw (less, e, listed_cons (slot t c) k)
            (listed_same (slot (popped t c) c) (λ i. slot t c (suc i)) k (λ i l.
            rw (pop_kind i (omega arith), pop_stamp i (omega arith), add-one i)))

    pub pop_else : (d : ℕ) → d < 64 → d ≢ c → word t (count_at d) ≤ 16 → channel (popped t c) d ≡ channel t d
    pop_else d hd ne few = go (dec_lt d c)
      where
        go : Dec (d < c) → channel (popped t c) d ≡ channel t d
        go (yes l) = channel-frame t (popped t c) d (pop_off (count_at d) (omega arith) (inl (omega arith))) (λ i h. (pop_off (kind_at d i) (omega arith) (inl (omega arith)), pop_off (stamp_at d i) (omega arith) (inl (omega arith))))
        go (no nl) = channel-frame t (popped t c) d (pop_off (count_at d) (omega arith) (inl (omega arith))) (λ i h. (pop_off (kind_at d i) (omega arith) (inr (omega arith)), pop_off (stamp_at d i) (omega arith) (inr (omega arith))))
