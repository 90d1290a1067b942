-- What a change leaves as it was.
use Prim.Native.Nat.{ℕ, zero, suc, ◌<◌}
use native.Mathlib.Omega.{arith}
use mathlib.Core.Path.{◌≡◌, refl, ap, ◌∙◌}
use mathlib.Core.Bool.{Bool, true, false, cond}
use mathlib.Core.List.{List}
use lib.Dec.{eqb}
use lib.ListN.{get_or, set}
use lib.Seq.{get_or-set_other}
use Rattle.lamport.specs.declared.Message.{Message}
use Rattle.lamport.specs.Each.{up_to}
use Rattle.store.specs.Stores.{Room, pushed, sent_to, acted}
use Rattle.words.specs.Places.{first_count, first_kind, benches, count_at, chan, count, kind_at, stamp_at}

pub pushed-other : (t : List ℕ) (c : ℕ) (m : Message) (j : ℕ) → j < first_kind → (j ≡ count_at c → ⊥) → get_or (pushed t c m) j 0 ≡ get_or t j 0
unfolding pushed
pushed-other t c m j l n =
    let h : j ≡ stamp_at c (count t c) → ⊥ = omega arith in
    let k : j ≡ kind_at c (count t c) → ⊥ = omega arith in
    rw (get_or-set_other, get_or-set_other, get_or-set_other)

sent-get_or : (b : Bool) (t s : List ℕ) (j : ℕ) → get_or s j 0 ≡ get_or t j 0 → get_or (cond b t s) j 0 ≡ get_or t j 0
sent-get_or true t s j e = refl
sent-get_or false t s j e = e

pub sent_to-other : (p : ℕ) (m : Message) (q : ℕ) (t : List ℕ) (j : ℕ) → j < first_kind → (j ≡ count_at (chan p q) → ⊥) → get_or (sent_to p m q t) j 0 ≡ get_or t j 0
unfolding sent_to
sent_to-other p m q t j l n = sent-get_or (eqb q p) t _ j (pushed-other t (chan p q) m j l n)

pub sent-other : (p : ℕ) (m : Message) (i : ℕ) (t : List ℕ) (j : ℕ) → j < first_kind → ((k : ℕ) → k < i → j ≡ count_at (chan p k) → ⊥) → get_or (up_to (sent_to p m) i t) j 0 ≡ get_or t j 0
unfolding up_to
sent-other p m zero t j l n = refl
sent-other p m (suc i) t j l n =
    sent_to-other p m i _ j l (n i (omega arith))
    ∙ sent-other p m i t j l (λ k h. n k (omega arith))

-- while p sends to the benches below q, its channel to q is as it was
pub sent-count : (p : ℕ) (m : Message) (q : ℕ) (t s : List ℕ) → p < 8 → q < 8 → s ≡ up_to (sent_to p m) q t → count s (chan p q) ≡ count t (chan p q)
sent-count p m q t s hp hq e =
    ap (λ (l : List ℕ). count l (chan p q)) e
    ∙ sent-other p m q t (count_at (chan p q)) (omega arith) (λ k h. omega arith)

-- a word that is no count leaves the room
pub room-set : (t : List ℕ) (p j v : ℕ) → Room t p → 0 < j → j < first_count → Room (set t j v) p
room-set t p j v r pos low =
    let same : (i : ℕ) → (i ≡ j → ⊥) → get_or (set t j v) i 0 ≡ get_or t i 0 = λ i n. get_or-set_other t j i v 0 n in
    let n : benches (set t j v) ≡ benches t = same 0 (omega arith) in
    record {
      bench = r.bench;
      few = rw n r.few;
      room = λ q l other. rw (same (count_at (chan p q)) (omega arith)) (r.room q (rw n at l) other);
    }

pub room-acted : (t : List ℕ) (p f e : ℕ) → Room t p → Room (acted t p f e) p
unfolding acted
room-acted t p f e r =
    let h = r.bench in
    room-set _ p _ _ (room-set _ p _ _ (room-set t p _ _ r (omega arith) (omega arith)) (omega arith) (omega arith)) (omega arith) (omega arith)
