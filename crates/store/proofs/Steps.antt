-- Each step's stores are the rules' change of the view, and keep the words well formed.
use mathlib.Core.Path.{◌≡◌, refl, sym, ap, ◌∙◌, fun_ext}
use mathlib.Core.Logic.{◌≢◌, inl}
use mathlib.Core.Bool.{false, cond, not, ◌&&◌}
use mathlib.Core.List.{List, [], ◌∷◌, ◌++◌}
use Prim.Native.Nat.{ℕ, zero, suc, ◌+◌, ◌≤◌, ◌<◌, max}
use native.Mathlib.Omega.{arith}
use native.Mathlib.Decide.{ℕ_discrete, dec_lt}
use borrow.Author.Tests.{lt-ltb, le-ltb, eq-eqb, ne_eqb}
use lib.Dec.{ltb, eqb}
use Rattle.lamport.specs.declared.Kind.{Kind}
use Rattle.lamport.specs.declared.Kind.TheVariants.{Request, Ack, Release}
use Rattle.lamport.specs.declared.Message.{Message}
use Rattle.lamport.specs.Each.{up_to}
use Rattle.lamport.specs.Order.{clock_after, entry_after}
use Rattle.lamport.specs.Table.{Table}
use Rattle.lamport.specs.Steps.{at2, sends, rest, acts, takes, replies}
use Rattle.lamport.proofs.Each.{and_false}
use Rattle.lamport.proofs.Readings.{cond_same, at1-same, at2-else, at2-same}
use Rattle.words.specs.Places.{benches, capacity, clock_at, phase_at, entry_at, heard_at, chan, count_at, clock, entry}
use Rattle.words.specs.View.{view}
use Rattle.words.proofs.Shut.{word, put, off, len}
use Rattle.words.proofs.Formed.{Wf}
use Rattle.words.proofs.Reading.{view-clock, view-entry, view-heard}
use Rattle.store.specs.Stores.{pushed, sent_to, sent, popped, acted, entered, marked, received, replied, carried}
use Rattle.store.proofs.Laws.{pop_off, pop_length, push_off}
use Rattle.store.proofs.Bridge.{ext2, fields, with_clock, with_phase, with_entry, with_heard, with_messages, put-clock, put-phase, put-entry, put-heard, view-pushed, view-popped}
use Rattle.store.proofs.Keeps.{push_wf, pop_wf, clock-wf, own-wf, entry-wf, heard-wf}

-- ---- sends, bench by bench

ltb-step : (b i : ℕ) → b ≢ i → ltb b (suc i) ≡ ltb b i
ltb-step b i ne = go (dec_lt b i)
  where
    go : Dec (b < i) → ltb b (suc i) ≡ ltb b i
    go (yes l) = let k : b < suc i = omega arith in rw (lt-ltb b i l, lt-ltb b (suc i) k)
    go (no nl) = let l : i ≤ b = omega arith in let k : suc i ≤ b = omega arith in rw (le-ltb b i l, le-ltb b (suc i) k)

append-nil : (xs : List Message) → xs ++ [] ≡ xs
append-nil [] = refl
append-nil (x ∷ xs) = ap (λ (r : List Message). x ∷ r) (append-nil xs)

module _ (f : ℕ → ℕ → List Message) (p : ℕ) where
  -- sending nothing changes nothing
  sends-nil : (n a b : ℕ) → sends n f p [] a b ≡ f a b
  sends-nil n a b = rw (append-nil (f a b)) (cond_same (eqb a p && (not (eqb b p) && ltb b n)) (f a b))

  module _ (out : List Message) where
    sends_none : (a b : ℕ) → sends 0 f p out a b ≡ f a b
    sends_none a b = let z : 0 ≤ b = omega arith in rw (le-ltb b 0 z, and_false (not (eqb b p)) false refl, and_false (eqb a p) false refl)

    sends-self : (i : ℕ) → i ≡ p → (a b : ℕ) → sends (suc i) f p out a b ≡ sends i f p out a b
    sends-self i e a b = go (ℕ_discrete b i)
      where
        go : Dec (b ≡ i) → sends (suc i) f p out a b ≡ sends i f p out a b
        go (yes d) = rw (eq-eqb b p (d ∙ e))
        go (no ne) = rw (ltb-step b i ne)

    sends_more : (i : ℕ) → i ≢ p → (a b : ℕ) → at2 (sends i f p out) p i (sends i f p out p i ++ out) a b ≡ sends (suc i) f p out a b
    sends_more i ne a b = go (ℕ_discrete a p) (ℕ_discrete b i)
      where
        go : Dec (a ≡ p) → Dec (b ≡ i) → at2 (sends i f p out) p i (sends i f p out p i ++ out) a b ≡ sends (suc i) f p out a b
        go (yes x) (yes y) =
            let z : i ≤ i = omega arith in
            let k : i < suc i = omega arith in
            rw (x, y, eq-eqb p p refl, eq-eqb i i refl, ne_eqb i p ne, le-ltb i i z, lt-ltb i (suc i) k)
        go (yes x) (no y) = at2-else (sends i f p out) p i _ a b (λ o. y o.1) ∙ rw (ltb-step b i y)
        go (no x) y = at2-else (sends i f p out) p i _ a b (λ o. x o.0) ∙ rw (ne_eqb a p x)

-- ---- one message to every other bench

module _ (n cap : ℕ) (n8 : n ≤ 8) (c16 : cap ≤ 16) (p : ℕ) (hp : p < n) (m : Message) (pos : 1 ≤ m.stamp) (t : List ℕ) (w : Wf n cap t)
    (room : (q : ℕ) → q < n → q ≢ p → word t (count_at (chan p q)) < cap) where
  -- after the benches below i
  pub record Sent (i : ℕ) (u : List ℕ) : Type 0 where
    pub formed : Wf n cap u
    pub counts : (q : ℕ) → i ≤ q → q < n → word u (count_at (chan p q)) ≡ word t (count_at (chan p q))
    pub viewed : view u ≡ with_messages (view t) (sends i (view t).messages p (m ∷ []))

  none : Sent 0 t
  none =
      record {
        formed = w;
        counts = λ q l h. refl;
        viewed = ap (with_messages (view t)) (ext2 (λ a b. sym (sends_none (view t).messages p (m ∷ []) a b)));
      }

  more : (i : ℕ) → i < n → (u : List ℕ) → Sent i u → Sent (suc i) (sent_to p m i u)
  unfolding sent_to
  more i h u r = go (ℕ_discrete i p)
    where
      go : Dec (i ≡ p) → Sent (suc i) (cond (eqb i p) u (pushed u (chan p i) m))
      go (yes e) =
          rw (eq-eqb i p e)
          record {
            formed = r.formed;
            counts = λ q l k. r.counts q (omega arith) k;
            viewed = r.viewed ∙ ap (with_messages (view t)) (ext2 (λ a b. sym (sends-self (view t).messages p (m ∷ []) i e a b)));
          }
      go (no ne) =
          rw (ne_eqb i p ne)
          record {
            formed = push_wf n cap n8 c16 u r.formed p i hp h (λ e. ne (sym e)) m pos space;
            counts = λ q l k. push_off u (chan p i) m (count_at (chan p q)) (omega arith) (omega arith) (omega arith) ∙ r.counts q (omega arith) k;
            viewed =
                view-pushed u r.formed.sized (λ a b ha hb. omega (arith, (r.formed.slots a b ha hb).few)) p i (omega arith) (omega arith) m (omega (arith, space))
                ∙ rw r.viewed (ap (with_messages (view t)) (ext2 (λ a b. sends_more (view t).messages p (m ∷ []) i ne a b)));
          }
        where
          space : word u (count_at (chan p i)) < cap
          space = omega (arith, r.counts i (omega arith) h, room i h ne)

  pub sent-up : (i : ℕ) → i ≤ n → Sent i (up_to (sent_to p m) i t)
  unfolding up_to
  sent-up zero h = none
  sent-up (suc i) h = more i (omega arith) (up_to (sent_to p m) i t) (sent-up i (omega arith))

  pub sent-all : benches t ≡ n → Sent n (sent t p m)
  unfolding sent
  sent-all e = rw e (sent-up n (omega arith))

-- ---- the five steps

module _ (t : List ℕ) (n8 : benches t ≤ 8) (c16 : capacity t ≤ 16) (w : Wf (benches t) (capacity t) t) where
  acted-as : (p f e : ℕ) → acted t p f e ≡ put (put (put t (clock_at p) (word t (clock_at p) + 1)) (phase_at p) f) (entry_at p p) e
  unfolding acted put word
  acted-as p f e = refl

  module _ (p : ℕ) (hp : p < benches t) where
    view-acted : (f e : ℕ) → view (acted t p f e) ≡ with_entry (with_phase (with_clock (view t) p ((view t).clock p + 1)) p f) p p e
    view-acted f e =
        let hp8 : p < 8 = omega arith in
        let cl : word t (clock_at p) ≡ (view t).clock p = unfold word in sym (view-clock t p hp8) in
        rw (
          acted-as p f e,
          put-entry (put (put t (clock_at p) (word t (clock_at p) + 1)) (phase_at p) f) (len _ _ _ ∙ len _ _ _ ∙ w.sized) p p e hp8 hp8,
          put-phase (put t (clock_at p) (word t (clock_at p) + 1)) (len _ _ _ ∙ w.sized) p f hp8,
          put-clock t w.sized p (word t (clock_at p) + 1) hp8,
          cl,
        )

    acted-wf : (f e : ℕ) → f ≤ 2 → (f ≡ 0 → e ≡ 0) → (f ≢ 0 → e ≢ 0) → Wf (benches t) (capacity t) (acted t p f e)
    acted-wf f e small idle busy = rw (acted-as p f e) (own-wf (benches t) (capacity t) n8 c16 (put t (clock_at p) (word t (clock_at p) + 1)) (clock-wf (benches t) (capacity t) n8 c16 t w p hp _) p hp f e small idle busy)

    acted-off : (f e j : ℕ) → j ≢ clock_at p → j ≢ phase_at p → j ≢ entry_at p p → word (acted t p f e) j ≡ word t j
    acted-off f e j x y z = rw (acted-as p f e) (off _ _ _ j z ∙ off _ _ _ j y ∙ off _ _ _ j x)

    -- a step that sends
    module _ (f e : ℕ) (small : f ≤ 2) (idle : f ≡ 0 → e ≡ 0) (busy : f ≢ 0 → e ≢ 0) (m : Message) (pos : 1 ≤ m.stamp)
        (room : (q : ℕ) → q < benches t → q ≢ p → word t (count_at (chan p q)) < capacity t) where
      out : Sent (benches t) (capacity t) n8 c16 p hp m pos (acted t p f e) (acted-wf f e small idle busy)
          (λ q h ne. rw (acted-off f e (count_at (chan p q)) (omega arith) (omega arith) (omega arith)) (room q h ne)) (benches t) (sent (acted t p f e) p m)
      out = sent-all (benches t) (capacity t) n8 c16 p hp m pos (acted t p f e) (acted-wf f e small idle busy) _ (unfold word in acted-off f e 0 (omega arith) (omega arith) (omega arith))

      pub told_wf : Wf (benches t) (capacity t) (sent (acted t p f e) p m)
      told_wf = out.formed

      pub told_view : view (sent (acted t p f e) p m) ≡ acts (view t) p f e (m ∷ [])
      unfolding acts
      told_view = out.viewed ∙ rw (view-acted f e) (unfold view in refl)

    -- a step that sends nothing
    pub entered-wf : word t (phase_at p) ≡ 1 → Wf (benches t) (capacity t) (entered t p)
    unfolding word
    entered-wf e = acted-wf 2 (entry t p p) (omega arith) (λ z. omega arith) (λ z. w.busy p hp (omega arith))

    pub entered-view : view (entered t p) ≡ acts (view t) p 2 ((view t).entry p p) []
    unfolding acts
    entered-view =
        let hp8 : p < 8 = omega arith in
        rw (view-acted 2 (entry t p p), ← view-entry t p p hp8 hp8)
        (fields refl refl refl refl refl refl (ext2 (λ a b. sym (sends-nil (view t).messages p (view t).benches a b))))

    pub marked-wf : Wf (benches t) (capacity t) (marked t p)
    unfolding put
    marked-wf = clock-wf (benches t) (capacity t) n8 c16 t w p hp (clock t p + 1)

    pub marked-view : view (marked t p) ≡ acts (view t) p ((view t).phase p) ((view t).entry p p) []
    unfolding acts put
    marked-view =
        let hp8 : p < 8 = omega arith in
        put-clock t w.sized p (clock t p + 1) hp8
        ∙ rw (← view-clock t p hp8)
        (fields refl refl refl (fun_ext (λ a. sym (at1-same (view t).phase p a))) (ext2 (λ a b. sym (at2-same (view t).entry p p a b))) refl
        (ext2 (λ a b. sym (sends-nil (view t).messages p (view t).benches a b))))

  -- q takes the oldest message from p
  module _ (p q : ℕ) (hp : p < benches t) (hq : q < benches t) (ne : p ≢ q) (some : 0 < word t (count_at (chan p q))) where
    M : ℕ → ℕ → List Message
    M = (view t).messages

    M' : ℕ → ℕ → List Message
    M' = at2 M p q (rest (M p q))

    back : M' q p ≡ M q p
    unfolding M'
    back = at2-else M p q (rest (M p q)) q p (λ o. ne o.1)

    -- nothing joins q's channel to p
    quiet : (a b : ℕ) → M' a b ≡ at2 M' q p (M q p ++ []) a b
    quiet a b = rw (append-nil (M q p), ← back) (sym (at2-same M' q p a b))

    counts : (u : List ℕ) → Wf (benches t) (capacity t) u → (a b : ℕ) → a < 8 → b < 8 → word u (count_at (chan a b)) ≤ 16
    counts u v a b ha hb = omega (arith, (v.slots a b ha hb).few)

    module _ (m : Message) (c : ℕ) where
      -- what q then has of p
      heard' : ℕ
      heard' = max (word t (heard_at q p)) m.stamp

      entry' : ℕ
      entry' = entry_after m.kind m.stamp (word t (entry_at q p))

      -- the three stores of a receipt, one by one
      ticked : List ℕ
      ticked = put (popped t (chan p q)) (clock_at q) c

      hears : List ℕ
      hears = put ticked (heard_at q p) heard'

      received_as : received t p q m c ≡ put hears (entry_at q p) entry'
      unfolding received put word heard' entry' hears ticked
      received_as = refl

      ticked-wf : Wf (benches t) (capacity t) ticked
      unfolding ticked
      ticked-wf = clock-wf (benches t) (capacity t) n8 c16 (popped t (chan p q)) (pop_wf (benches t) (capacity t) n8 c16 t w p q hp hq ne some) q hq c

      hears-wf : Wf (benches t) (capacity t) hears
      unfolding hears
      hears-wf = heard-wf (benches t) (capacity t) n8 c16 ticked ticked-wf q hq p hp (λ e. ne (sym e)) heard'

      received-wf : Wf (benches t) (capacity t) (received t p q m c)
      received-wf = rw received_as (entry-wf (benches t) (capacity t) n8 c16 hears hears-wf q hq p hp (λ e. ne (sym e)) entry')

      received-view : view (received t p q m c) ≡
          with_entry (with_heard (with_clock (with_messages (view t) M') q c) q p (max ((view t).heard q p) m.stamp)) q p (entry_after m.kind m.stamp ((view t).entry q p))
      unfolding M M' heard' entry' hears ticked
      received-view =
          let hp8 : p < 8 = omega arith in
          let hq8 : q < 8 = omega arith in
          let hd : word t (heard_at q p) ≡ (view t).heard q p = unfold word in sym (view-heard t q p hq8 hp8) in
          let en : word t (entry_at q p) ≡ (view t).entry q p = unfold word in sym (view-entry t q p hq8 hp8) in
          rw (
            received_as,
            put-entry hears hears-wf.sized q p entry' hq8 hp8,
            put-heard ticked ticked-wf.sized q p heard' hq8 hp8,
            put-clock (popped t (chan p q)) (pop_length t (chan p q) ∙ w.sized) q c hq8,
            view-popped t w.sized (counts t w) p q hp8 hq8 some,
            hd,
            en,
          )

      received-count : word (received t p q m c) (count_at (chan q p)) ≡ word t (count_at (chan q p))
      unfolding hears ticked
      received-count =
          rw received_as
          (off _ _ _ _ (omega arith) ∙ off _ _ _ _ (omega arith) ∙ off _ _ _ _ (omega arith) ∙ pop_off t (chan p q) (count_at (chan q p)) (omega arith) (inl (omega arith)))

      replied-wf : 1 ≤ c → (k : Kind) → (k ≡ Request → word t (count_at (chan q p)) < capacity t) → Wf (benches t) (capacity t) (replied (received t p q m c) p q c k)
      unfolding replied
      replied-wf pos Request room =
          push_wf (benches t) (capacity t) n8 c16 (received t p q m c) received-wf q p hq hp (λ e. ne (sym e)) (record { kind = Ack; stamp = c }) pos
          (omega (arith, received-count, room refl))
      replied-wf pos Ack room = received-wf
      replied-wf pos Release room = received-wf

      -- the receipt, and the messages m' on the channels afterwards
      taken : (ℕ → ℕ → List Message) → Table
      taken m' =
          with_messages (with_entry (with_heard (with_clock (view t) q c) q p (max ((view t).heard q p) m.stamp)) q p (entry_after m.kind m.stamp ((view t).entry q p))) m'

      replied-view : (k : Kind) → (k ≡ Request → word t (count_at (chan q p)) < capacity t) → view (replied (received t p q m c) p q c k) ≡ taken (at2 M' q p (M q p ++ replies k c))
      unfolding replied M M' taken
      replied-view Request room =
          view-pushed (received t p q m c) received-wf.sized (counts (received t p q m c) received-wf) q p (omega arith) (omega arith) (record { kind = Ack; stamp = c })
          (omega (arith, received-count, room refl))
          ∙ rw received-view (fields refl refl refl refl refl refl (rw back))
      replied-view Ack room = received-view ∙ fields refl refl refl refl refl refl (ext2 quiet)
      replied-view Release room = received-view ∙ fields refl refl refl refl refl refl (ext2 quiet)

    pub carried-wf : (m : Message) → (m.kind ≡ Request → word t (count_at (chan q p)) < capacity t) → Wf (benches t) (capacity t) (carried t p q m)
    unfolding carried
    carried-wf m room = replied-wf m (clock_after (clock t q) m) (positive m.kind) m.kind room
      where
        positive : (k : Kind) → 1 ≤ clock_after (clock t q) (record { kind = k; stamp = m.stamp })
        positive Request = omega arith
        positive Ack = omega arith
        positive Release = omega arith

    pub carried-view : (m : Message) → (m.kind ≡ Request → word t (count_at (chan q p)) < capacity t) → view (carried t p q m) ≡ takes (view t) p q m (rest ((view t).messages p q))
    unfolding carried takes taken M M'
    carried-view m room =
        let hq8 : q < 8 = omega arith in
        replied-view m (clock_after (clock t q) m) m.kind room ∙ rw (view-clock t q hq8)
