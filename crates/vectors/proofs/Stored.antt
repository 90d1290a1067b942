-- What a step stores in the rows is the rules' change of the counts, and keeps the rows well formed.
use Prim.Native.Nat.{ℕ, suc, ◌/◌, ◌%◌, ◌<◌, ◌≤◌}
use native.Mathlib.Omega.{arith}
use native.Mathlib.Decide.{ℕ_discrete, dec_lt}
use mathlib.Core.Path.{◌≡◌, refl, sym, ap, ◌∙◌, fun_ext}
use mathlib.Core.Logic.{◌≢◌}
use mathlib.Core.Bool.{true, false, cond, not, ◌&&◌}
use mathlib.Core.List.{List, [], ◌∷◌, ◌++◌}
use lib.Dec.{ltb, eqb}
use lib.ListN.{length}
use borrow.Author.Tests.{lt-ltb, le-ltb, eq-eqb, ne_eqb}
use Rattle.lamport.specs.Steps.{sends}
use Rattle.lamport.specs.Vectors.{vc1, counts_in}
use Rattle.lamport.proofs.Each.{and_false}
use Rattle.words.specs.Places.{chan, benches, count}
use Rattle.words.specs.View.{listed}
use Rattle.vectors.specs.Rows.{row, slot_row, slot_counts, row_of, counts, brought}
use Rattle.vectors.specs.Formed.{own_ok, slot_ok}
use Rattle.vectors.specs.Stores.{ticked, sent_counts}
use Rattle.vectors.proofs.Row.{counts_at, counts-out}
use Rattle.vectors.proofs.Laws.{ticked-length, ticked-here, ticked-else}
use Rattle.vectors.proofs.Sending.{joined, sent-length, sent-else, sent-here}
use Rattle.vectors.proofs.Channels.{SameSlot, list-same, list-joined, brought-at, nothing-left, nothing-right, brought-is}
use Rattle.vectors.proofs.Zero.{ZeroFrom, zero-in, reads-row, zero-row, all-zero, vc1-zero, Good, own-row, still, in-use, unused, unused-row, used-slot}

-- counts are what is read in the rows; the row of one bench has new counts
pub counts-changed : (r r' : List (List ℕ)) (p : ℕ) (f : ℕ → ℕ) → counts_in (row r' p) ≡ f → p < 8 → ((a : ℕ) → a < 8 → a ≢ p → row r' a ≡ row r a) → counts r' ≡ (λ a. cond (eqb a p) f (counts r a))
unfolding counts
counts-changed r r' p f e hp h = fun_ext (λ a. fun_ext (λ b. go a b (dec_lt a 8) (ℕ_discrete a p)))
  where
    go : (a b : ℕ) → Dec (a < 8) → Dec (a ≡ p) → counts r' a b ≡ cond (eqb a p) f (counts r a) b
    go a b (yes l) (yes d) = rw (d, lt-ltb p 8 hp, eq-eqb p p refl) (ap (λ v. v b) e)
    go a b (yes l) (no nd) = rw (lt-ltb a 8 l, ne_eqb a p nd, h a l nd) (sym (counts_at r a b l))
    go a b (no nl) d = let ne : a ≢ p = omega arith in let l : 8 ≤ a = omega arith in rw (le-ltb a 8 l, ne_eqb a p ne) (sym (counts-out r a b l))

-- the words t' after a step on the words t, by the channels' counts; the rows r before it
module _ (t t' : List ℕ) (r : List (List ℕ)) (g : Good t r) (n8 : benches t ≤ 8) (sb : benches t' ≡ benches t) (few : (c : ℕ) → c < 64 → count t c ≤ 16) (p : ℕ) (hp : p < benches t) where
  p8 : p < 8
  p8 = omega (arith, hp, n8)

  -- p's counts, as they are read
  pub read-counts : counts_in (row r p) ≡ counts r p
  read-counts = fun_ext (λ a. sym (counts_at r p a p8))

  own-zero : (a : ℕ) → benches t ≤ a → counts r p a ≡ 0
  own-zero a l = rw (← read-counts) (all-zero (benches t) (row r p) (own-row t r g p p8 hp) a l)

  raised : ℕ → ℕ
  raised = vc1 p (counts r p)

  raised-zero : (a : ℕ) → benches t ≤ a → raised a ≡ 0
  unfolding raised
  raised-zero a l = vc1-zero (benches t) p (counts r p) hp own-zero a l

  x : List (List ℕ)
  x = ticked r p

  x-row : row x p ≡ row_of raised
  unfolding x raised
  x-row = ticked-here r p (omega (arith, g.long, p8)) ∙ ap (λ v. row_of (vc1 p v)) read-counts

  x-reads : counts_in (row x p) ≡ raised
  x-reads = ap counts_in x-row ∙ reads-row raised (λ a l. raised-zero a (omega (arith, l, n8)))

  x-else : (j : ℕ) → j ≢ p → row x j ≡ row r j
  unfolding x
  x-else j ne = ticked-else r p j ne

  -- the benches' rows are well formed, when only p's is new
  pub own-kept : (r' : List (List ℕ)) → ZeroFrom (benches t) (row r' p) → ((a : ℕ) → a < 8 → a ≢ p → row r' a ≡ row r a) → (a : ℕ) → a < 8 → own_ok t' r' a ≡ true
  own-kept r' z h a l = go (ℕ_discrete a p)
    where
      go : Dec (a ≡ p) → own_ok t' r' a ≡ true
      go (yes d) = rw (d, sb, lt-ltb p (benches t) hp) (zero-in (benches t) (row r' p) z)
      go (no nd) = rw (sb, h a l nd) (g.own a l)

  -- ---- an event that sends nothing

  module _ (same : (c : ℕ) → c < 64 → count t' c ≡ count t c) where
    pub alone-counts : counts (ticked r p) ≡ (λ a. cond (eqb a p) (vc1 p (counts r p)) (counts r a))
    unfolding x raised
    alone-counts = counts-changed r x p raised x-reads p8 (λ a l ne. x-else a ne)

    pub alone-brought : brought t' (ticked r p) ≡ brought t r
    unfolding x
    alone-brought =
        brought-is t' x (brought t r)
        (λ a b ha hb. rw (same (chan a b) (omega arith)) (list-same r x (chan a b) (count t (chan a b)) (λ i l. x-else (slot_row (chan a b) i) (omega (arith, p8))) ∙ sym (brought-at t r a b ha hb)))
        (nothing-left t r) (nothing-right t r)

    pub alone-good : Good t' (ticked r p)
    unfolding x
    alone-good =
        record {
          long = ticked-length r p ∙ g.long;
          own = own-kept x (rw x-row (zero-row (benches t) raised raised-zero)) (λ a l ne. x-else a ne);
          slots =
              λ c i h l.
              rw sb
              (still (benches t) (count t c) (count t' c) i (row r (slot_row c i)) (row x (slot_row c i)) (same c h) (x-else (slot_row c i) (omega (arith, p8))) (g.slots c i h l));
        }

  -- ---- an event that sends a message to every other bench

  -- a message goes from a to b
  abbrev Goes : ℕ → ℕ → Type 0
  Goes a b = (a ≡ p) × ((b ≢ p) × (b < benches t))

  module _ (room : (q : ℕ) → q < benches t → q ≢ p → count t (chan p q) < 16)
      (more : (q : ℕ) → q < benches t → q ≢ p → count t' (chan p q) ≡ suc (count t (chan p q)))
      (same : (a b : ℕ) → a < 8 → b < 8 → (Goes a b → ⊥) → count t' (chan a b) ≡ count t (chan a b)) where
    y : List (List ℕ)
    y = sent_counts t r p

    y-long : length y ≡ 1032
    unfolding y sent_counts
    y-long = sent-length t p (ticked r p) (benches t) ∙ ticked-length r p ∙ g.long

    y-joined : (q : ℕ) → q < benches t → q ≢ p → row y (slot_row (chan p q) (count t (chan p q))) ≡ row x p
    unfolding y sent_counts x
    y-joined q l ne = sent-here t p (ticked r p) (benches t) p8 n8 room (ticked-length r p ∙ g.long) (benches t) q (omega arith) l ne

    y-own : (a : ℕ) → a < 8 → row y a ≡ row x a
    unfolding y sent_counts x
    y-own a l = sent-else t p (ticked r p) (benches t) a (λ q k ne. omega (arith, l))

    -- a slot that no message joins
    y-slot : (a b i : ℕ) → a < 8 → b < 8 → i < 16 → (a ≡ p → b ≢ p → b < benches t → i ≢ count t (chan a b)) → SameSlot r y (chan a b) i
    unfolding y sent_counts x
    y-slot a b i ha hb hi free =
        sent-else t p (ticked r p) (benches t) (slot_row (chan a b) i) other ∙ x-else (slot_row (chan a b) i) (omega (arith, p8))
      where
        other : (q : ℕ) → q < benches t → q ≢ p → slot_row (chan a b) i ≢ joined t p q
        other q k ne e = let f = room q k ne in let d : a ≡ p = omega (arith, f, p8) in let o : b ≡ q = omega (arith, f, p8) in
            free d (λ z. ne (sym o ∙ z)) (omega (arith, k)) (let s : count t (chan a b) ≡ count t (chan p q) = rw (d, o) in omega (arith, f, s))

    pub sent-counted : counts (sent_counts t r p) ≡ (λ a. cond (eqb a p) (vc1 p (counts r p)) (counts r a))
    unfolding y raised
    sent-counted = counts-changed r y p raised (ap counts_in (y-own p p8) ∙ x-reads) p8 (λ a l ne. y-own a l ∙ x-else a ne)

    pub sent-brought : brought t' (sent_counts t r p) ≡ sends (benches t) (brought t r) p (vc1 p (counts r p) ∷ [])
    unfolding y raised
    sent-brought = brought-is t' y (sends (benches t) (brought t r) p (raised ∷ [])) (λ a b ha hb. go a b ha hb (ℕ_discrete a p) (ℕ_discrete b p) (dec_lt b (benches t))) left right
      where
        stays : (a b : ℕ) → a < 8 → b < 8 → (Goes a b → ⊥) → (eqb a p && (not (eqb b p) && ltb b (benches t))) ≡ false
            → listed (slot_counts y (chan a b)) (count t' (chan a b)) ≡ sends (benches t) (brought t r) p (raised ∷ []) a b
        stays a b ha hb no-message f =
            rw (f, same a b ha hb no-message)
            (list-same r y (chan a b) (count t (chan a b)) (λ i l. y-slot a b i ha hb (omega (arith, l, few (chan a b) (omega arith))) (λ d ne k. absurd (no-message (d, (ne, k)))))
            ∙ sym (brought-at t r a b ha hb))

        go : (a b : ℕ) → a < 8 → b < 8 → Dec (a ≡ p) → Dec (b ≡ p) → Dec (b < benches t) → listed (slot_counts y (chan a b)) (count t' (chan a b)) ≡ sends (benches t) (brought t r) p (raised ∷ []) a b
        go a b ha hb (no nd) e l = stays a b ha hb (λ z. nd z.0) (rw (ne_eqb a p nd) refl)
        go a b ha hb (yes d) (yes e) l = stays a b ha hb (λ z. z.1.0 e) (rw (eq-eqb b p e, and_false (eqb a p) false refl) refl)
        go a b ha hb (yes d) (no ne) (no nl) =
            let l : benches t ≤ b = omega arith in
            stays a b ha hb (λ z. nl z.1.1) (rw (le-ltb b (benches t) l, and_false (not (eqb b p)) false refl, and_false (eqb a p) false refl) refl)
        go a b ha hb (yes d) (no ne) (yes l) =
            rw (d, eq-eqb p p refl, ne_eqb b p ne, lt-ltb b (benches t) l, more b l ne)
            (list-joined r y (chan p b) (count t (chan p b)) raised
            (λ i k. y-slot p b i p8 hb (omega (arith, k, room b l ne)) (λ x o m. omega (arith, k))) (ap counts_in (y-joined b l ne) ∙ x-reads)
            ∙ ap (λ z. z ++ raised ∷ []) (sym (brought-at t r p b p8 hb)))

        left : (a b : ℕ) → 8 ≤ a → sends (benches t) (brought t r) p (raised ∷ []) a b ≡ []
        left a b l = let ne : a ≢ p = omega (arith, p8) in rw (ne_eqb a p ne) (nothing-left t r a b l)

        right : (a b : ℕ) → 8 ≤ b → sends (benches t) (brought t r) p (raised ∷ []) a b ≡ []
        right a b l =
            let k : benches t ≤ b = omega (arith, n8) in
            rw (le-ltb b (benches t) k, and_false (not (eqb b p)) false refl, and_false (eqb a p) false refl) (nothing-right t r a b l)

    pub sent-good : Good t' (sent_counts t r p)
    unfolding y
    sent-good =
        record {
          long = y-long;
          own = own-kept y (rw (y-own p p8, x-row) (zero-row (benches t) raised raised-zero)) (λ a l ne. y-own a l ∙ x-else a ne);
          slots = slots-good;
        }
      where
        -- a channel that no message joins
        quiet-slot : (a b i : ℕ) → a < 8 → b < 8 → i < 16 → (Goes a b → ⊥) → slot_ok t' y (chan a b) i ≡ true
        quiet-slot a b i ha hb l no-message =
            rw sb
            (still (benches t) (count t (chan a b)) (count t' (chan a b)) i (row r (slot_row (chan a b) i)) (row y (slot_row (chan a b) i)) (same a b ha hb no-message)
            (y-slot a b i ha hb l (λ d ne k. absurd (no-message (d, (ne, k))))) (g.slots (chan a b) i (omega arith) l))

        -- the channel of a message
        joined-slot : (b i : ℕ) → b < 8 → i < 16 → (b ≢ p) → b < benches t → Dec (i < count t (chan p b)) → Dec (i ≡ count t (chan p b)) → slot_ok t' y (chan p b) i ≡ true
        joined-slot b i hb l ne k (yes h) e =
            rw (sb, more b k ne)
            (in-use (benches t) (count t (chan p b)) (suc (count t (chan p b))) i (row r (slot_row (chan p b) i)) (row y (slot_row (chan p b) i)) (omega (arith, h))
            (rw (y-slot p b i p8 hb l (λ x o m. omega (arith, h)))
            (used-slot (benches t) (count t (chan p b)) (suc (count t (chan p b))) i (row r (slot_row (chan p b) i)) (row y (slot_row (chan p b) i)) h (g.slots (chan p b) i (omega (arith, p8)) l))))
        joined-slot b i hb l ne k (no nh) (yes e) =
            rw (sb, more b k ne, e)
            (in-use (benches t) (count t (chan p b)) (suc (count t (chan p b))) (count t (chan p b)) (row r (slot_row (chan p b) i)) (row y (slot_row (chan p b) (count t (chan p b)))) (omega arith)
            (rw (y-joined b k ne, x-row) (zero-row (benches t) raised raised-zero)))
        joined-slot b i hb l ne k (no nh) (no nd) =
            let h : suc (count t (chan p b)) ≤ i = omega arith in
            rw (sb, more b k ne)
            (unused (benches t) (count t (chan p b)) (suc (count t (chan p b))) i (row r (slot_row (chan p b) i)) (row y (slot_row (chan p b) i)) h
            (rw (y-slot p b i p8 hb l (λ x o m. nd))
            (unused-row (benches t) (count t (chan p b)) (suc (count t (chan p b))) i (row r (slot_row (chan p b) i)) (row y (slot_row (chan p b) i)) (omega (arith, h)) (g.slots (chan p b) i (omega (arith, p8)) l))))

        slot-good : (a b i : ℕ) → a < 8 → b < 8 → i < 16 → Dec (a ≡ p) → Dec (b ≡ p) → Dec (b < benches t) → slot_ok t' y (chan a b) i ≡ true
        slot-good a b i ha hb l (no nd) e k = quiet-slot a b i ha hb l (λ z. nd z.0)
        slot-good a b i ha hb l (yes d) (yes e) k = quiet-slot a b i ha hb l (λ z. z.1.0 e)
        slot-good a b i ha hb l (yes d) (no ne) (no nk) = quiet-slot a b i ha hb l (λ z. nk z.1.1)
        slot-good a b i ha hb l (yes d) (no ne) (yes k) = rw d (joined-slot b i hb l ne k (dec_lt i (count t (chan p b))) (ℕ_discrete i (count t (chan p b))))

        slots-good : (c i : ℕ) → c < 64 → i < 16 → slot_ok t' y c i ≡ true
        slots-good c i h l =
            let a = c / 8 in
            let b = c % 8 in
            let is : chan a b ≡ c = omega arith in
            rw is at (slot-good a b i (omega arith) (omega arith) l (ℕ_discrete a p) (ℕ_discrete b p) (dec_lt b (benches t)))
