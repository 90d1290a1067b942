-- Steps: each event of a step that is done is a turn.
use mathlib.Core.Path.{◌≡◌, refl, sym, ap, ◌∙◌}
use mathlib.Core.Logic.{◌≢◌, ◌⊎◌, inl, inr}
use mathlib.Core.Bool.{Bool, true, false, cond, not, ◌&&◌}
use mathlib.Core.List.{List, [], ◌∷◌, ◌++◌, append-nil}
use Prim.Native.Nat.{ℕ, ◌+◌, ◌≤◌, ◌<◌, max}
use native.Mathlib.Omega.{arith}
use native.Mathlib.Decide.{ℕ_discrete, dec_lt}
use borrow.Author.Tests.{eq-eqb, ne_eqb}
use lib.Dec.{ltb, eqb}
use Rattle.lamport.specs.declared.Kind.{Kind}
use Rattle.lamport.specs.declared.Kind.TheVariants.{Request, Ack, Release}
use Rattle.lamport.specs.declared.Step.{Step}
use Rattle.lamport.specs.declared.Step.TheVariants.{Carry}
use Rattle.lamport.specs.Steps.{actor, rest, at2, sends, done}
use Rattle.lamport.specs.Vectors.{vc1, vc2, counts_after, first_counts}
use Rattle.lamport.specs.Counted.{Counted, counts_then, brought_back, counted_done}
use Rattle.lamport.proofs.Each.{and_false}
use Rattle.lamport.proofs.Readings.{Other, at1-here, at1-else, at2-here, at2-else, at2-same}
use Rattle.causal.specs.Events.{Act, alone, tells, receives, acknowledges, Stamped, stamped}
use Rattle.causal.specs.Happened.{receipt}
use Rattle.causal.proofs.Turn.{Passes, quiet, put, got, Brings, Turn}

-- from s to s' only the counts of bench p change: they are v
pub record Counts (s s' : Counted) (p : ℕ) (v : ℕ → ℕ) : Type 0 where
  pub own : (a : ℕ) → s'.counts p a ≡ v a
  pub others : (c : ℕ) → c ≢ p → (a : ℕ) → s'.counts c a ≡ s.counts c a

-- s with the counts v of bench p
abbrev pub with_counts : Counted → ℕ → (ℕ → ℕ) → ℕ → ℕ → ℕ
with_counts s p v c = cond (eqb c p) v (s.counts c)

module _ (s : Counted) (p : ℕ) (v : ℕ → ℕ) where
  -- its counts are v, and those of the others as in s
  with-own : (a : ℕ) → with_counts s p v p a ≡ v a
  with-own a = rw (eq-eqb p p refl)

  with-else : (c : ℕ) → c ≢ p → (a : ℕ) → with_counts s p v c a ≡ s.counts c a
  with-else c ne a = rw (ne_eqb c p ne)

-- a step that is done changes the counts of its bench alone
pub done-counts : (s : Counted) (k : Step) → Counts s (counted_done s k) (actor k) (counts_then s k)
unfolding counted_done
done-counts s k = record { own = with-own s (actor k) (counts_then s k); others = with-else s (actor k) (counts_then s k) }

-- ---- an event of bench p that is no receipt; v are its counts before

module _ (n : ℕ) (s s' : Counted) (p : ℕ) (v : ℕ → ℕ) (hp : p < n) (had : (a : ℕ) → s.counts p a ≡ v a) (c : Counts s s' p (vc1 p v)) where
  -- a turn, if it does to the channels what such an event does
  vc1-turn : (act : Act) → ((a b : ℕ) → Passes n (stamped p act (vc1 p v)) a b (s.brought a b) (s'.brought a b)) → Turn n (stamped p act (vc1 p v)) s s'
  vc1-turn act passes =
      record {
        there = hp;
        own = omega (arith, at1-here v p (v p + 1), had p);
        grown = λ a ne. omega (arith, at1-else v p (v p + 1) a ne, had a);
        source = λ a ne. inl (omega (arith, at1-else v p (v p + 1) a ne, had a));
        counts-own = c.own;
        counts-else = c.others;
        passes = passes;
      }

  -- no message is sent
  pub alone-turn : ((a b : ℕ) → s'.brought a b ≡ s.brought a b) → Turn n (stamped p alone (vc1 p v)) s s'
  alone-turn same = vc1-turn alone (λ a b. quiet (and_false (eqb p a) _ refl) (and_false (eqb p b) _ refl) (same a b))

  -- a message is sent to every other bench
  pub tells-turn : ((a b : ℕ) → s'.brought a b ≡ sends n s.brought p (vc1 p v ∷ []) a b) → Turn n (stamped p tells (vc1 p v)) s s'
  tells-turn sent = vc1-turn tells (λ a b. go a b (ℕ_discrete a p))
    where
      here : (b : ℕ) (c : Bool) → (not (eqb b p) && ltb b n) ≡ c → Passes n (stamped p tells (vc1 p v)) p b (s.brought p b) (s'.brought p b)
      here b true e = put (rw (eq-eqb p p refl, e)) (and_false (eqb p b) _ refl) (sent p b ∙ rw (eq-eqb p p refl, e))
      here b false e = quiet (rw (eq-eqb p p refl, e)) (and_false (eqb p b) _ refl) (sent p b ∙ rw (eq-eqb p p refl, e))

      go : (a b : ℕ) → Dec (a ≡ p) → Passes n (stamped p tells (vc1 p v)) a b (s.brought a b) (s'.brought a b)
      go a b (yes e) = rw e (here b (not (eqb b p) && ltb b n) refl)
      go a b (no ne) = quiet (rw (ne_eqb p a (λ e. ne (sym e)))) (and_false (eqb p b) _ refl) (sent a b ∙ rw (ne_eqb a p ne))

  -- one is sent to bench q
  pub acknowledges-turn : (q : ℕ) → s'.brought p q ≡ s.brought p q ++ vc1 p v ∷ [] → ((a b : ℕ) → Other a b p q → s'.brought a b ≡ s.brought a b)
      → Turn n (stamped p (acknowledges q) (vc1 p v)) s s'
  acknowledges-turn q sent others = vc1-turn (acknowledges q) (λ a b. go a b (ℕ_discrete a p) (ℕ_discrete b q))
    where
      go : (a b : ℕ) → Dec (a ≡ p) → Dec (b ≡ q) → Passes n (stamped p (acknowledges q) (vc1 p v)) a b (s.brought a b) (s'.brought a b)
      go a b (yes e) (yes d) = rw (e, d) (put (rw (eq-eqb p p refl, eq-eqb q q refl)) (and_false (eqb p q) _ refl) sent)
      go a b (yes e) (no nd) = quiet (and_false (eqb p a) _ (ne_eqb b q nd)) (and_false (eqb p b) _ refl) (others a b (λ x. nd x.1))
      go a b (no ne) d = quiet (rw (ne_eqb p a (λ e. ne (sym e)))) (and_false (eqb p b) _ refl) (others a b (λ x. ne x.0))

-- ---- bench q receives a message from p, which brings the counts x

module _ (q : ℕ) (v x : ℕ → ℕ) where
  -- of itself q counts one more, of the others what either has counted
  vc2-here : vc2 q v x q ≡ v q + 1
  vc2-here = rw (eq-eqb q q refl)

  vc2-else : (a : ℕ) → a ≢ q → vc2 q v x a ≡ max (v a) (x a)
  vc2-else a ne = rw (ne_eqb a q ne)

module _ (s : Counted) (p q : ℕ) (x : ℕ → ℕ) where
  -- the event
  abbrev receiving : Stamped
  receiving = stamped q (receives p) (vc2 q (s.counts q) x)

  is-receipt : receipt p q receiving.event ≡ true
  is-receipt = rw (eq-eqb q q refl, eq-eqb p p refl)

  -- a turn, if the message that is received is the oldest, and no other channel changes
  receives-turn : (n : ℕ) (s' : Counted) → q < n → Counts s s' q receiving.counts → s.brought p q ≡ x ∷ s'.brought p q
      → ((a b : ℕ) → Other a b p q → s'.brought a b ≡ s.brought a b) → Turn n receiving s s'
  receives-turn n s' hq c took others =
      record {
        there = hq;
        own = vc2-here q (s.counts q) x;
        grown = λ a ne. omega (arith, vc2-else q (s.counts q) x a ne);
        source = λ a ne. from a ne (dec_lt (s.counts q a) (x a));
        counts-own = c.own;
        counts-else = c.others;
        passes = λ a b. go a b (ℕ_discrete a p) (ℕ_discrete b q);
      }
    where
      first-is : (y : ℕ → ℕ) (ys : List (ℕ → ℕ)) → s.brought p q ≡ y ∷ ys → x ≡ y
      first-is y ys d = cc took

      from : (a : ℕ) → a ≢ q → Dec (s.counts q a < x a) → (receiving.counts a ≤ s.counts q a) ⊎ Brings receiving s a
      from a ne (no nl) = inl (omega (arith, vc2-else q (s.counts q) x a ne))
      from a ne (yes l) =
          inr (record { from = p; received = is-receipt; brought = λ y ys d. omega (arith, vc2-else q (s.counts q) x a ne, ap (λ (f : ℕ → ℕ). f a) (first-is y ys d)) })

      go : (a b : ℕ) → Dec (a ≡ p) → Dec (b ≡ q) → Passes n receiving a b (s.brought a b) (s'.brought a b)
      go a b (yes d) (yes f) = rw (d, f) (got x (and_false (eqb q p) _ refl) is-receipt took (λ a ne. omega (arith, vc2-else q (s.counts q) x a ne)))
      go a b (yes d) (no nf) = quiet (and_false (eqb q a) _ refl) (rw (ne_eqb q b (λ f. nf (sym f)))) (others a b (λ y. nf y.1))
      go a b (no nd) f = quiet (and_false (eqb q a) _ refl) (and_false (eqb q b) _ (ne_eqb a p nd)) (others a b (λ y. nd y.0))

-- ---- a message is carried from p to q

-- q's counts after the receipt
abbrev pub counts_got : Counted → ℕ → ℕ → ℕ → ℕ
counts_got s p q = vc2 q (s.counts q) (first_counts (s.brought p q))

-- and after the carry of a message of this kind
abbrev pub counts_carried : Counted → ℕ → ℕ → Kind → ℕ → ℕ
counts_carried s p q k = counts_after k q (s.counts q) (first_counts (s.brought p q))

-- the message is received and not yet acknowledged
abbrev pub received : Counted → ℕ → ℕ → Counted
received s p q = record { table = s.table; counts = with_counts s q (counts_got s p q); brought = at2 s.brought p q (rest (s.brought p q)) }

-- it is of this kind, and is carried
abbrev pub carried : Counted → ℕ → ℕ → Kind → Counted
carried s p q k =
    record {
      table = done s.table (Carry p q);
      counts = with_counts s q (counts_carried s p q k);
      brought = at2 (received s p q).brought q p (s.brought q p ++ brought_back k (counts_carried s p q k));
    }

module _ (n : ℕ) (s : Counted) (p q : ℕ) (hq : q < n) (apart : p ≢ q) (took : s.brought p q ≡ first_counts (s.brought p q) ∷ rest (s.brought p q)) where
  -- s' is read as the table after the receipt
  received-as : (s' : Counted) → ((c a : ℕ) → s'.counts c a ≡ (received s p q).counts c a) → ((a b : ℕ) → s'.brought a b ≡ (received s p q).brought a b)
      → Turn n (stamped q (receives p) (counts_got s p q)) s s'
  received-as s' same left =
      receives-turn s p q (first_counts (s.brought p q)) n s' hq
      (record { own = λ a. same q a ∙ with-own s q (counts_got s p q) a; others = λ c ne a. same c a ∙ with-else s q (counts_got s p q) c ne a })
      (rw (left p q, at2-here s.brought p q (rest (s.brought p q))) took)
      (λ a b o. left a b ∙ at2-else s.brought p q (rest (s.brought p q)) a b o)

  pub received-turn : Turn n (stamped q (receives p) (counts_got s p q)) s (received s p q)
  received-turn = received-as (received s p q) (λ c a. refl) (λ a b. refl)

  -- the receipt leaves the channel back as it was
  back-is : (received s p q).brought q p ≡ s.brought q p
  back-is = at2-else s.brought p q (rest (s.brought p q)) q p (λ o. apart o.1)

  -- nothing is sent back
  none-back : (a b : ℕ) → at2 (received s p q).brought q p (s.brought q p ++ []) a b ≡ (received s p q).brought a b
  none-back a b =
      ap (λ (xs : List (ℕ → ℕ)). at2 (received s p q).brought q p xs a b) (append-nil (s.brought q p) ∙ sym back-is) ∙ at2-same (received s p q).brought q p a b

  -- an acknowledgement or a release is received, and that is all
  pub ack-turn : Turn n (stamped q (receives p) (counts_got s p q)) s (carried s p q Ack)
  ack-turn = received-as (carried s p q Ack) (λ c a. refl) none-back

  pub release-turn : Turn n (stamped q (receives p) (counts_got s p q)) s (carried s p q Release)
  release-turn = received-as (carried s p q Release) (λ c a. refl) none-back

  -- a request is acknowledged
  pub acknowledged-turn : Turn n (stamped q (acknowledges p) (counts_carried s p q Request)) (received s p q) (carried s p q Request)
  acknowledged-turn =
      acknowledges-turn n (received s p q) (carried s p q Request) q (counts_got s p q) hq (with-own s q (counts_got s p q))
      (record {
        own = with-own s q (counts_carried s p q Request);
        others = λ c ne a. with-else s q (counts_carried s p q Request) c ne a ∙ sym (with-else s q (counts_got s p q) c ne a);
      })
      p
      (at2-here (received s p q).brought q p _ ∙ ap (λ (xs : List (ℕ → ℕ)). xs ++ counts_carried s p q Request ∷ []) (sym back-is))
      (at2-else (received s p q).brought q p _)
