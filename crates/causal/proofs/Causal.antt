-- Causal: what counts say of the events so far, and that each event keeps it.
use mathlib.Core.Path.{◌≡◌, sym, ap, ◌∙◌}
use mathlib.Core.Logic.{◌≢◌, ◌⊎◌, inl, inr}
use mathlib.Core.Bool.{true, true≢false}
use mathlib.Core.List.{◌∷◌}
use Prim.Native.Nat.{ℕ, suc, ◌≤◌, ◌<◌}
use native.Mathlib.Omega.{arith}
use native.Mathlib.Decide.{ℕ_discrete}
use Rattle.lamport.specs.Counted.{Counted}
use Rattle.causal.specs.Events.{Stamped}
use Rattle.causal.specs.Happened.{sending, receipt, SameMessage, HappenedBefore, same_bench, message, through}
use Rattle.causal.proofs.Counting.{counted-yes, counted-no, counted-before, counted-same}
use Rattle.causal.proofs.Turn.{Passes, quiet, put, got, Brings, Turn}
use Rattle.causal.proofs.Transit.{not-both, ev, bench, stamp, got_by, Sender, Transit, transit-length, transit-quiet, transit-put}

-- in a row of so many events of n benches
module _ (n number : ℕ) (row : ℕ → Stamped) where
  abbrev Before : ℕ → ℕ → Type 0
  Before = HappenedBefore n number (ev row)

  abbrev pub Linked : ℕ → ℕ → Type 0
  Linked i j = (i ≡ j) ⊎ Before i j

  -- the stamp of event j is larger: none of its counts is smaller, and that of its own bench is larger
  pub record Rise (i j : ℕ) : Type 0 where
    pub all : (a : ℕ) → stamp row i a ≤ stamp row j a
    pub own : stamp row i (bench row j) < stamp row j (bench row j)

  -- s is the table before event m
  pub record Inv (m : ℕ) (s : Counted) : Type 0 where
    pub there : (i : ℕ) → i < m → bench row i < n
    -- nobody has counted more of a bench than it has itself
    pub bound : (i : ℕ) → i < m → (a : ℕ) → stamp row i a ≤ s.counts a a
    pub known : (b a : ℕ) → s.counts b a ≤ s.counts a a
    -- a bench forgets nothing
    pub past : (i : ℕ) → i < m → (a : ℕ) → stamp row i a ≤ s.counts (bench row i) a
    -- a bench that has counted event i had an event to which i is linked
    pub reach : (b i : ℕ) → i < m → stamp row i (bench row i) ≤ s.counts b (bench row i)
        → (j : ℕ) × (j < m) × (bench row j ≡ b) × Linked i j
    -- an event in whose stamp event i is counted is linked to i
    pub linked : (i j : ℕ) → i < m → j < m → stamp row i (bench row i) ≤ stamp row j (bench row i) → Linked i j
    -- stamps rise in a bench, and from a sending to its receipt
    pub bench-rise : (i j : ℕ) → i < j → j < m → bench row i ≡ bench row j → Rise i j
    pub message-rise : (i j : ℕ) → i < m → j < m → SameMessage n (ev row) i j → Rise i j
    pub transit : (p q : ℕ) → Transit n row m p q (got_by row p q m) (s.brought p q)

  -- event m leads from s to s'
  module _ (m : ℕ) (here : m < number) (s s' : Counted) (turn : Turn n (row m) s s') (iv : Inv m s) where
    abbrev by : ℕ
    by = bench row m

    -- what is in transit afterwards
    transit-at : (p q : ℕ) → Passes n (row m) p q (s.brought p q) (s'.brought p q) → Transit n row (suc m) p q (got_by row p q (suc m)) (s'.brought p q)
    transit-at p q (quiet e d c) = rw (c, counted-no (receipt p q) (ev row) m d) (transit-quiet n row m p q e _ _ (iv.transit p q))
    transit-at p q (put e d c) = rw (c, counted-no (receipt p q) (ev row) m d) (transit-put n row m p q e _ _ (iv.transit p q))
    transit-at p q (got x e d c v) =
        let h : Transit n row m p q (got_by row p q m) (x ∷ s'.brought p q) = rw c at (iv.transit p q) in
        rw (counted-yes (receipt p q) (ev row) m d) (transit-quiet n row m p q e _ _ h.1)

    -- the message from p that event m receives, and the event that sent it
    record Taken (p q : ℕ) : Type 0 where
      x : ℕ → ℕ
      first : s.brought p q ≡ x ∷ s'.brought p q
      sender : Sender n row m p q (got_by row p q m) x
      counted : (a : ℕ) → a ≢ by → x a ≤ stamp row m a

    taken : (p q : ℕ) → receipt p q (ev row m) ≡ true → Passes n (row m) p q (s.brought p q) (s'.brought p q) → Taken p q
    taken p q r (quiet e d c) = absurd (true≢false (sym r ∙ d))
    taken p q r (put e d c) = absurd (true≢false (sym r ∙ d))
    taken p q r (got x e d c v) =
        let h : Transit n row m p q (got_by row p q m) (x ∷ s'.brought p q) = rw c at (iv.transit p q) in
        record { x = x; first = c; sender = h.0; counted = v }

    -- ---- counts go up

    -- a bench forgets nothing at an event
    stamp-up : (a : ℕ) → s.counts by a ≤ stamp row m a
    stamp-up a = go (ℕ_discrete a by)
      where
        go : Dec (a ≡ by) → s.counts by a ≤ stamp row m a
        go (yes e) = rw e (omega (arith, turn.own))
        go (no ne) = turn.grown a ne

    counts-up : (c a : ℕ) → s.counts c a ≤ s'.counts c a
    counts-up c a = go (ℕ_discrete c by)
      where
        go : Dec (c ≡ by) → s.counts c a ≤ s'.counts c a
        go (yes e) = rw e (omega (arith, turn.counts-own a, stamp-up a))
        go (no ne) = omega (arith, turn.counts-else c ne a)

    -- event m counts no more of another bench than that bench has
    capped : (a : ℕ) → a ≢ by → stamp row m a ≤ s.counts a a
    capped a ne = go (turn.source a ne)
      where
        go : (stamp row m a ≤ s.counts by a) ⊎ Brings (row m) s a → stamp row m a ≤ s.counts a a
        go (inl l) = omega (arith, iv.known by a)
        go (inr g) =
            let h : Taken g.from by = taken g.from by g.received (turn.passes g.from by) in
            omega (arith, g.brought h.x _ h.first, h.sender.counts a, iv.bound h.sender.by h.sender.past a)

    -- afterwards nobody has counted more of a bench than it has
    new-bound : (a : ℕ) → stamp row m a ≤ s'.counts a a
    new-bound a = go (ℕ_discrete a by)
      where
        go : Dec (a ≡ by) → stamp row m a ≤ s'.counts a a
        go (yes e) = rw e (omega (arith, turn.counts-own by))
        go (no ne) = omega (arith, capped a ne, counts-up a a)

    -- ---- what happened before event m

    -- what event m counts happened before it
    new-linked : (i : ℕ) → i < m → stamp row i (bench row i) ≤ stamp row m (bench row i) → Before i m
    new-linked i l le = go (ℕ_discrete (bench row i) by)
      where
        by-way : (j : ℕ) → Linked i j → Before j m → Before i m
        by-way j (inl e) last = rw e last
        by-way j (inr b) last = through i j m b last

        other : (stamp row m (bench row i) ≤ s.counts by (bench row i)) ⊎ Brings (row m) s (bench row i) → Before i m
        other (inl k) = let h = iv.reach by i l (omega arith) in by-way h.0 h.3 (same_bench h.0 m h.1 here h.2)
        other (inr g) =
            let h : Taken g.from by = taken g.from by g.received (turn.passes g.from by) in
            by-way h.sender.by
            (iv.linked i h.sender.by l h.sender.past (omega (arith, g.brought h.x _ h.first, h.sender.counts (bench row i))))
            (message h.sender.by m (omega (arith, h.sender.past)) here
            (record { from = g.from; to = by; sent = h.sender.sends; received = g.received; in_turn = h.sender.number }))

        go : Dec (bench row i ≡ by) → Before i m
        go (yes e) = same_bench i m l here e
        go (no ne) = other (turn.source (bench row i) ne)

    -- event m is counted nowhere before it
    not-yet : (c : ℕ) → stamp row m by ≤ s.counts c by → ⊥
    not-yet c le = omega (arith, turn.own, iv.known c by)

    -- event m or an earlier one
    linked-at : (i j : ℕ) → i < suc m → j < suc m → Dec (i ≡ m) → Dec (j ≡ m) → stamp row i (bench row i) ≤ stamp row j (bench row i) → Linked i j
    linked-at i j l k (yes e) (yes d) le = inl (e ∙ sym d)
    linked-at i j l k (yes e) (no nd) le = absurd (not-yet by (omega (arith, rw e at le, iv.bound j (omega arith) by)))
    linked-at i j l k (no ne) (yes d) le = inr (rw d (new-linked i (omega arith) (rw d at le)))
    linked-at i j l k (no ne) (no nd) le = iv.linked i j (omega arith) (omega arith) le

    reach-at : (b i : ℕ) → i < suc m → Dec (i ≡ m) → Dec (b ≡ by) → stamp row i (bench row i) ≤ s'.counts b (bench row i)
        → (j : ℕ) × (j < suc m) × (bench row j ≡ b) × Linked i j
    reach-at b i l (yes e) (yes d) le = (m, omega arith, sym d, inl e)
    reach-at b i l (yes e) (no nd) le = absurd (not-yet b (omega (arith, rw e at le, turn.counts-else b nd by)))
    reach-at b i l (no ne) (yes d) le = (m, omega arith, sym d, inr (new-linked i (omega arith) (omega (arith, rw d at le, turn.counts-own (bench row i)))))
    reach-at b i l (no ne) (no nd) le =
        let h = iv.reach b i (omega arith) (omega (arith, turn.counts-else b nd (bench row i))) in
        (h.0, omega (arith, h.1), h.2, h.3)

    -- ---- what rises up to event m

    -- from an earlier event in its bench, and from the sending of what it receives
    bench-new : (i : ℕ) → i < m → bench row i ≡ by → Rise i m
    bench-new i l e = record { all = λ a. omega (arith, back a, stamp-up a); own = omega (arith, back by, turn.own) }
      where
        back : (a : ℕ) → stamp row i a ≤ s.counts by a
        back a = rw e at (iv.past i l a)

    message-new : (i : ℕ) → i < m → SameMessage n (ev row) i m → Rise i m
    message-new i l sm = record { all = λ a. every a (ℕ_discrete a by); own = own }
      where
        h : Taken sm.from sm.to
        h = taken sm.from sm.to sm.received (turn.passes sm.from sm.to)

        sent : i ≡ h.sender.by
        sent = counted-same (sending n sm.from sm.to) (ev row) i h.sender.by sm.sent h.sender.sends (sm.in_turn ∙ sym h.sender.number)

        own : stamp row i by < stamp row m by
        own = omega (arith, turn.own, iv.bound i l by)

        every : (a : ℕ) → Dec (a ≡ by) → stamp row i a ≤ stamp row m a
        every a (yes e) = rw e (omega (arith, own))
        every a (no ne) = omega (arith, h.counted a ne, h.sender.counts a, ap (λ (j : ℕ). stamp row j a) sent)

    -- no message is received before it is sent
    message-never : (j : ℕ) → j < m → SameMessage n (ev row) m j → ⊥
    message-never j k sm =
        omega (
          arith,
          sm.in_turn,
          counted-before (receipt sm.from sm.to) (ev row) j m k sm.received,
          transit-length n row m sm.from sm.to _ _ (iv.transit sm.from sm.to),
        )

    message-at : (i j : ℕ) → i < suc m → j < suc m → Dec (i ≡ m) → Dec (j ≡ m) → SameMessage n (ev row) i j → Rise i j
    message-at i j l k (yes e) (yes d) sm = absurd (not-both n sm.from sm.to sm.from sm.to (ev row m) (rw e at sm.sent) (rw d at sm.received))
    message-at i j l k (yes e) (no nd) sm = absurd (message-never j (omega arith) (rw e at sm))
    message-at i j l k (no ne) (yes d) sm = rw d (message-new i (omega arith) (rw d at sm))
    message-at i j l k (no ne) (no nd) sm = iv.message-rise i j (omega arith) (omega arith) sm

    bench-at : (i j : ℕ) → i < j → j < suc m → Dec (j ≡ m) → bench row i ≡ bench row j → Rise i j
    bench-at i j l k (yes d) e = rw d (bench-new i (omega arith) (rw d at e))
    bench-at i j l k (no nd) e = iv.bench-rise i j l (omega arith) e

    known-at : (b a : ℕ) → Dec (b ≡ by) → s'.counts b a ≤ s'.counts a a
    known-at b a (yes e) = rw e (omega (arith, turn.counts-own a, new-bound a))
    known-at b a (no ne) = omega (arith, turn.counts-else b ne a, iv.known b a, counts-up a a)

    there-at : (i : ℕ) → i < suc m → Dec (i ≡ m) → bench row i < n
    there-at i l (yes e) = rw e turn.there
    there-at i l (no ne) = iv.there i (omega arith)

    bound-at : (i : ℕ) → i < suc m → Dec (i ≡ m) → (a : ℕ) → stamp row i a ≤ s'.counts a a
    bound-at i l (yes e) a = rw e (new-bound a)
    bound-at i l (no ne) a = omega (arith, iv.bound i (omega arith) a, counts-up a a)

    past-at : (i : ℕ) → i < suc m → Dec (i ≡ m) → (a : ℕ) → stamp row i a ≤ s'.counts (bench row i) a
    past-at i l (yes e) a = rw e (omega (arith, turn.counts-own a))
    past-at i l (no ne) a = omega (arith, iv.past i (omega arith) a, counts-up (bench row i) a)

    pub turn-inv : Inv (suc m) s'
    turn-inv =
        record {
          there = λ i l. there-at i l (ℕ_discrete i m);
          bound = λ i l. bound-at i l (ℕ_discrete i m);
          known = λ b a. known-at b a (ℕ_discrete b by);
          past = λ i l. past-at i l (ℕ_discrete i m);
          reach = λ b i l. reach-at b i l (ℕ_discrete i m) (ℕ_discrete b by);
          linked = λ i j l k. linked-at i j l k (ℕ_discrete i m) (ℕ_discrete j m);
          bench-rise = λ i j l k. bench-at i j l k (ℕ_discrete j m);
          message-rise = λ i j l k. message-at i j l k (ℕ_discrete i m) (ℕ_discrete j m);
          transit = λ p q. transit-at p q (turn.passes p q);
        }

  -- of all events: what happened before has a smaller stamp
  pub rises : (s : Counted) → Inv number s → (i j : ℕ) → Before i j → Rise i j
  rises s iv i j (same_bench _ _ l k e) = iv.bench-rise i j l k e
  rises s iv i j (message _ _ l k sm) = iv.message-rise i j l k sm
  rises s iv i k (through _ j _ b c) = join (rises s iv i j b) (rises s iv j k c)
    where
      join : Rise i j → Rise j k → Rise i k
      join x y = record { all = λ a. omega (arith, x.all a, y.all a); own = omega (arith, x.all (bench row k), y.own) }
