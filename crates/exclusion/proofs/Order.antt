-- Order: the invariant `Order` has the request granted last; a holder is its bench, and all that wait come after it.
-- This gives at once that at most one bench holds and that the requests granted rise.
use mathlib.Core.Path.{◌≡◌, sym, ◌∙◌}
use mathlib.Core.Logic.{◌≢◌, ◌⊎◌, inl, inr}
use mathlib.Core.List.{List, [], ◌∷◌}
use Prim.Native.Nat.{ℕ, ◌≤◌, ◌<◌}
use native.Mathlib.Omega.{arith}
use native.Mathlib.Decide.{ℕ_discrete}
use Rattle.lamport.specs.declared.Message.{Message}
use Rattle.lamport.specs.declared.Step.{Step}
use Rattle.lamport.specs.Table.{Table, idle, waiting, holding}
use Rattle.exclusion.specs.Demand.{Grant, granted}
use Rattle.exclusion.proofs.Streams.{deliver, rises-le, old-or_later}
use Rattle.exclusion.proofs.Effects.{Two, Acts, Carries}
use Rattle.exclusion.proofs.Invariant.{Inv, LinkAt, flip, up}
use Rattle.exclusion.proofs.Moves.{key, before→key, Entered, Moves, refuses, asks, carries, enters, leaves, marks, refused-grants}

abbrev pub key_of : Grant → ℕ
key_of g = key g.stamp g.bench

-- g is the request granted last
pub record Order (n : ℕ) (s : Table) (g : Grant) : Type 0 where
  pub bench : g.bench < 8
  -- every clock has passed its stamp, so that a request to come is later
  pub past : (a : ℕ) → a < n → g.stamp ≤ s.clock a
  -- the request of a bench that waits comes after it
  pub waiters : (a : ℕ) → a < n → s.phase a ≡ waiting → key_of g < key (s.entry a a) a
  -- a bench that holds is the one granted last, and holds on that request
  pub holder : (a : ℕ) → a < n → s.phase a ≡ holding → (a ≡ g.bench) × (s.entry a a ≡ g.stamp)

-- a bench that meets the entry rule comes before every bench that has a request
first-among : (n : ℕ) → n ≤ 8 → (s : Table) (p : ℕ) → Inv n s → Entered n s p → (a : ℕ) → Two n a p → s.entry a a ≢ 0
    → key (s.entry p p) p < key (s.entry a a) a
first-among n n8 s p iv en a t nz = go (old-or_later (s.messages a p) (s.heard p a) (s.entry p a) k.rises)
  where
    k : LinkAt s a p
    k = iv.links a p t

    d : ℕ
    d = deliver (s.messages a p) (s.entry p a)

    go : (d ≡ s.entry p a) ⊎ ((d ≡ 0) ⊎ (s.heard p a < d)) → key (s.entry p p) p < key (s.entry a a) a
    go (inl i) =
        omega (
          arith,
          i,
          k.view,
          before→key (s.entry p p) p (s.entry p a) a (omega (arith, t.right)) (omega (arith, t.left)) (en.ahead a (flip t) (λ z. nz (sym k.view ∙ i ∙ z))),
        )
    go (inr (inl z)) = absurd (nz (sym k.view ∙ z))
    go (inr (inr l)) = omega (arith, t.left, t.right, k.view, en.enough a (flip t))

-- p does not go in
module _
    (n : ℕ) (s s' : Table) (g : Grant) (p ph o : ℕ) (out : List Message) (hp : p < n) (ac : Acts n s s' p ph o out) (or : Order n s g)
    (waits : ph ≡ waiting → key_of g < key o p) (holds : ph ≡ holding → (p ≡ g.bench) × (o ≡ g.stamp))
  where
    past-at : (a : ℕ) → a < n → Dec (a ≡ p) → g.stamp ≤ s'.clock a
    past-at a h (yes e) = rw e (omega (arith, ac.clock-own, or.past p hp))
    past-at a h (no ne) = omega (arith, ac.clock-else a h ne, or.past a h)

    waiting-at : (a : ℕ) → a < n → Dec (a ≡ p) → s'.phase a ≡ waiting → key_of g < key (s'.entry a a) a
    waiting-at a h (yes e) w = rw (e, ac.entry-own) (waits (sym ac.phase-own ∙ rw e at w))
    waiting-at a h (no ne) w = rw (ac.entry-else a h ne) (or.waiters a h (sym (ac.phase-else a h ne) ∙ w))

    holding-at : (a : ℕ) → a < n → Dec (a ≡ p) → s'.phase a ≡ holding → (a ≡ g.bench) × (s'.entry a a ≡ g.stamp)
    holding-at a h (yes e) w = rw (e, ac.entry-own) (holds (sym ac.phase-own ∙ rw e at w))
    holding-at a h (no ne) w = rw (ac.entry-else a h ne) (or.holder a h (sym (ac.phase-else a h ne) ∙ w))

    acts-order : Order n s' g
    acts-order =
        record {
          bench = or.bench;
          past = λ a h. past-at a h (ℕ_discrete a p);
          waiters = λ a h. waiting-at a h (ℕ_discrete a p);
          holder = λ a h. holding-at a h (ℕ_discrete a p);
        }

-- p goes in
module _
    (n : ℕ) (n8 : n ≤ 8) (s s' : Table) (g : Grant) (p : ℕ) (hp : p < n) (waits : s.phase p ≡ waiting) (en : Entered n s p)
    (ac : Acts n s s' p holding (s.entry p p) []) (iv : Inv n s) (or : Order n s g)
  where
    pair : (a : ℕ) → a < n → a ≢ p → Two n a p
    pair a h ne = record { left = h; right = hp; apart = ne }

    in_past : (a : ℕ) → a < n → Dec (a ≡ p) → s.entry p p ≤ s'.clock a
    in_past a h (yes e) = rw e (omega (arith, ac.clock-own, (iv.benches p hp).past))
    in_past a h (no ne) =
        omega (arith, ac.clock-else a h ne, en.enough a (flip (pair a h ne)), rises-le (s.messages a p) (s.heard p a) (iv.links a p (pair a h ne)).rises, (iv.links a p (pair a h ne)).sent)

    ahead_of : (a : ℕ) → a < n → a ≢ p → s.phase a ≢ idle → key (s.entry p p) p < key (s.entry a a) a
    ahead_of a h ne w = first-among n n8 s p iv en a (pair a h ne) ((iv.benches a h).busy w)

    in_waiting : (a : ℕ) → a < n → Dec (a ≡ p) → s'.phase a ≡ waiting → key (s.entry p p) p < key (s'.entry a a) a
    in_waiting a h (yes e) w = absurd (omega (arith, ac.phase-own, rw e at w))
    in_waiting a h (no ne) w = rw (ac.entry-else a h ne) (ahead_of a h ne (omega (arith, ac.phase-else a h ne)))

    in_holding : (a : ℕ) → a < n → Dec (a ≡ p) → s'.phase a ≡ holding → (a ≡ p) × (s'.entry a a ≡ s.entry p p)
    in_holding a h (yes e) w = (e, rw e ac.entry-own)
    in_holding a h (no ne) w = absurd (omega (arith, or.waiters p hp waits, ahead_of a h ne (omega (arith, held)), (or.holder a h held).0, (or.holder a h held).1))
      where
        held : s.phase a ≡ holding
        held = sym (ac.phase-else a h ne) ∙ w

    enters-order : Order n s' (record { stamp = s.entry p p; bench = p })
    enters-order =
        record {
          bench = omega arith;
          past = λ a h. in_past a h (ℕ_discrete a p);
          waiters = λ a h. in_waiting a h (ℕ_discrete a p);
          holder = λ a h. in_holding a h (ℕ_discrete a p);
        }

carries-order : (n : ℕ) (s s' : Table) (g : Grant) (p q : ℕ) (m : Message) (rest : List Message) → Carries n s s' p q m rest → Inv n s → Order n s g → Order n s' g
carries-order n s s' g p q m rest ca iv or =
    record {
      bench = or.bench;
      past = λ a h. omega (arith, or.past a h, up n s s' p q m rest ca iv a h);
      waiters = λ a h w. rw (ca.entry-self a h) (or.waiters a h (sym (ca.phase-all a h) ∙ w));
      holder = λ a h w. rw (ca.entry-self a h) (or.holder a h (sym (ca.phase-all a h) ∙ w));
    }

-- the last of a list of grants, g where there is none
abbrev pub last_of : Grant → List Grant → Grant
last_of g [] = g
last_of g (h ∷ gs) = last_of h gs

-- g, and then the grants, strictly rise
abbrev pub Climbs : Grant → List Grant → Type 0
Climbs g [] = Unit {0}
Climbs g (h ∷ gs) = ((key_of g < key_of h) × (h.bench < 8)) × Climbs h gs

pub move_order : (n : ℕ) → n ≤ 8 → (s s' : Table) {k : Step} → Moves n s s' k → Inv n s → (g : Grant) → Order n s g
    → Climbs g (granted s k) × Order n s' (last_of g (granted s k))
move_order n n8 s s' {k} (refuses d e) iv g or = rw (refused-grants s k d, e) (tt, or)
move_order n n8 s s' (asks {p} d h ph ac) iv g or =
    (tt, acts-order n s s' g p _ _ _ h ac or (λ e. omega (arith, or.past p h, or.bench)) (λ e. omega arith))
move_order n n8 s s' (carries {p} {q} d ca) iv g or = (tt, carries-order n s s' g p q _ _ ca iv or)
move_order n n8 s s' (enters {p} d h ph en ac) iv g or = rw d (((or.waiters p h ph, omega arith), tt), enters-order n n8 s s' g p h ph en ac iv or)
move_order n n8 s s' (leaves {p} d h ph ac) iv g or = (tt, acts-order n s s' g p _ _ _ h ac or (λ e. omega arith) (λ e. omega arith))
move_order n n8 s s' (marks {p} d h ac) iv g or = (tt, acts-order n s s' g p _ _ _ h ac or (or.waiters p h) (or.holder p h))
