-- Invariant: `Inv` has the invariant of each bench and of each ordered pair of benches. Every step that is done keeps it.
use mathlib.Core.Path.{◌≡◌, refl, sym, ◌∙◌}
use mathlib.Core.Logic.{◌≢◌}
use mathlib.Core.List.{List, ◌∷◌}
use Prim.Native.Nat.{ℕ, ◌≤◌, ◌<◌, max}
use native.Mathlib.Omega.{arith}
use native.Mathlib.Decide.{ℕ_discrete}
use Rattle.lamport.specs.declared.Kind.{Kind}
use Rattle.lamport.specs.declared.Kind.TheVariants.{Request, Ack, Release}
use Rattle.lamport.specs.declared.Message.{Message}
use Rattle.lamport.specs.Order.{limit, lc1, lc2, acknowledged, clock_after}
use Rattle.lamport.specs.Table.{Table, idle, holding}
use Rattle.lamport.specs.Steps.{replies}
use Rattle.exclusion.proofs.Streams.{deliver, Rises, latest, Link, grow, send, take, latest-append, rises-from, rises-le}
use Rattle.exclusion.proofs.Effects.{Two, Acts, Carries}
use Rattle.lamport.proofs.Readings.{Other}

-- The invariant of a bench: c is its clock, ph its phase, o its own entry.
pub record Bench (c ph o : ℕ) : Type 0 where
  -- the clock is within the limit, the phase one of three
  pub limited : c ≤ limit
  pub proper : ph ≤ holding
  -- a request is not stamped later than the clock
  pub past : o ≤ c
  -- a bench has a request of its own exactly if it is not idle
  pub quiet : ph ≡ idle → o ≡ 0
  pub busy : ph ≢ idle → o ≢ 0

abbrev pub LinkAt : Table → ℕ → ℕ → Type 0
LinkAt s a b = Link (s.heard b a) (s.entry b a) (s.messages a b) (s.entry a a) (s.clock a) (s.clock b) (latest (s.heard a b) (s.messages b a))

abbrev pub BenchAt : Table → ℕ → Type 0
BenchAt s a = Bench (s.clock a) (s.phase a) (s.entry a a)

-- of a table of n benches
pub record Inv (n : ℕ) (s : Table) : Type 0 where
  pub size : s.benches ≡ n
  pub benches : (a : ℕ) → a < n → BenchAt s a
  pub links : (a b : ℕ) → Two n a b → LinkAt s a b

pub flip : {n a b : ℕ} → Two n a b → Two n b a
flip t = record { left = t.right; right = t.left; apart = λ e. t.apart (sym e) }

-- ---- a bench acts by itself

module _
    (n : ℕ) (s s' : Table) (p ph o : ℕ) (out : List Message) (hp : p < n) (ac : Acts n s s' p ph o out) (iv : Inv n s)
    (bench : Bench (lc1 (s.clock p)) ph o) (own : o ≡ deliver out (s.entry p p)) (rises : Rises (s.clock p) out) (last : latest (s.clock p) out ≤ lc1 (s.clock p))
  where
    bench-at : (a : ℕ) → a < n → Dec (a ≡ p) → BenchAt s' a
    bench-at a h (yes e) = rw (e, ac.clock-own, ac.phase-own, ac.entry-own) bench
    bench-at a h (no ne) = rw (ac.clock-else a h ne, ac.phase-else a h ne, ac.entry-else a h ne) (iv.benches a h)

    from-p : (b : ℕ) → Two n p b → LinkAt s' p b
    from-p b t =
        send out _ _ _ _ _ _ _ (iv.links p b t) (ac.heard-cross b p (flip t)) (ac.entry-cross b p (flip t)) (ac.chan-own b t) (ac.entry-own ∙ own) rises
        (omega (arith, ac.clock-own, last)) (omega (arith, ac.clock-else b t.right (flip t).apart))
        (rw (ac.heard-cross p b t, ac.chan-else b p (flip t) (flip t).apart) (omega arith))

    to-p : (a : ℕ) → Two n a p → LinkAt s' a p
    to-p a t =
        grow _ _ _ _ _ _ _ (iv.links a p t) (ac.heard-cross p a (flip t)) (ac.entry-cross p a (flip t)) (ac.chan-else a p t t.apart) (ac.entry-else a t.left t.apart)
        (omega (arith, ac.clock-else a t.left t.apart)) (omega (arith, ac.clock-own))
        (rw (ac.heard-cross a p t, ac.chan-own a (flip t), latest-append) (rises-le out _ (rises-from out _ (s.clock p) (iv.links p a (flip t)).sent rises)))

    away : (a b : ℕ) → Two n a b → a ≢ p → b ≢ p → LinkAt s' a b
    away a b t na nb =
        grow _ _ _ _ _ _ _ (iv.links a b t) (ac.heard-cross b a (flip t)) (ac.entry-cross b a (flip t)) (ac.chan-else a b t na) (ac.entry-else a t.left na)
        (omega (arith, ac.clock-else a t.left na)) (omega (arith, ac.clock-else b t.right nb))
        (rw (ac.heard-cross a b t, ac.chan-else b a (flip t) nb) (omega arith))

    link_at : (a b : ℕ) → Two n a b → Dec (a ≡ p) → Dec (b ≡ p) → LinkAt s' a b
    link_at a b t (yes e) (yes f) = absurd (t.apart (e ∙ sym f))
    link_at a b t (yes e) (no nf) = rw e (from-p b (rw e at t))
    link_at a b t (no ne) (yes f) = rw f (to-p a (rw f at t))
    link_at a b t (no ne) (no nf) = away a b t ne nf

    pub acts-inv : Inv n s'
    acts-inv = record { size = ac.size ∙ iv.size; benches = λ a h. bench-at a h (ℕ_discrete a p); links = λ a b t. link_at a b t (ℕ_discrete a p) (ℕ_discrete b p) }

-- ---- a message is carried

reply-rises : (k : Kind) (c d : ℕ) → c < d → Rises c (replies k d)
reply-rises Request c d h = (h, tt)
reply-rises Ack c d h = tt
reply-rises Release c d h = tt

reply-last : (k : Kind) (c d : ℕ) → c < d → latest c (replies k d) ≤ d
reply-last Request c d h = omega arith
reply-last Ack c d h = omega arith
reply-last Release c d h = omega arith

reply-none : (k : Kind) (d e : ℕ) → deliver (replies k d) e ≡ e
reply-none Request d e = refl
reply-none Ack d e = refl
reply-none Release d e = refl

-- a receipt moves the clock by LC2 at least
pub receipt_moves : (c : ℕ) (m : Message) → lc2 c m.stamp ≤ clock_after c m
receipt_moves c m = go m.kind
  where
    go : (k : Kind) → lc2 c m.stamp ≤ acknowledged k (lc2 c m.stamp)
    go Request = omega arith
    go Ack = omega arith
    go Release = omega arith

module _
    (n : ℕ) (s s' : Table) (p q : ℕ) (m : Message) (rest : List Message) (ca : Carries n s s' p q m rest) (iv : Inv n s)
  where
    later : s.clock q < s'.clock q
    later = omega (arith, ca.clock-own, receipt_moves (s.clock q) m)

    later-stamp : m.stamp < s'.clock q
    later-stamp = omega (arith, ca.clock-own, receipt_moves (s.clock q) m)

    clock-fits : (a : ℕ) → a < n → Dec (a ≡ q) → s'.clock a ≤ limit
    clock-fits a h (yes e) = rw e ca.fits
    clock-fits a h (no ne) = omega (arith, ca.clock-else a h ne, (iv.benches a h).limited)

    clock-up : (a : ℕ) → a < n → Dec (a ≡ q) → s.clock a ≤ s'.clock a
    clock-up a h (yes e) = rw e (omega (arith, later))
    clock-up a h (no ne) = omega (arith, ca.clock-else a h ne)

    pub up : (a : ℕ) → a < n → s.clock a ≤ s'.clock a
    up a h = clock-up a h (ℕ_discrete a q)

    back : Two n q p
    back = flip ca.two

    apart' : Other p q q p
    apart' e = ca.two.apart e.0

    reply : List Message
    reply = replies m.kind (s'.clock q)

    sent-q : latest (s.heard p q) (s.messages q p) < s'.clock q
    sent-q = omega (arith, (iv.links q p back).sent, later)

    replied-last : (k : Kind) → k ≡ Request → latest (latest (s.heard p q) (s.messages q p)) (replies k (s'.clock q)) ≡ s'.clock q
    replied-last k e = rw e

    carried : LinkAt s' p q
    unfolding reply
    carried =
        take m _ _ _ _ _ _ _ (iv.links p q ca.two) (rw ca.left ca.took) ca.heard-own ca.entry-own (ca.entry-self p ca.two.left) (up p ca.two.left)
        (omega (arith, later-stamp))
        (rw (ca.heard-else p q ca.two apart', ca.replied, latest-append)
        (rises-le reply _ (reply-rises m.kind _ _ sent-q)))
        (λ e. rw (ca.heard-else p q ca.two apart', ca.replied, latest-append, replied-last m.kind e) later-stamp)

    answered : LinkAt s' q p
    unfolding reply
    answered =
        send reply _ _ _ _ _ _ _ (iv.links q p back) (ca.heard-else p q ca.two apart') (ca.entry-else p q ca.two apart') ca.replied
        (ca.entry-self q ca.two.right ∙ sym (reply-none m.kind (s'.clock q) (s.entry q q)))
        (reply-rises m.kind _ _ later) (reply-last m.kind _ _ later) (up p ca.two.left)
        (rw (ca.heard-own, ca.left, ca.took, heard-stamp) (omega arith))
      where
        rs : Rises (s.heard q p) (m ∷ rest)
        rs = rw ca.took at (iv.links p q ca.two).rises

        heard-stamp : max (s.heard q p) m.stamp ≡ m.stamp
        heard-stamp = omega (arith, rs.0)

    beside : (a b : ℕ) → Two n a b → Other a b p q → Other a b q p → LinkAt s' a b
    beside a b t x y =
        grow _ _ _ _ _ _ _ (iv.links a b t) (ca.heard-else b a (flip t) (λ e. x (e.1, e.0))) (ca.entry-else b a (flip t) (λ e. x (e.1, e.0)))
        (ca.chan-else a b t x y) (ca.entry-self a t.left) (up a t.left) (up b t.right)
        (rw (ca.heard-else a b t y, ca.chan-else b a (flip t) (λ e. y (e.1, e.0)) (λ e. x (e.1, e.0))) (omega arith))

    side : (a b : ℕ) → Two n a b → Dec (a ≡ p) → Dec (b ≡ q) → Dec (a ≡ q) → Dec (b ≡ p) → LinkAt s' a b
    side a b t (yes e) (yes f) i j = rw (e, f) carried
    side a b t (yes e) (no f) (yes i) j = absurd (ca.two.apart (sym e ∙ i))
    side a b t (yes e) (no f) (no i) j = beside a b t (λ x. f x.1) (λ x. i x.0)
    side a b t (no e) f (yes i) (yes j) = rw (i, j) answered
    side a b t (no e) f (yes i) (no j) = beside a b t (λ x. e x.0) (λ x. j x.1)
    side a b t (no e) f (no i) j = beside a b t (λ x. e x.0) (λ x. i x.0)

    bench-up : (a : ℕ) → a < n → BenchAt s' a
    bench-up a h = rw (ca.phase-all a h, ca.entry-self a h) record { limited = clock-fits a h (ℕ_discrete a q); past = omega (arith, (iv.benches a h).past, up a h); proper = (iv.benches a h).proper; quiet = (iv.benches a h).quiet; busy = (iv.benches a h).busy }

    pub carries-inv : Inv n s'
    carries-inv = record { size = ca.size ∙ iv.size; benches = bench-up; links = λ a b t. side a b t (ℕ_discrete a p) (ℕ_discrete b q) (ℕ_discrete a q) (ℕ_discrete b p) }
