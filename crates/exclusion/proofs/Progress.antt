-- Progress: the least of the requests that wait; and in a quiet table, where every queue has what the others have asked
-- and every acknowledgement has been heard, its bench meets the entry rule.
use mathlib.Core.Path.{◌≡◌, sym, ◌∙◌}
use mathlib.Core.Logic.{◌≢◌, ◌⊎◌, inl, inr}
use mathlib.Core.Bool.{true}
use Prim.Native.Nat.{ℕ, zero, suc, ◌≤◌, ◌<◌}
use native.Mathlib.Omega.{arith}
use native.Mathlib.Decide.{ℕ_discrete, dec_lt}
use lib.Dec.{ltb, eqb}
use borrow.Author.Tests.{eq-eqb, ne_eqb, lt-ltb, le-ltb, lt-leb}
use Rattle.lamport.specs.declared.Step.TheVariants.{Enter}
use Rattle.lamport.specs.Order.{limit, lc1, ahead, own_first, late_enough, heard_all, entry_rule}
use Rattle.lamport.specs.Table.{Table, idle, waiting, holding}
use Rattle.lamport.specs.Refusals.{may_enter, answer}
use Rattle.lamport.proofs.Each.{and_in, or_in, other-all}
use Rattle.exclusion.specs.Demand.{Quiet, ComesFirst, entering}
use Rattle.exclusion.proofs.Enough.{later-enough}
use Rattle.exclusion.proofs.Effects.{Two}
use Rattle.exclusion.proofs.Invariant.{Inv, flip}
use Rattle.exclusion.proofs.Moves.{key, key→before, before→key}

-- ---- the least request that waits

abbrev key_at : Table → ℕ → ℕ
key_at s p = key (s.entry p p) p

-- of the benches below n
record Least (n : ℕ) (s : Table) (p : ℕ) : Type 0 where
  below : p < n
  waits : s.phase p ≡ waiting
  least : (a : ℕ) → a < n → s.phase a ≡ waiting → key_at s p ≤ key_at s a

one_more : (P : ℕ → Type 0) (n : ℕ) → ((a : ℕ) → a < n → P a) → P n → (a : ℕ) → a < suc n → P a
one_more P n f last a h = go (dec_lt a n)
  where
    go : Dec (a < n) → P a
    go (yes l) = f a l
    go (no nl) = let e : a ≡ n = omega arith in rw e last

find : (n : ℕ) (s : Table) → ((a : ℕ) → a < n → s.phase a ≢ waiting) ⊎ ((p : ℕ) × Least n s p)
find zero s = inl (λ a h. omega arith)
find (suc n) s = go (find n s) (ℕ_discrete (s.phase n) waiting)
  where
    more : (p : ℕ) → ((a : ℕ) → a < n → s.phase a ≡ waiting → key_at s p ≤ key_at s a) → (s.phase n ≡ waiting → key_at s p ≤ key_at s n)
        → (a : ℕ) → a < suc n → s.phase a ≡ waiting → key_at s p ≤ key_at s a
    more p = one_more (λ a. s.phase a ≡ waiting → key_at s p ≤ key_at s a) n

    choose : (p : ℕ) → Least n s p → s.phase n ≡ waiting → Dec (key_at s n < key_at s p) → (p : ℕ) × Least (suc n) s p
    choose p e w (yes l) = (n, record { below = omega arith; waits = w; least = more n (λ a h v. omega (arith, e.least a h v)) (λ v. omega arith) })
    choose p e w (no nl) = (p, record { below = omega (arith, e.below); waits = e.waits; least = more p e.least (λ v. omega arith) })

    go : ((a : ℕ) → a < n → s.phase a ≢ waiting) ⊎ ((p : ℕ) × Least n s p) → Dec (s.phase n ≡ waiting)
        → ((a : ℕ) → a < suc n → s.phase a ≢ waiting) ⊎ ((p : ℕ) × Least (suc n) s p)
    go (inl f) (yes w) = inr (n, record { below = omega arith; waits = w; least = more n (λ a h v. absurd (f a h v)) (λ v. omega arith) })
    go (inl f) (no nw) = inl (one_more (λ a. s.phase a ≢ waiting) n f nw)
    go (inr (p, e)) (yes w) = inr (choose p e w (dec_lt (key_at s n) (key_at s p)))
    go (inr (p, e)) (no nw) = inr (p, record { below = omega (arith, e.below); waits = e.waits; least = more p e.least (λ v. absurd (nw v)) })

module _ (s : Table) (n8 : s.benches ≤ 8) where
  -- somebody waits: some waiting bench's stamp comes first
  pub some_first : (q : ℕ) → q < s.benches → s.phase q ≡ waiting → (p : ℕ) × ComesFirst s p
  some_first q hq w = go (find s.benches s)
    where
      go : ((a : ℕ) → a < s.benches → s.phase a ≢ waiting) ⊎ ((p : ℕ) × Least s.benches s p) → (p : ℕ) × ComesFirst s p
      go (inl f) = absurd (f q hq w)
      go (inr (p, e)) = (
        p,
        record {
          inside = e.below;
          waits = e.waits;
          ahead = λ a h ne v. key→before (s.entry p p) p (s.entry a a) a (omega (arith, e.below)) (omega arith) (omega (arith, e.below, e.least a h v));
        },
      )

  pub only_first : (p q : ℕ) → ComesFirst s p → ComesFirst s q → p ≡ q
  only_first p q e f = go (ℕ_discrete p q)
    where
      lower : (a b : ℕ) → ComesFirst s a → ComesFirst s b → a ≢ b → key_at s a < key_at s b
      lower a b x y ne =
          before→key (s.entry a a) a (s.entry b b) b (omega (arith, x.inside)) (omega (arith, y.inside)) (x.ahead b y.inside (λ d. ne (sym d)) y.waits)

      go : Dec (p ≡ q) → p ≡ q
      go (yes d) = d
      go (no ne) = absurd (omega (arith, lower p q e f ne, lower q p f e (λ d. ne (sym d))))

-- ---- a quiet table

module _ (s : Table) (iv : Inv s.benches s) (qu : Quiet s) where
  -- with the channel empty, an entry is the other's own
  same : (a b : ℕ) → Two s.benches a b → s.entry b a ≡ s.entry a a
  same a b t = rw (qu.empty a b t.left t.right t.apart) at (iv.links a b t).view

  heard-later : (p q : ℕ) → Two s.benches p q → s.phase p ≡ waiting → s.entry p p < s.heard p q
  heard-later p q t w =
      rw (qu.empty q p t.right t.left (flip t).apart) at ((iv.links p q t).acked ((iv.benches p t.left).busy (omega arith)) (same p q t))

  -- whoever has a request waits, since nobody holds
  asks-waits : (q : ℕ) → q < s.benches → s.entry q q ≢ 0 → s.phase q ≡ waiting
  asks-waits q h nz = one (s.phase q) (λ z. nz ((iv.benches q h).quiet z)) (qu.free q h) (iv.benches q h).proper
    where
      one : (x : ℕ) → x ≢ idle → x ≢ holding → x ≤ holding → x ≡ waiting
      one x a b c = omega arith

  module _ (p : ℕ) (e : ComesFirst s p) where
    two : (q : ℕ) → q < s.benches → q ≢ p → Two s.benches p q
    two q h ne = record { left = e.inside; right = h; apart = λ d. ne (sym d) }

    own_first_lem : (q : ℕ) → q < s.benches → q ≢ p → ahead p (s.entry p) q ≡ true
    own_first_lem q h ne = go (ℕ_discrete (s.entry p q) 0)
      where
        its : s.entry p q ≡ s.entry q q
        its = same q p (flip (two q h ne))

        go : Dec (s.entry p q ≡ 0) → ahead p (s.entry p) q ≡ true
        go (yes z) = rw (eq-eqb (s.entry p q) 0 z)
        go (no nz) = or_in (eqb (s.entry p q) 0) _ (rw its (e.ahead q h ne (asks-waits q h (λ z. nz (its ∙ z)))))

    let_through : may_enter s p ≡ true
    unfolding entry_rule own_first heard_all
    let_through =
        and_in _ _ (other-all p (ahead p (s.entry p)) s.benches own_first_lem)
        (other-all p (λ q. late_enough p q (s.entry p p) (s.heard p q)) s.benches
        (λ q h ne. later-enough p q (s.entry p p) (s.heard p q) (heard-later p q (two q h ne) e.waits)))

    -- one step more passes the limit exactly if the clock is at the limit
    spent : ltb limit (lc1 (s.clock p)) ≡ eqb (s.clock p) limit
    spent = go (ℕ_discrete (s.clock p) limit)
      where
        go : Dec (s.clock p ≡ limit) → ltb limit (lc1 (s.clock p)) ≡ eqb (s.clock p) limit
        go (yes d) = let l : limit < lc1 (s.clock p) = omega arith in rw (lt-ltb limit (lc1 (s.clock p)) l, eq-eqb (s.clock p) limit d)
        go (no nd) =
            let l : lc1 (s.clock p) ≤ limit = omega (arith, (iv.benches p e.inside).limited) in
            rw (le-ltb limit (lc1 (s.clock p)) l, ne_eqb (s.clock p) limit nd)

    pub enter-answer : answer s (Enter p) ≡ entering (s.clock p)
    unfolding answer
    enter-answer = rw (lt-leb s.benches p e.inside, eq-eqb (s.phase p) waiting e.waits, let_through, spent)
