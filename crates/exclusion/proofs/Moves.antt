-- Moves: every step of the rules is one of these, told by what it changes; each keeps the invariant.
use mathlib.Core.Path.{◌≡◌, refl}
use mathlib.Core.Logic.{◌≢◌}
use mathlib.Core.Bool.{Bool, true, false, ◌&&◌, ◌||◌}
use mathlib.Core.List.{List, [], ◌∷◌}
use Prim.Native.Nat.{ℕ, ◌+◌, ◌*◌, ◌≤◌, ◌<◌}
use native.Mathlib.Omega.{arith}
use native.Mathlib.Decide.{dec_lt}
use lib.Dec.{ltb, eqb}
use borrow.Author.Tests.{ltb-true, lt-ltb, eqb-true, eq-eqb}
use Rattle.lamport.specs.declared.Kind.TheVariants.{Request, Release}
use Rattle.lamport.specs.declared.Message.{Message}
use Rattle.lamport.specs.declared.Step.{Step}
use Rattle.lamport.specs.declared.Step.TheVariants.{Ask, Carry, Enter, Leave, Mark}
use Rattle.lamport.specs.Order.{lc1, before}
use Rattle.lamport.specs.Table.{Table, idle, waiting, holding}
use Rattle.lamport.specs.Steps.{first, rest}
use Rattle.lamport.proofs.Each.{and_left, and_right, or_in}
use Rattle.exclusion.specs.Demand.{is_done, granted}
use Rattle.exclusion.proofs.Effects.{Two, Acts, Carries}
use Rattle.exclusion.proofs.Invariant.{Inv, acts-inv, carries-inv}

-- ---- the order of stamps as one number, for benches below 8

abbrev pub key : ℕ → ℕ → ℕ
key T p = 8 * T + p

pub before→key : (T p U q : ℕ) → p < 8 → q < 8 → before T p U q ≡ true → key T p < key U q
before→key T p U q hp hq t = go (ltb T U) refl t
  where
    go : (c : Bool) → ltb T U ≡ c → (c || (eqb T U && ltb p q)) ≡ true → key T p < key U q
    go true e u = omega (arith, ltb-true T U e)
    go false e u = omega (arith, eqb-true T U (and_left (eqb T U) (ltb p q) u), ltb-true p q (and_right (eqb T U) (ltb p q) u))

pub key→before : (T p U q : ℕ) → p < 8 → q < 8 → key T p < key U q → before T p U q ≡ true
key→before T p U q hp hq h = go (dec_lt T U)
  where
    go : Dec (T < U) → before T p U q ≡ true
    go (yes l) = rw (lt-ltb T U l)
    go (no nl) =
        let e : T ≡ U = omega arith in
        let l : p < q = omega arith in
        or_in (ltb T U) _ (rw (eq-eqb T U e, lt-ltb p q l))

-- ---- moves

-- p meets the entry rule
pub record Entered (n : ℕ) (s : Table) (p : ℕ) : Type 0 where
  -- p's own request comes before every other in its queue
  pub ahead : (q : ℕ) → Two n p q → s.entry p q ≢ 0 → before (s.entry p p) p (s.entry p q) q ≡ true
  -- p has heard from every other bench a stamp not before its own
  pub enough : (q : ℕ) → Two n p q → s.entry p p ≤ s.heard p q

abbrev pub requests : ℕ → List Message
requests t = record { kind = Request; stamp = t } ∷ []

abbrev pub releases : ℕ → List Message
releases t = record { kind = Release; stamp = t } ∷ []

-- a step from s to s'
pub data Moves (n : ℕ) (s s' : Table) : Step → Type 0 where
  refuses : {k : Step} → is_done s k ≡ false → s' ≡ s → Moves n s s' k
  asks : {p : ℕ} → is_done s (Ask p) ≡ true → p < n → s.phase p ≡ idle
      → Acts n s s' p waiting (lc1 (s.clock p)) (requests (lc1 (s.clock p))) → Moves n s s' (Ask p)
  carries : {p q : ℕ} → is_done s (Carry p q) ≡ true
      → Carries n s s' p q (first (s.messages p q)) (rest (s.messages p q)) → Moves n s s' (Carry p q)
  enters : {p : ℕ} → is_done s (Enter p) ≡ true → p < n → s.phase p ≡ waiting → Entered n s p
      → Acts n s s' p holding (s.entry p p) [] → Moves n s s' (Enter p)
  leaves : {p : ℕ} → is_done s (Leave p) ≡ true → p < n → s.phase p ≡ holding
      → Acts n s s' p idle 0 (releases (lc1 (s.clock p))) → Moves n s s' (Leave p)
  marks : {p : ℕ} → is_done s (Mark p) ≡ true → p < n
      → Acts n s s' p (s.phase p) (s.entry p p) [] → Moves n s s' (Mark p)

-- a refused step grants nothing
pub refused-grants : (s : Table) (k : Step) → is_done s k ≡ false → granted s k ≡ []
refused-grants s (Ask p) e = refl
refused-grants s (Carry p q) e = refl
refused-grants s (Enter p) e = rw e
refused-grants s (Leave p) e = refl
refused-grants s (Mark p) e = refl

-- ---- each keeps the invariant

pub move_inv : (n : ℕ) (s s' : Table) {k : Step} → Moves n s s' k → Inv n s → Inv n s'
move_inv n s s' (refuses d e) iv = rw e iv
move_inv n s s' (asks {p} d h ph ac) iv =
    acts-inv n s s' p _ _ _ h ac iv
    (record { limited = ac.fits; past = omega arith; proper = omega arith; quiet = λ e. omega arith; busy = λ e. omega arith })
    refl (omega arith, tt) (omega arith)
move_inv n s s' (carries {p} {q} d ca) iv = carries-inv n s s' p q _ _ ca iv
move_inv n s s' (enters {p} d h ph en ac) iv =
    acts-inv n s s' p _ _ _ h ac iv
    (record { limited = ac.fits; past = omega (arith, (iv.benches p h).past); proper = omega arith; quiet = λ e. omega arith; busy = λ e. (iv.benches p h).busy (omega arith) })
    refl tt (omega arith)
move_inv n s s' (leaves {p} d h ph ac) iv =
    acts-inv n s s' p _ _ _ h ac iv
    (record { limited = ac.fits; past = omega arith; proper = omega arith; quiet = λ e. refl; busy = λ e. absurd (e refl) })
    refl (omega arith, tt) (omega arith)
move_inv n s s' (marks {p} d h ac) iv =
    acts-inv n s s' p _ _ _ h ac iv
    (record { limited = ac.fits; past = omega (arith, (iv.benches p h).past); proper = (iv.benches p h).proper; quiet = (iv.benches p h).quiet; busy = (iv.benches p h).busy })
    refl tt (omega arith)
