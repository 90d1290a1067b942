-- Run: the events of a list of steps, one turn after another.
use mathlib.Core.Path.{◌≡◌, refl, sym, ap, ◌∙◌}
use mathlib.Core.Logic.{◌≢◌}
use mathlib.Core.Bool.{Bool, true, false, cond}
use mathlib.Core.List.{List, [], ◌∷◌, ◌++◌}
use Prim.Native.Nat.{ℕ, suc, ◌+◌, ◌≤◌, ◌<◌}
use native.Mathlib.Omega.{arith}
use borrow.Author.Tests.{eqb-true, eqb-false, leb-false}
use lib.Dec.{leb, eqb}
use lib.ListN.{length}
use Rattle.lamport.specs.declared.Kind.{Kind}
use Rattle.lamport.specs.declared.Kind.TheVariants.{Request, Ack, Release}
use Rattle.lamport.specs.declared.Step.{Step}
use Rattle.lamport.specs.declared.Step.TheVariants.{Ask, Carry, Enter, Leave, Mark}
use Rattle.lamport.specs.Steps.{first, rest, sends}
use Rattle.lamport.specs.Refusals.{answer}
use Rattle.lamport.specs.Vectors.{vc1, first_counts}
use Rattle.lamport.specs.Counted.{Counted, counted_fresh, counted_done, count_spent, counted_answer, counted_next, counted_after}
use Rattle.lamport.proofs.Each.{or_false_right}
use Rattle.lamport.proofs.Granted.{Granted, granted, done-sizes}
use Rattle.causal.specs.Events.{tells, receives, acknowledges, Stamped, stamped, second, events_of, events}
use Rattle.causal.specs.Told.{event_at}
use Rattle.causal.proofs.Turn.{Turn}
use Rattle.causal.proofs.Causal.{Inv, turn-inv}
use Rattle.causal.proofs.Beside.{Beside, done-beside}
use Rattle.causal.proofs.Steps.{Counts, done-counts, alone-turn, tells-turn, counts_got, counts_carried, carried, received-turn, ack-turn, release-turn, acknowledged-turn}

-- ---- a row of events

-- from event m on these stand in it
abbrev Matches : (ℕ → Stamped) → ℕ → List Stamped → Type 0
Matches row m [] = Unit {0}
Matches row m (x ∷ xs) = (row m ≡ x) × Matches row (suc m) xs

-- the number after them
abbrev past : ℕ → List Stamped → ℕ
past m [] = m
past m (x ∷ xs) = past (suc m) xs

-- there are as many more as the list is long
past-length : (xs : List Stamped) (m : ℕ) → past m xs ≡ m + length xs
past-length [] m = omega arith
past-length (x ∷ xs) m = omega (arith, past-length xs (suc m))

past-append : (xs ys : List Stamped) (m : ℕ) → past m (xs ++ ys) ≡ past (past m xs) ys
past-append [] ys m = refl
past-append (x ∷ xs) ys m = past-append xs ys (suc m)

-- two lists, the one after the other
matches-append : (row : ℕ → Stamped) (xs ys : List Stamped) (m : ℕ) → Matches row m (xs ++ ys) → Matches row m xs × Matches row (past m xs) ys
matches-append row [] ys m h = (tt, h)
matches-append row (x ∷ xs) ys m h = let r = matches-append row xs ys (suc m) h.1 in ((h.0, r.0), r.1)

-- a row without its first event
matches-shift : (row : ℕ → Stamped) (xs : List Stamped) (m : ℕ) → Matches (λ i. row (suc i)) m xs → Matches row (suc m) xs
matches-shift row [] m h = tt
matches-shift row (x ∷ xs) m h = (h.0, matches-shift row xs (suc m) h.1)

-- the events of a list stand in the row that it is
matches-all : (xs : List Stamped) → Matches (event_at xs) 0 xs
matches-all [] = tt
matches-all (x ∷ xs) = (refl, matches-shift (event_at (x ∷ xs)) xs 0 (matches-all xs))

-- ---- what an answer of 0 says

-- no count stands in the way, nor any rule of the table
rules-answer : (s : Counted) (k : Step) → counted_answer s k ≡ 0 → answer s.table k ≡ 0
unfolding counted_answer
rules-answer s k = go (eqb (answer s.table k) 0) refl
  where
    go : (b : Bool) → eqb (answer s.table k) 0 ≡ b → cond b (cond (count_spent s k) 8 0) (answer s.table k) ≡ 0 → answer s.table k ≡ 0
    go true e z = eqb-true _ 0 e
    go false e z = z

-- a channel with messages has counts
has-first : (xs : List (ℕ → ℕ)) → length xs ≢ 0 → xs ≡ first_counts xs ∷ rest xs
has-first [] ne = absurd (ne refl)
has-first (x ∷ xs) ne = refl

-- no step changes how many benches there are
done-size : (s : Counted) (k : Step) → (counted_done s k).table.benches ≡ s.table.benches
unfolding counted_done
done-size s k = (done-sizes s.table k).0

-- ---- one step, and a list of them

-- in a row of so many events of n benches
module _ (n number : ℕ) (row : ℕ → Stamped) where
  -- s is the table before event m
  record Kept (m : ℕ) (s : Counted) : Type 0 where
    size : s.table.benches ≡ n
    beside : Beside s
    inv : Inv n number row m s

  -- one event keeps it, and so do two
  one-turn : {m : ℕ} {e : Stamped} {s s' : Counted} → past m (e ∷ []) ≤ number → Matches row m (e ∷ []) → Turn n e s s' → Inv n number row m s → Inv n number row (suc m) s'
  one-turn l h t iv = turn-inv n number row _ l _ _ (rw h.0 t) iv

  two-turns : {m : ℕ} {e f : Stamped} {s s' s'' : Counted} → past m (e ∷ f ∷ []) ≤ number → Matches row m (e ∷ f ∷ []) → Turn n e s s' → Turn n f s' s''
      → Inv n number row m s → Inv n number row (suc (suc m)) s''
  two-turns l h t u iv = one-turn l h.1 u (one-turn (omega arith) (h.0, tt) t iv)

  -- the events of a carried message of this kind
  abbrev carry_events : Counted → ℕ → ℕ → Kind → List Stamped
  carry_events s p q k = stamped q (receives p) (counts_got s p q) ∷ second k (stamped q (acknowledges p) (counts_carried s p q k))

  -- a carried message keeps it
  carried-inv : (s : Counted) (p q : ℕ) → q < n → p ≢ q → s.brought p q ≡ first_counts (s.brought p q) ∷ rest (s.brought p q) → (k : Kind) (m : ℕ)
      → past m (carry_events s p q k) ≤ number → Matches row m (carry_events s p q k) → Inv n number row m s
      → Inv n number row (past m (carry_events s p q k)) (carried s p q k)
  carried-inv s p q hq apart took Request m l h iv = two-turns l h (received-turn n s p q hq apart took) (acknowledged-turn n s p q hq apart took) iv
  carried-inv s p q hq apart took Ack m l h iv = one-turn l h (ack-turn n s p q hq apart took) iv
  carried-inv s p q hq apart took Release m l h iv = one-turn l h (release-turn n s p q hq apart took) iv

  -- the bench of a step that is done is one of n
  inside : (s : Counted) (p : ℕ) → s.table.benches ≡ n → leb s.table.benches p ≡ false → p < n
  inside s p size e = omega (arith, leb-false _ p e)

  -- a message to every other bench is a turn
  told : (s : Counted) (p : ℕ) → s.table.benches ≡ n → leb s.table.benches p ≡ false → (s' : Counted) → Counts s s' p (vc1 p (s.counts p))
      → ((a b : ℕ) → s'.brought a b ≡ sends s.table.benches s.brought p (vc1 p (s.counts p) ∷ []) a b) → Turn n (stamped p tells (vc1 p (s.counts p))) s s'
  told s p size e s' c sent =
      tells-turn n s s' p (s.counts p) (inside s p size e) (λ a. refl) c
      (λ a b. sent a b ∙ ap (λ (i : ℕ). sends i s.brought p (vc1 p (s.counts p) ∷ []) a b) size)

  -- each step that is done keeps it
  done-inv : (s : Counted) (k : Step) → Granted s.table k → (m : ℕ) → past m (events_of s k) ≤ number → Matches row m (events_of s k) → Kept m s
      → Inv n number row (past m (events_of s k)) (counted_done s k)
  unfolding counted_done
  done-inv s (Ask p) g m l h kept = one-turn l h (told s p kept.size g.inside (counted_done s (Ask p)) (done-counts s (Ask p)) (λ a b. refl)) kept.inv
  done-inv s (Leave p) g m l h kept = one-turn l h (told s p kept.size g.inside (counted_done s (Leave p)) (done-counts s (Leave p)) (λ a b. refl)) kept.inv
  done-inv s (Enter p) g m l h kept =
      one-turn l h (alone-turn n s (counted_done s (Enter p)) p (s.counts p) (inside s p kept.size g.inside) (λ a. refl) (done-counts s (Enter p)) (λ a b. refl)) kept.inv
  done-inv s (Mark p) g m l h kept =
      one-turn l h (alone-turn n s (counted_done s (Mark p)) p (s.counts p) (inside s p kept.size g.inside) (λ a. refl) (done-counts s (Mark p)) (λ a b. refl)) kept.inv
  done-inv s (Carry p q) g m l h kept =
      carried-inv s p q (inside s q kept.size (or_false_right (leb s.table.benches p) _ g.inside)) (eqb-false p q g.apart)
      (has-first (s.brought p q) (λ e. eqb-false _ 0 g.something (sym (kept.beside p q) ∙ e))) (first (s.table.messages p q)).kind m l h kept.inv

  -- and so each step
  next-kept : (s : Counted) (k : Step) (m : ℕ) → past m (cond (eqb (counted_answer s k) 0) (events_of s k) []) ≤ number
      → Matches row m (cond (eqb (counted_answer s k) 0) (events_of s k) []) → Kept m s
      → Kept (past m (cond (eqb (counted_answer s k) 0) (events_of s k) [])) (counted_next s k)
  unfolding counted_next
  next-kept s k m l h kept = go (eqb (counted_answer s k) 0) refl l h
    where
      go : (b : Bool) → eqb (counted_answer s k) 0 ≡ b → past m (cond b (events_of s k) []) ≤ number → Matches row m (cond b (events_of s k) [])
          → Kept (past m (cond b (events_of s k) [])) (cond b (counted_done s k) s)
      go true e l h =
          record {
            size = done-size s k ∙ kept.size;
            beside = done-beside s k kept.beside;
            inv = done-inv s k (granted s.table k (rules-answer s k (eqb-true _ 0 e))) m l h kept;
          }
      go false e l h = kept

  -- and each list of steps
  run-kept : (ks : List Step) (s : Counted) (m : ℕ) → past m (events s ks) ≤ number → Matches row m (events s ks) → Kept m s
      → Kept (past m (events s ks)) (counted_after s ks)
  run-kept [] s m l h kept = kept
  run-kept (k ∷ ks) s m l h kept =
      rw (past-append this later m)
      (run-kept ks (counted_next s k) (past m this) (rw (past-append this later m) at l) both.1
      (next-kept s k m (omega (arith, past-append this later m, past-length later (past m this))) both.0 kept))
    where
      this : List Stamped
      this = cond (eqb (counted_answer s k) 0) (events_of s k) []

      later : List Stamped
      later = events (counted_next s k) ks

      both : Matches row m this × Matches row (past m this) later
      both = matches-append row this later m h

  -- before the first event there is nothing to say
  fresh-kept : (capacity start : ℕ) → Kept 0 (counted_fresh n capacity start)
  fresh-kept capacity start =
      record {
        size = refl;
        beside = λ p q. refl;
        inv =
            record {
              there = λ i l. absurd (omega arith);
              bound = λ i l. absurd (omega arith);
              known = λ b a. omega arith;
              past = λ i l. absurd (omega arith);
              reach = λ b i l. absurd (omega arith);
              linked = λ i j l. absurd (omega arith);
              bench-rise = λ i j l k. absurd (omega arith);
              message-rise = λ i j l. absurd (omega arith);
              transit = λ p q. refl;
            };
      }

-- of the events of a list of steps from a fresh table
pub events-inv : (n capacity start : ℕ) (ks : List Step)
    → Inv n (length (events (counted_fresh n capacity start) ks)) (event_at (events (counted_fresh n capacity start) ks)) (length (events (counted_fresh n capacity start) ks))
    (counted_after (counted_fresh n capacity start) ks)
events-inv n capacity start ks =
    rw e at (run-kept n (length es) (event_at es) ks (counted_fresh n capacity start) 0 (omega (arith, e)) (matches-all es) (fresh-kept n (length es) (event_at es) capacity start)).inv
  where
    es : List Stamped
    es = events (counted_fresh n capacity start) ks

    e : past 0 es ≡ length es
    e = omega (arith, past-length es 0)
