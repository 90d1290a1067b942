-- Transit: the messages on a channel are those sent and not yet received, in the order of their sending.
use mathlib.Core.Path.{◌≡◌, refl, ap, ◌∙◌}
use mathlib.Core.Bool.{true, false, false≢true}
use mathlib.Core.List.{List, [], ◌∷◌, ◌++◌}
use Prim.Native.Nat.{ℕ, suc, ◌+◌, ◌<◌}
use native.Mathlib.Omega.{arith}
use lib.Dec.{eqb}
use lib.ListN.{length}
use Rattle.lamport.proofs.Each.{and_right}
use Rattle.causal.specs.Events.{Act, alone, tells, receives, acknowledges, Event, Stamped}
use Rattle.causal.specs.Happened.{goes_to, sending, comes_from, receipt, counted}
use Rattle.causal.proofs.Counting.{counted-yes, counted-no}

-- no event is both the sending of a message and the receipt of one
pub not-both : (n p q r t : ℕ) (e : Event) → sending n p q e ≡ true → receipt r t e ≡ true → ⊥
not-both n p q r t e s g = go e.act (and_right (eqb e.bench p) _ s) (and_right (eqb e.bench t) _ g)
  where
    go : (act : Act) → goes_to n p q act ≡ true → comes_from r act ≡ true → ⊥
    go alone x y = false≢true x
    go tells x y = false≢true y
    go (receives u) x y = false≢true x
    go (acknowledges u) x y = false≢true y

-- in a row of events: the event, its bench, its stamp
module _ (row : ℕ → Stamped) where
  abbrev pub ev : ℕ → Event
  ev i = (row i).event

  abbrev pub bench : ℕ → ℕ
  bench i = (row i).event.bench

  abbrev pub stamp : ℕ → ℕ → ℕ
  stamp i = (row i).counts

  -- how many messages from p to q are received before event m
  abbrev pub got_by : ℕ → ℕ → ℕ → ℕ
  got_by p q m = counted (receipt p q) ev m

-- of n benches
module _ (n : ℕ) (row : ℕ → Stamped) where
  -- and how many are sent
  abbrev pub sent_by : ℕ → ℕ → ℕ → ℕ
  sent_by p q m = counted (sending n p q) (ev row) m

  -- before event m message r from p to q was sent, and it brings the counts x
  pub record Sender (m p q r : ℕ) (x : ℕ → ℕ) : Type 0 where
    pub by : ℕ
    pub past : by < m
    pub sends : sending n p q (ev row by) ≡ true
    pub number : sent_by p q by ≡ r
    pub counts : (a : ℕ) → stamp row by a ≡ x a

  -- before event m the messages in transit from p to q are those from number r on
  abbrev pub Transit : ℕ → ℕ → ℕ → ℕ → List (ℕ → ℕ) → Type 0
  Transit m p q r [] = sent_by p q m ≡ r
  Transit m p q r (x ∷ xs) = Sender m p q r x × Transit m p q (suc r) xs

  module _ (m p q : ℕ) where
    pub transit-length : (xs : List (ℕ → ℕ)) (r : ℕ) → Transit m p q r xs → sent_by p q m ≡ r + length xs
    transit-length [] r t = omega arith
    transit-length (x ∷ xs) r t = omega (arith, transit-length xs (suc r) t.1)

    older : (r : ℕ) (x : ℕ → ℕ) → Sender m p q r x → Sender (suc m) p q r x
    older r x k = record { by = k.by; past = omega (arith, k.past); sends = k.sends; number = k.number; counts = k.counts }

    -- event m is no sending
    pub transit-quiet : sending n p q (ev row m) ≡ false → (xs : List (ℕ → ℕ)) (r : ℕ) → Transit m p q r xs → Transit (suc m) p q r xs
    transit-quiet e [] r t = counted-no (sending n p q) (ev row) m e ∙ t
    transit-quiet e (x ∷ xs) r t = (older r x t.0, transit-quiet e xs (suc r) t.1)

    -- event m is one
    pub transit-put : sending n p q (ev row m) ≡ true → (xs : List (ℕ → ℕ)) (r : ℕ) → Transit m p q r xs → Transit (suc m) p q r (xs ++ stamp row m ∷ [])
    transit-put e [] r t =
        (record { by = m; past = omega arith; sends = e; number = t; counts = λ a. refl }, counted-yes (sending n p q) (ev row) m e ∙ ap suc t)
    transit-put e (x ∷ xs) r t = (older r x t.0, transit-put e xs (suc r) t.1)
