-- Demand3, of the rules: what holds over every list of steps from a fresh table, refused steps included.
-- `after s₀ ks` is the table after the steps ks, `answer` a step's answer (0: done), `next` the table after one step.
use Rattle.std.specs.Prelude.{◌≡◌, ◌≢◌, ◌↔◌, Bool, true, false, cond, ◌&&◌, List, [], ◌∷◌, ◌++◌, ℕ, ◌+◌, ◌≤◌, ◌<◌, eqb}
use Rattle.lamport.specs.Order.{limit, before}
use Rattle.lamport.specs.Table.{Table, waiting, holding, sizes_ok, fresh}
use Rattle.lamport.specs.Steps.{first}
use Rattle.lamport.specs.Refusals.{is_request, answer, next, after}
use Rattle.lamport.specs.declared.Step.{Step}
use Rattle.lamport.specs.declared.Step.TheVariants.{Ask, Carry, Enter, Leave, Mark}

-- the step is answered 0
abbrev pub is_done : Table → Step → Bool
is_done s k = eqb (answer s k) 0

-- ---- the requests granted

-- a request that was granted
pub record Grant : Type 0 where
  pub stamp : ℕ
  pub bench : ℕ

-- g comes before h in the order of stamps
abbrev pub Earlier : Grant → Grant → Type 0
Earlier g h = before g.stamp g.bench h.stamp h.bench ≡ true

-- the request that a step grants: an `enter` that is done grants the bench's own entry
abbrev pub granted : Table → Step → List Grant
granted s (Ask p) = []
granted s (Carry p q) = []
granted s (Enter p) = cond (is_done s (Enter p)) (record { stamp = s.entry p p; bench = p } ∷ []) []
granted s (Leave p) = []
granted s (Mark p) = []

-- the requests granted by a list of steps, in their order
abbrev pub grants : Table → List Step → List Grant
grants s [] = []
grants s (k ∷ ks) = granted s k ++ grants (next s k) ks

-- how often bench q is granted
abbrev pub count : ℕ → List Grant → ℕ
count q [] = 0
count q (g ∷ gs) = cond (eqb g.bench q) 1 0 + count q gs

-- every request of the list is P
abbrev pub Each : (Grant → Type 0) → List Grant → Type 0
Each P [] = Unit {0}
Each P (g ∷ gs) = P g × Each P gs

-- each request granted comes before all that are granted after it
abbrev pub Rising : List Grant → Type 0
Rising [] = Unit {0}
Rising (g ∷ gs) = Each (Earlier g) gs × Rising gs

-- ---- requests sent and taken, counted in the steps

-- by this step p sends its request, a copy to every other bench
abbrev pub request_sent : ℕ → Table → Step → Bool
request_sent p s (Ask a) = eqb a p && is_done s (Ask a)
request_sent p s (Carry a b) = false
request_sent p s (Enter a) = false
request_sent p s (Leave a) = false
request_sent p s (Mark a) = false

-- by this step q takes a request of p: the oldest message from p is one
abbrev pub request_taken : ℕ → ℕ → Table → Step → Bool
request_taken p q s (Ask a) = false
request_taken p q s (Carry a b) = eqb a p && (eqb b q && (is_request (first (s.messages a b)).kind && is_done s (Carry a b)))
request_taken p q s (Enter a) = false
request_taken p q s (Leave a) = false
request_taken p q s (Mark a) = false

-- how many of the steps pass the test, each on the table before it
abbrev pub counted : (Table → Step → Bool) → Table → List Step → ℕ
counted test s [] = 0
counted test s (k ∷ ks) = cond (test s k) 1 0 + counted test (next s k) ks

-- requests that p has sent to each other bench; requests of p that q has taken
abbrev pub sent : Table → List Step → ℕ → ℕ
sent s ks p = counted (request_sent p) s ks

abbrev pub taken : Table → List Step → ℕ → ℕ → ℕ
taken s ks p q = counted (request_taken p q) s ks

-- after ks: q has taken every request that p has sent; q has taken all but one
abbrev pub Reached : Table → List Step → ℕ → ℕ → Type 0
Reached s ks p q = taken s ks p q ≡ sent s ks p

abbrev pub LacksOne : Table → List Step → ℕ → ℕ → Type 0
LacksOne s ks p q = taken s ks p q + 1 ≡ sent s ks p

-- bench p waits, and its request has the stamp T
pub record Waits (s : Table) (p T : ℕ) : Type 0 where
  pub phase : s.phase p ≡ waiting
  pub stamp : s.entry p p ≡ T

-- after ks, bench p waits with its request (T, p), which has been carried to all others
pub record Carried (s₀ : Table) (ks : List Step) (p T : ℕ) : Type 0 where
  pub waits : Waits (after s₀ ks) p T
  pub reached : (q : ℕ) → q < s₀.benches → q ≢ p → Reached s₀ ks p q

-- after ks, by the step k another bench takes the last copy: it lacks one, and no other bench lacks any
pub record LastCopy (s₀ : Table) (ks : List Step) (k : Step) (p : ℕ) : Type 0 where
  pub taker : ℕ
  pub inside : taker < s₀.benches
  pub other : taker ≢ p
  pub takes : request_taken p taker (after s₀ ks) k ≡ true
  pub lacks : LacksOne s₀ ks p taker
  pub reached : (r : ℕ) → r < s₀.benches → r ≢ p → r ≢ taker → Reached s₀ ks p r

-- while a request that has been carried to all others waits, each other bench is granted at most this often
abbrev pub overtakings : ℕ
overtakings = 1

-- ---- when nothing is under way

-- no message is in transit, nobody holds and somebody waits
pub record Quiet (s : Table) : Type 0 where
  pub empty : (p q : ℕ) → p < s.benches → q < s.benches → p ≢ q → s.messages p q ≡ []
  pub free : (p : ℕ) → p < s.benches → s.phase p ≢ holding
  pub waiter : ℕ
  pub inside : waiter < s.benches
  pub waits : s.phase waiter ≡ waiting

-- bench p waits, and its stamp comes first of all that wait
pub record ComesFirst (s : Table) (p : ℕ) : Type 0 where
  pub inside : p < s.benches
  pub waits : s.phase p ≡ waiting
  pub ahead : (q : ℕ) → q < s.benches → q ≢ p → s.phase q ≡ waiting → before (s.entry p p) p (s.entry q q) q ≡ true

-- the answer to its `enter`, by its clock: 8 if that is spent, else 0
abbrev pub entering : ℕ → ℕ
entering clock = cond (eqb clock limit) 8 0

-- ---- the demand, over every list of steps ks from the table s₀

pub record Demand3 (s₀ : Table) : Type 0 where
  -- 1: after every list of steps at most one bench holds
  pub exclusion : (ks : List Step) (p q : ℕ) → p < s₀.benches → q < s₀.benches
      → (after s₀ ks).phase p ≡ holding → (after s₀ ks).phase q ≡ holding → p ≡ q
  -- 2: the requests granted strictly rise in the order of stamps, ties by bench number
  pub order : (ks : List Step) → Rising (grants s₀ ks)
  -- 3: when a bench asks, no other bench has taken its request;
  pub asking : (ks : List Step) (p q : ℕ) → p < s₀.benches → q < s₀.benches → q ≢ p → answer (after s₀ ks) (Ask p) ≡ 0
      → taken s₀ (ks ++ Ask p ∷ []) p q < sent s₀ (ks ++ Ask p ∷ []) p
  -- the request of a waiting bench becomes carried to all others exactly with the step that takes the last copy;
  pub last_copy : (ks : List Step) (k : Step) (p T : ℕ) → p < s₀.benches → Waits (after s₀ ks) p T
      → (¬ Carried s₀ ks p T × Carried s₀ (ks ++ k ∷ []) p T) ↔ LastCopy s₀ ks k p
  -- from any point where it is carried to all others, in any further steps ls in which p is not granted,
  -- each other bench is granted at most once, and on a stamp that comes before (T, p)
  pub overtaking : (ks : List Step) (p T : ℕ) → p < s₀.benches → Carried s₀ ks p T
      → (ls : List Step) → count p (grants (after s₀ ks) ls) ≡ 0
      → ((q : ℕ) → q < s₀.benches → q ≢ p → count q (grants (after s₀ ks) ls) ≤ overtakings)
      × Each (λ g. Earlier g (record { stamp = T; bench = p })) (grants (after s₀ ks) ls)
  -- 4: when no message is in transit, nobody holds and somebody waits, there is a waiting bench whose stamp comes first,
  pub somebody : (ks : List Step) → Quiet (after s₀ ks) → (p : ℕ) × ComesFirst (after s₀ ks) p
  -- and no other
  pub nobody_else : (ks : List Step) (p q : ℕ) → ComesFirst (after s₀ ks) p → ComesFirst (after s₀ ks) q → p ≡ q
  -- its `enter` is answered 0, or 8 exactly if its clock is spent;
  pub let_in : (ks : List Step) (p : ℕ) → Quiet (after s₀ ks) → ComesFirst (after s₀ ks) p
      → answer (after s₀ ks) (Enter p) ≡ entering ((after s₀ ks).clock p)
  -- answered 0, it holds
  pub holds : (ks : List Step) (p : ℕ) → answer (after s₀ ks) (Enter p) ≡ 0 → (next (after s₀ ks) (Enter p)).phase p ≡ holding

-- of every table that is fresh
abbrev pub Demanded : Type 0
Demanded = (n capacity start : ℕ) → sizes_ok n capacity ≡ true → start ≤ limit → Demand3 (fresh n capacity start)
