-- The rules that speak of numbers alone: the order of stamps, the clocks, the entry rule, the queue.
use Rattle.std.specs.Prelude.{ℕ, ◌+◌, max, Bool, ◌&&◌, ◌||◌, ltb, eqb}
use Rattle.lamport.specs.Each.{every_other}
use Rattle.lamport.specs.declared.Kind.{Kind}
use Rattle.lamport.specs.declared.Kind.TheVariants.{Request, Ack, Release}
use Rattle.lamport.specs.declared.Message.{Message}

-- the largest clock
abbrev pub limit : ℕ
limit = 4294967295

-- ---- order of stamps

-- request (T, p) comes before (U, q) exactly if T < U, or T = U and p < q
abbrev pub before : ℕ → ℕ → ℕ → ℕ → Bool
before T p U q = ltb T U || (eqb T U && ltb p q)

-- ---- clocks: LC1 and LC2

-- LC1, of an event that is no receipt
abbrev pub lc1 : ℕ → ℕ
lc1 clock = clock + 1

-- LC2, of the receipt of a message with stamp t
abbrev pub lc2 : ℕ → ℕ → ℕ
lc2 clock t = max clock t + 1

-- a request's receipt is followed by a second event, its acknowledgement
abbrev pub acknowledged : Kind → ℕ → ℕ
acknowledged Request clock = lc1 clock
acknowledged Ack clock = clock
acknowledged Release clock = clock

-- the receiver's clock after the message m was carried to it
abbrev pub clock_after : ℕ → Message → ℕ
clock_after clock m = acknowledged m.kind (lc2 clock m.stamp)

-- ---- the queue

-- the receiver's entry for the sender, where it was e, after a message with stamp t
abbrev pub entry_after : Kind → ℕ → ℕ → ℕ
entry_after Request t e = t
entry_after Ack t e = e
entry_after Release t e = 0

-- ---- the entry rule: Lamport's fifth rule, for bench p of n, by its own queue and what it has heard

-- q has no entry, or p's own comes before it
abbrev pub ahead : ℕ → (ℕ → ℕ) → ℕ → Bool
ahead p queue q = eqb (queue q) 0 || before (queue p) p (queue q) q

-- (i) p's own entry comes before every other entry in p's queue
unfoldable pub own_first : ℕ → ℕ → (ℕ → ℕ) → Bool
own_first n p queue = every_other n p (ahead p queue)

-- what p has heard from q is strictly later than p's own stamp, whichever benches they are
unfoldable pub late_enough : ℕ → ℕ → ℕ → ℕ → Bool
late_enough p q own heard = ltb own heard

-- (ii) p has heard late enough from every other bench
unfoldable pub heard_all : ℕ → ℕ → ℕ → (ℕ → ℕ) → Bool
heard_all n p own heard = every_other n p (λ q. late_enough p q own (heard q))

unfoldable pub entry_rule : ℕ → ℕ → (ℕ → ℕ) → (ℕ → ℕ) → Bool
entry_rule n p queue heard = own_first n p queue && heard_all n p (queue p) heard
