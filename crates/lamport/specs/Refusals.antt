-- The numbers for no, each given exactly when; and the table after a step, done or refused.
use Rattle.std.specs.Prelude.{ℕ, ⊤, Result, Ok, Err, Bool, true, false, cond, not, ◌&&◌, ◌||◌, List, [], ◌∷◌, ltb, leb, eqb, length}
use Rattle.lamport.specs.Each.{some_other}
use Rattle.lamport.specs.Order.{limit, lc1, clock_after, entry_rule}
use Rattle.lamport.specs.Table.{Table}
use Rattle.lamport.specs.Steps.{actor, admitted, first, done}
use Rattle.lamport.specs.declared.Kind.{Kind}
use Rattle.lamport.specs.declared.Kind.TheVariants.{Request, Ack, Release}
use Rattle.lamport.specs.declared.Refusal.{Refusal}
use Rattle.lamport.specs.declared.Refusal.TheVariants.{Malformed, NoSuchBench, ToItself, NotAdmitted, NothingThere, NotYet, ChannelFull, ClockSpent, BadSizes, BadLine, NoRoom, TooLong}
use Rattle.lamport.specs.declared.Step.{Step}
use Rattle.lamport.specs.declared.Step.TheVariants.{Ask, Carry, Enter, Leave, Mark}

-- the number of each refusal; 9 to 12 are a run's
abbrev pub number : Refusal → ℕ
number Malformed = 1
number NoSuchBench = 2
number ToItself = 3
number NotAdmitted = 4
number NothingThere = 5
number NotYet = 6
number ChannelFull = 7
number ClockSpent = 8
number BadSizes = 9
number BadLine = 10
number NoRoom = 11
number TooLong = 12

-- an answer as a number: 0 is done
abbrev pub answer_number : Result ⊤ Refusal → ℕ
answer_number (Ok done) = 0
answer_number (Err refusal) = number refusal

-- (1, the table isn't well formed, is a matter of the words that a table stands in.)

-- 2: a bench number is n or more
abbrev pub outside : Table → Step → Bool
outside s (Ask p) = leb s.benches p
outside s (Carry p q) = leb s.benches p || leb s.benches q
outside s (Enter p) = leb s.benches p
outside s (Leave p) = leb s.benches p
outside s (Mark p) = leb s.benches p

-- 3: carry from a bench to itself
abbrev pub to_itself : Step → Bool
to_itself (Ask p) = false
to_itself (Carry p q) = eqb p q
to_itself (Enter p) = false
to_itself (Leave p) = false
to_itself (Mark p) = false

-- 4: the phase doesn't admit the step
abbrev pub not_admitted : Table → Step → Bool
not_admitted s k = not (admitted k (s.phase (actor k)))

-- 5: carry on an empty channel
abbrev pub nothing_there : Table → Step → Bool
nothing_there s (Ask p) = false
nothing_there s (Carry p q) = eqb (length (s.messages p q)) 0
nothing_there s (Enter p) = false
nothing_there s (Leave p) = false
nothing_there s (Mark p) = false

-- 6: enter, and the entry rule isn't met
abbrev pub may_enter : Table → ℕ → Bool
may_enter s p = entry_rule s.benches p (s.entry p) (s.heard p)

abbrev pub not_yet : Table → Step → Bool
not_yet s (Ask p) = false
not_yet s (Carry p q) = false
not_yet s (Enter p) = not (may_enter s p)
not_yet s (Leave p) = false
not_yet s (Mark p) = false

-- 7: a message must be sent on a channel already at capacity
abbrev pub full : Table → ℕ → ℕ → Bool
full s p q = leb s.capacity (length (s.messages p q))

unfoldable pub any_full : Table → ℕ → Bool
any_full s p = some_other s.benches p (full s p)

abbrev pub is_request : Kind → Bool
is_request Request = true
is_request Ack = false
is_request Release = false

abbrev pub no_room : Table → Step → Bool
no_room s (Ask p) = any_full s p
no_room s (Carry p q) = is_request (first (s.messages p q)).kind && full s q p
no_room s (Enter p) = false
no_room s (Leave p) = any_full s p
no_room s (Mark p) = false

-- 8: a clock would pass the limit, for a carried request after both advances
abbrev pub clock_then : Table → Step → ℕ
clock_then s (Ask p) = lc1 (s.clock p)
clock_then s (Carry p q) = clock_after (s.clock q) (first (s.messages p q))
clock_then s (Enter p) = lc1 (s.clock p)
clock_then s (Leave p) = lc1 (s.clock p)
clock_then s (Mark p) = lc1 (s.clock p)

abbrev pub clock_spent : Table → Step → Bool
clock_spent s k = ltb limit (clock_then s k)

-- in this order; the first that applies is given; 0 is done
unfoldable pub answer : Table → Step → ℕ
answer s k =
    cond (outside s k) 2
    (cond (to_itself k) 3
    (cond (not_admitted s k) 4
    (cond (nothing_there s k) 5
    (cond (not_yet s k) 6
    (cond (no_room s k) 7
    (cond (clock_spent s k) 8
    0))))))

-- a refusal returns the table given
unfoldable pub next : Table → Step → Table
next s k = cond (eqb (answer s k) 0) (done s k) s

-- the answers to a list of steps, and the table after it
abbrev pub answers : Table → List Step → List ℕ
answers s [] = []
answers s (k ∷ ks) = answer s k ∷ answers (next s k) ks

abbrev pub after : Table → List Step → Table
after s [] = s
after s (k ∷ ks) = after (next s k) ks
