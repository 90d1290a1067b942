-- The table of benches, by what is read in it.
use Rattle.std.specs.Prelude.{ℕ, Bool, cond, ◌&&◌, List, [], ltb, leb}
use Rattle.lamport.specs.declared.Message.{Message}
use Rattle.lamport.specs.declared.Phase.{Phase}
use Rattle.lamport.specs.declared.Phase.TheVariants.{Idle, Waiting, Holding}

pub record Table : Type 0 where
  -- n, and how many messages a channel takes
  pub benches : ℕ
  pub capacity : ℕ
  -- of bench p
  pub clock : ℕ → ℕ
  pub phase : ℕ → ℕ
  -- in p's own queue the stamp of q's request, 0 for none
  pub entry : ℕ → ℕ → ℕ
  -- the largest stamp that p has heard from q, 0 for none
  pub heard : ℕ → ℕ → ℕ
  -- on the channel from p to q, the oldest first
  pub messages : ℕ → ℕ → List Message

-- the phases
abbrev pub idle : ℕ
idle = 0

abbrev pub waiting : ℕ
waiting = 1

abbrev pub holding : ℕ
holding = 2

abbrev pub phase_number : Phase → ℕ
phase_number Idle = idle
phase_number Waiting = waiting
phase_number Holding = holding

-- so many benches there are at most, and so many messages on a channel
abbrev pub most_benches : ℕ
most_benches = 8

abbrev pub most_messages : ℕ
most_messages = 16

abbrev pub within : ℕ → ℕ → ℕ → Bool
within least x most = leb least x && leb x most

-- 1 to 8 benches, a capacity of 1 to 16 messages
abbrev pub sizes_ok : ℕ → ℕ → Bool
sizes_ok n capacity = within 1 n most_benches && within 1 capacity most_messages

-- the answer to sizes: 0, or 9 for bad ones
abbrev pub sizes_answer : ℕ → ℕ → ℕ
sizes_answer n capacity = cond (sizes_ok n capacity) 0 9

-- fresh: start clocks, all idle, everything else empty
abbrev pub fresh : ℕ → ℕ → ℕ → Table
fresh n capacity start =
    record {
      benches = n;
      capacity = capacity;
      clock = λ p. cond (ltb p n) start 0;
      phase = λ p. idle;
      entry = λ p q. 0;
      heard = λ p q. 0;
      messages = λ p q. [];
    }
