-- What a line of the listing says of a step.
use Rattle.std.specs.Prelude.{ℕ, zero, suc, ◌+◌, Bool, cond, not, ◌&&◌, eqb, Option, Some, None}
use Rattle.std.specs.Option.{option_or}
use Rattle.lamport.specs.Each.{count_below}
use Rattle.lamport.specs.Order.{before}
use Rattle.lamport.specs.Table.{Table, waiting, holding}
use Rattle.lamport.specs.Steps.{actor}
use Rattle.lamport.specs.declared.Step.{Step}
use Rattle.listing.specs.declared.Record.{Record}

-- q has an entry in p's own queue, and it comes before p's own
abbrev pub earlier : Table → ℕ → ℕ → Bool
earlier s p q = not (eqb (s.entry p q) 0) && before (s.entry p q) q (s.entry p p) p

-- one plus the number of entries in p's own queue before its own
unfoldable pub place_of : Table → ℕ → ℕ
place_of s p = 1 + count_below (earlier s p) s.benches

-- place is for a waiting bench; else `-`
unfoldable pub place_cell : Table → ℕ → Option ℕ
place_cell s p = cond (eqb (s.phase p) waiting) (Some (place_of s p)) None

-- holder is the lowest bench with phase 2, else `-`
unfoldable pub holder_below : Table → ℕ → Option ℕ
holder_below s zero = None
holder_below s (suc n) = option_or (holder_below s n) (cond (eqb (s.phase n) holding) (Some n) None)

abbrev pub holder_cell : Table → Option ℕ
holder_cell s = holder_below s s.benches

-- with answer 2 the bench, clock, phase and place are `-`
abbrev pub unless_two : ℕ → Option ℕ → Option ℕ
unless_two answer c = cond (eqb answer 2) None c

-- the k-th step x was answered so, and s is the table after it: bench is for carry the receiver
unfoldable pub record_of : ℕ → ℕ → Step → Table → Record
record_of k answer x s =
    record {
      step = k;
      answer = answer;
      bench = unless_two answer (Some (actor x));
      clock = unless_two answer (Some (s.clock (actor x)));
      phase = unless_two answer (Some (s.phase (actor x)));
      place = unless_two answer (place_cell s (actor x));
      holder = holder_cell s;
    }
