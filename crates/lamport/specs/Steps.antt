-- The five steps: the table after each, when it is done.
use Rattle.std.specs.Prelude.{ℕ, max, Bool, cond, not, ◌&&◌, List, [], ◌∷◌, ◌++◌, ltb, leb, eqb}
use Rattle.lamport.specs.Order.{lc1, clock_after, entry_after}
use Rattle.lamport.specs.Table.{Table, idle, waiting, holding}
use Rattle.lamport.specs.declared.Kind.{Kind}
use Rattle.lamport.specs.declared.Kind.TheVariants.{Request, Ack, Release}
use Rattle.lamport.specs.declared.Message.{Message}
use Rattle.lamport.specs.declared.Step.{Step}
use Rattle.lamport.specs.declared.Step.TheVariants.{Ask, Carry, Enter, Leave, Mark}

-- the bench that a step is an event of: of a carry the receiver
abbrev pub actor : Step → ℕ
actor (Ask p) = p
actor (Carry p q) = q
actor (Enter p) = p
actor (Leave p) = p
actor (Mark p) = p

-- the rows of the grid, in the order of the five
abbrev pub row_of : Step → ℕ
row_of (Ask p) = 0
row_of (Carry p q) = 1
row_of (Enter p) = 2
row_of (Leave p) = 3
row_of (Mark p) = 4

-- the grid of five steps by three phases: which phase admits which step
abbrev pub admitted : Step → ℕ → Bool
admitted (Ask p) phase = eqb phase idle
admitted (Carry p q) phase = leb phase holding
admitted (Enter p) phase = eqb phase waiting
admitted (Leave p) phase = eqb phase holding
admitted (Mark p) phase = leb phase holding

-- a channel's oldest message, and those behind it; where there is none, what an unused slot has
abbrev pub first : List Message → Message
first [] = record { kind = Request; stamp = 0 }
first (m ∷ ms) = m

abbrev pub rest : {A : Type 0} → List A → List A
rest [] = []
rest (m ∷ ms) = ms

-- a reading that is v at p, and at the pair p q, and elsewhere as it was
abbrev pub at1 : (ℕ → ℕ) → ℕ → ℕ → ℕ → ℕ
at1 f p v a = cond (eqb a p) v (f a)

abbrev pub at2 : {A : Type 0} → (ℕ → ℕ → A) → ℕ → ℕ → A → ℕ → ℕ → A
at2 f p q v a b = cond (eqb a p && eqb b q) v (f a b)

-- the messages `out` join p's channels to every other bench of n
abbrev pub sends : {A : Type 0} → ℕ → (ℕ → ℕ → List A) → ℕ → List A → ℕ → ℕ → List A
sends n channels p out a b = cond (eqb a p && (not (eqb b p) && ltb b n)) (channels a b ++ out) (channels a b)

-- bench p acts by itself: LC1, its phase and its own entry as given, and `out` sent to every other bench
unfoldable pub acts : Table → ℕ → ℕ → ℕ → List Message → Table
acts s p phase own out =
    record {
      benches = s.benches;
      capacity = s.capacity;
      clock = at1 s.clock p (lc1 (s.clock p));
      phase = at1 s.phase p phase;
      entry = at2 s.entry p p own;
      heard = s.heard;
      messages = sends s.benches s.messages p out;
    }

-- a request is acknowledged, with the receiver's clock after both events
abbrev pub replies : Kind → ℕ → List Message
replies Request clock = record { kind = Ack; stamp = clock } ∷ []
replies Ack clock = []
replies Release clock = []

-- bench q takes m, the oldest message from p, behind which `left` stays on the channel
unfoldable pub takes : Table → ℕ → ℕ → Message → List Message → Table
takes s p q m left =
    record {
      benches = s.benches;
      capacity = s.capacity;
      clock = at1 s.clock q (clock_after (s.clock q) m);
      phase = s.phase;
      entry = at2 s.entry q p (entry_after m.kind m.stamp (s.entry q p));
      heard = at2 s.heard q p (max (s.heard q p) m.stamp);
      messages = at2 (at2 s.messages p q left) q p (s.messages q p ++ replies m.kind (clock_after (s.clock q) m));
    }

unfoldable pub done : Table → Step → Table
done s (Ask p) = acts s p waiting (lc1 (s.clock p)) (record { kind = Request; stamp = lc1 (s.clock p) } ∷ [])
done s (Carry p q) = takes s p q (first (s.messages p q)) (rest (s.messages p q))
done s (Enter p) = acts s p holding (s.entry p p) []
done s (Leave p) = acts s p idle 0 (record { kind = Release; stamp = lc1 (s.clock p) } ∷ [])
done s (Mark p) = acts s p (s.phase p) (s.entry p p) []
