-- What each inner function stores in a table's words.
use Rattle.std.specs.Prelude.{ℕ, ◌+◌, ◌-◌, ◌<◌, ◌≤◌, max, ◌≡◌, true, cond, List, eqb, length, set}
use Rattle.lamport.specs.Each.{up_to}
use Rattle.lamport.specs.Codes.{code_of}
use Rattle.lamport.specs.Order.{limit, lc1, clock_after, entry_after}
use Rattle.lamport.specs.Table.{idle, waiting, holding}
use Rattle.lamport.specs.Steps.{first}
use Rattle.lamport.specs.Refusals.{is_request, clock_then}
use Rattle.lamport.specs.declared.Kind.{Kind}
use Rattle.lamport.specs.declared.Kind.TheVariants.{Request, Ack, Release}
use Rattle.lamport.specs.declared.Message.{Message}
use Rattle.lamport.specs.declared.Step.TheVariants.{Carry}
use Rattle.words.specs.Places.{most, slots, last_slot, clock_at, phase_at, entry_at, heard_at, chan, count_at, kind_at, stamp_at, benches, clock, entry, heard, count, kind, stamp}
use Rattle.words.specs.View.{view}

-- ---- channels

-- m put on channel c behind the others
unfoldable pub pushed : List ℕ → ℕ → Message → List ℕ
pushed t c m =
    set (set (set t (kind_at c (count t c)) (code_of m.kind)) (stamp_at c (count t c)) m.stamp) (count_at c) (count t c + 1)

-- m sent from p to q, unless these are the same bench
unfoldable pub sent_to : ℕ → Message → ℕ → List ℕ → List ℕ
sent_to p m q t = cond (eqb q p) t (pushed t (chan p q) m)

-- m sent to every other bench
unfoldable pub sent : List ℕ → ℕ → Message → List ℕ
sent t p m = up_to (sent_to p m) (benches t) t

-- slot i takes what stands in the slot behind it
abbrev pub moved : ℕ → ℕ → List ℕ → List ℕ
moved c i t = set (set t (kind_at c i) (kind t c (i + 1))) (stamp_at c i) (stamp t c (i + 1))

-- channel c without its oldest message: every other slot moves up by one, and the last is empty
unfoldable pub popped : List ℕ → ℕ → List ℕ
popped t c = set (set (set (up_to (moved c) last_slot t) (kind_at c last_slot) 0) (stamp_at c last_slot) 0) (count_at c) (count t c - 1)

-- ---- a bench by itself

-- LC1 for bench p, with its phase and its own entry
unfoldable pub acted : List ℕ → ℕ → ℕ → ℕ → List ℕ
acted t p phase own = set (set (set t (clock_at p) (lc1 (clock t p))) (phase_at p) phase) (entry_at p p) own

unfoldable pub asked : List ℕ → ℕ → List ℕ
asked t p = sent (acted t p waiting (lc1 (clock t p))) p (record { kind = Request; stamp = lc1 (clock t p) })

abbrev pub entered : List ℕ → ℕ → List ℕ
entered t p = acted t p holding (entry t p p)

unfoldable pub left : List ℕ → ℕ → List ℕ
left t p = sent (acted t p idle 0) p (record { kind = Release; stamp = lc1 (clock t p) })

abbrev pub marked : List ℕ → ℕ → List ℕ
marked t p = set t (clock_at p) (lc1 (clock t p))

-- p is a bench number, and each channel from p has a free slot
pub record Room (t : List ℕ) (p : ℕ) : Type 0 where
  pub bench : p < most
  pub few : benches t ≤ most
  pub room : (q : ℕ) → q < benches t → (q ≡ p → ⊥) → count t (chan p q) < slots

-- ---- a message is carried

-- m, the oldest message from p, is taken off its channel; q's clock becomes c, and q has heard and noted m
unfoldable pub received : List ℕ → ℕ → ℕ → Message → ℕ → List ℕ
received t p q m c =
    set
    (set (set (popped t (chan p q)) (clock_at q) c) (heard_at q p) (max (heard t q p) m.stamp))
    (entry_at q p)
    (entry_after m.kind m.stamp (entry t q p))

-- a request is acknowledged
unfoldable pub replied : List ℕ → ℕ → ℕ → ℕ → Kind → List ℕ
replied t p q c Request = pushed t (chan q p) (record { kind = Ack; stamp = c })
replied t p q c Ack = t
replied t p q c Release = t

unfoldable pub carried : List ℕ → ℕ → ℕ → Message → List ℕ
carried t p q m = replied (received t p q m (clock_after (clock t q) m)) p q (clock_after (clock t q) m) m.kind

-- what a carry from p to q wants of the table
pub record Carries (t : List ℕ) (p q : ℕ) : Type 0 where
  pub from : p < most
  pub to : q < most
  pub apart : p ≡ q → ⊥
  pub some : 0 < length ((view t).messages p q)
  pub fits : clock_then (view t) (Carry p q) ≤ limit
  pub room : is_request (first ((view t).messages p q)).kind ≡ true → length ((view t).messages q p) < slots

-- ---- a fresh table

abbrev pub started : ℕ → ℕ → List ℕ → List ℕ
started start p t = set t (clock_at p) start
