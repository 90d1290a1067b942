-- Which words are well formed, clause by clause.
use Rattle.std.specs.Prelude.{ℕ, Bool, cond, not, ◌&&◌, ◌||◌, List, ltb, leb, eqb, length}
use Rattle.lamport.specs.Codes.{code_of}
use Rattle.lamport.specs.Each.{all_below}
use Rattle.lamport.specs.Table.{Table, idle, holding, sizes_ok}
use Rattle.lamport.specs.declared.Kind.TheVariants.{Request, Release}
use Rattle.words.specs.Places.{most, slots, size, chan, count, kind, stamp}
use Rattle.words.specs.View.{view}

-- ---- what is read of a bench

-- p is a bench
abbrev pub present : Table → ℕ → Bool
present s p = ltb p s.benches

-- phases 0 to 2
abbrev pub phase_ok : Table → ℕ → Bool
phase_ok s p = leb (s.phase p) holding

-- a bench has an entry for itself in its own queue exactly if it isn't idle
abbrev pub own_ok : Table → ℕ → Bool
own_ok s p = cond (eqb (s.phase p) idle) (eqb (s.entry p p) 0) (leb 1 (s.entry p p))

-- what belongs to no bench is zero
abbrev pub absent_ok : Table → ℕ → Bool
absent_ok s p = eqb (s.clock p) 0 && eqb (s.phase p) 0

unfoldable pub bench_ok : Table → ℕ → Bool
bench_ok s p = cond (present s p) (phase_ok s p && own_ok s p) (absent_ok s p)

-- ---- what is read of a pair

-- p and q are two different benches, which have a channel and hear each other
abbrev pub joined : Table → ℕ → ℕ → Bool
joined s p q = present s p && (present s q && not (eqb p q))

-- channels within capacity
abbrev pub capacity_ok : Table → ℕ → ℕ → Bool
capacity_ok s p q = leb (length (s.messages p q)) s.capacity

-- a bench's entry for itself is all that it keeps of itself
abbrev pub own_entry : Table → ℕ → ℕ → Bool
own_entry s p q = eqb p q && present s p

-- what belongs to no bench, to a bench's channel to itself and to hearing itself is zero
abbrev pub unjoined_ok : Table → ℕ → ℕ → Bool
unjoined_ok s p q = eqb (length (s.messages p q)) 0 && (eqb (s.heard p q) 0 && (own_entry s p q || eqb (s.entry p q) 0))

unfoldable pub link_ok : Table → ℕ → ℕ → Bool
link_ok s p q = cond (joined s p q) (capacity_ok s p q) (unjoined_ok s p q)

-- ---- the slots of a channel's words

-- message kinds only those named, message stamps at least 1
abbrev pub message_ok : List ℕ → ℕ → ℕ → Bool
message_ok t c i = leb (kind t c i) (code_of Release) && leb 1 (stamp t c i)

-- an unused slot has the kind request and stamp 0
abbrev pub unused_ok : List ℕ → ℕ → ℕ → Bool
unused_ok t c i = eqb (kind t c i) (code_of Request) && eqb (stamp t c i) 0

abbrev pub slot_ok : List ℕ → ℕ → ℕ → Bool
slot_ok t c i = cond (ltb i (count t c)) (message_ok t c i) (unused_ok t c i)

-- ---- all of it

unfoldable pub pair_ok : List ℕ → ℕ → ℕ → Bool
pair_ok t p q = link_ok (view t) p q && all_below (slot_ok t (chan p q)) slots

unfoldable pub row_ok : List ℕ → ℕ → Bool
row_ok t p = bench_ok (view t) p && all_below (pair_ok t p) most

-- sizes in range, and every bench, pair and slot as above
unfoldable pub well_formed : List ℕ → Bool
well_formed t = eqb (length t) size && (sizes_ok (view t).benches (view t).capacity && all_below (row_ok t) most)
