-- What the stamps of two events of a list say, and what happened.
use Rattle.std.specs.Prelude.{ℕ, ◌<◌, ◌≡◌, ◌≢◌, ◌↔◌, true, List, [], ◌∷◌, ◌++◌, length, get_or}
use Rattle.lamport.specs.Table.{sizes_ok}
use Rattle.lamport.specs.Counted.{Counted, counted_fresh, counts_then, counted_answer, counted_next, counted_after}
use Rattle.lamport.specs.Steps.{actor}
use Rattle.lamport.specs.declared.Step.{Step}
use Rattle.lamport.specs.declared.Step.TheVariants.{Mark}
use Rattle.stamps.specs.Compare.{comparison}
use Rattle.stamps.specs.declared.Comparison.{Comparison}
use Rattle.stamps.specs.declared.Comparison.TheVariants.{Before, After, Same, Neither}
use Rattle.causal.specs.Events.{alone, Stamped, stamped, events_of, events}
use Rattle.causal.specs.Happened.{HappenedBefore}

-- event i of a list; what stands here for one past its end is never asked for
abbrev pub event_at : List Stamped → ℕ → Stamped
event_at es i = get_or es i (stamped 0 alone (λ a. 0))

-- event i of the list happened before event j of it
abbrev pub Precedes : ℕ → List Stamped → ℕ → ℕ → Type 0
Precedes n es i j = HappenedBefore n (length es) (λ k. (event_at es k).event) i j

-- two different events of the list
pub record Two (es : List Stamped) (i j : ℕ) : Type 0 where
  pub first : i < length es
  pub second : j < length es
  pub apart : i ≢ j

-- what the comparison of their stamps says
abbrev pub said : List Stamped → ℕ → ℕ → Comparison
said es i j = comparison (event_at es i).counts (event_at es j).counts

-- of two different events: before is said exactly when the first happened before the second, after exactly the converse,
-- neither exactly when neither did, and same never
pub record SaysExactly (n : ℕ) (es : List Stamped) : Type 0 where
  pub says_before : (i j : ℕ) → Two es i j → (said es i j ≡ Before) ↔ Precedes n es i j
  pub says_after : (i j : ℕ) → Two es i j → (said es i j ≡ After) ↔ Precedes n es j i
  pub says_neither : (i j : ℕ) → Two es i j → (said es i j ≡ Neither) ↔ ((¬ Precedes n es i j) × (¬ Precedes n es j i))
  pub never_same : (i j : ℕ) → Two es i j → said es i j ≢ Same

-- of the events of every list of steps from a fresh table
abbrev pub StampsTell : Type 0
StampsTell = (n capacity start : ℕ) → sizes_ok n capacity ≡ true → (ks : List Step) → SaysExactly n (events (counted_fresh n capacity start) ks)

-- the last event of a list has these counts
abbrev pub LastHas : List Stamped → (ℕ → ℕ) → Type 0
LastHas [] v = ⊥
LastHas (e ∷ []) v = e.counts ≡ v
LastHas (e ∷ f ∷ es) v = LastHas (f ∷ es) v

-- the counts that the table shows of the step's bench, after a step that is done, are those of the step's last event
abbrev pub CountsShown : Type 0
CountsShown = (s : Counted) (k : Step) → counted_answer s k ≡ 0 → LastHas (events_of s k) ((counted_next s k).counts (actor k))

-- after the steps ks a reading is marked, whatever steps ls follow: its event is the one behind those of ks, with the counts that its bench has then
abbrev pub ReadingPlaced : Type 0
ReadingPlaced =
    (s : Counted) (ks ls : List Step) (p : ℕ) → counted_answer (counted_after s ks) (Mark p) ≡ 0 →
    event_at (events s (ks ++ Mark p ∷ ls)) (length (events s ks)) ≡ stamped p alone (counts_then (counted_after s ks) (Mark p))
