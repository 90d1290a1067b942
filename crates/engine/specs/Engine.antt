-- The engine over a list of steps: any answers and tables that the contracts of `fresh` and `step` allow.
use Rattle.std.specs.Prelude.{ℕ, ◌<◌, ◌≤◌, ◌≡◌, ◌↔◌, true, List, [], ◌∷◌, ◌++◌, length, Some}
use Rattle.lamport.specs.Order.{limit}
use Rattle.lamport.specs.Table.{holding, most_benches, sizes_ok, fresh}
use Rattle.lamport.specs.Refusals.{answers, after}
use Rattle.lamport.specs.Starred.{Case, case}
use Rattle.lamport.specs.Vectors.{counts_in}
use Rattle.lamport.specs.Counted.{counted_fresh, counts_then, counted_answers, counted_after}
use Rattle.lamport.specs.declared.Step.{Step}
use Rattle.lamport.specs.declared.Step.TheVariants.{Mark}
use Rattle.words.specs.View.{view}
use Rattle.stamps.specs.Compare.{comparison}
use Rattle.stamps.specs.declared.Comparison.{Comparison}
use Rattle.stamps.specs.declared.Comparison.TheVariants.{Before, After, Neither}
use Rattle.causal.specs.Events.{Stamped, events}
use Rattle.causal.specs.Told.{Precedes}
use Rattle.ahead.specs.Ahead.{Ahead}
use Rattle.counted.specs.declared.Lent.{Lent}
use Rattle.counted.specs.Post.{read, lent_ok, Stepped, Made, Handed}
use Rattle.report.specs.Report.{holder_cell}
use Rattle.exclusion.specs.Demand.{Demand3}

-- the steps ks, taken one after the other on the table t, are given the answers told and leave the table u
pub data Taken : Lent → List Step → List ℕ → Lent → Type 0 where
  none : {t : Lent} → Taken t [] [] t
  more : {t u v : Lent} {k : Step} {ks : List Step} {r : ℕ} {told : List ℕ} → Stepped t k r u → Taken u ks told v → Taken t (k ∷ ks) (r ∷ told) v

-- from a fresh table, the answers are the rules' answers, with and without counts, and the table reads as the rules' table
pub record Follows (n capacity start : ℕ) (ks : List Step) (told : List ℕ) (u : Lent) : Type 0 where
  pub answered : told ≡ answers (fresh n capacity start) ks
  pub counted : told ≡ counted_answers (counted_fresh n capacity start) ks
  pub viewed : view u.words ≡ after (fresh n capacity start) ks
  pub reads : read u ≡ counted_after (counted_fresh n capacity start) ks
  pub formed : lent_ok u ≡ true
  -- each bench's own count is at most its clock
  pub ahead : Ahead (read u)

-- whatever steps are taken from a fresh table
abbrev pub StepsFollow : Type 0
StepsFollow =
    (n capacity start : ℕ) (t u : Lent) (told : List ℕ) (ks : List Step) → sizes_ok n capacity ≡ true → Made n capacity start 0 t → Taken t ks told u → Follows n capacity start ks told u

-- Demand3, of what is read in the table that `fresh` makes
abbrev pub EngineDemanded : Type 0
EngineDemanded = (n capacity start : ℕ) (t : Lent) → sizes_ok n capacity ≡ true → start ≤ limit → Made n capacity start 0 t → Demand3 (view t.words)

-- each starred case, of the engine: the answer to its sizes; from a table that is made, the answers to its steps, and bench 0's clock after them
abbrev pub Answered : List Case → Type 0
Answered [] = Unit {0}
Answered (case n capacity start size ks told clock ∷ cs) =
    ((r : ℕ) (t : Lent) → Made n capacity start r t → r ≡ size)
    × (((t u : Lent) (given : List ℕ) → sizes_ok n capacity ≡ true → Made n capacity start 0 t → Taken t ks given u → (given ≡ told) × ((view u.words).clock 0 ≡ clock)) × Answered cs)

-- at most one bench holds in the table, whatever steps were taken
abbrev pub OneHolds : Type 0
OneHolds =
    (n capacity start : ℕ) (t u : Lent) (told : List ℕ) (ks : List Step) → sizes_ok n capacity ≡ true → start ≤ limit → Made n capacity start 0 t → Taken t ks told u →
    (p q : ℕ) → p < n → q < n → (view u.words).phase p ≡ holding → (view u.words).phase q ≡ holding → p ≡ q

-- whatever steps were taken, a listing's line names after them the bench that holds, and nobody where none does
abbrev pub HolderTold : Type 0
HolderTold =
    (n capacity start : ℕ) (ks : List Step) → sizes_ok n capacity ≡ true → start ≤ limit →
    (p : ℕ) → ((p < n) × ((after (fresh n capacity start) ks).phase p ≡ holding)) ↔ (holder_cell (after (fresh n capacity start) ks) ≡ Some p)

-- whatever steps were taken, a reading is marked, and its bench's counts are handed out: they are the counts of that event
abbrev pub StampKept : Type 0
StampKept =
    (n capacity start : ℕ) (t u v : Lent) (told before row : List ℕ) (ks : List Step) (p : ℕ) → sizes_ok n capacity ≡ true → Made n capacity start 0 t → Taken t ks told u →
    Stepped u (Mark p) 0 v → Handed v p 0 before row → (a : ℕ) → a < most_benches →
    counts_in row a ≡ counts_then (counted_after (counted_fresh n capacity start) ks) (Mark p) a

-- what the comparison says of the events i and j is what happened
pub record Tells (n : ℕ) (es : List Stamped) (i j : ℕ) (c : Comparison) : Type 0 where
  pub before : (c ≡ Before) ↔ Precedes n es i j
  pub after : (c ≡ After) ↔ Precedes n es j i
  pub neither : (c ≡ Neither) ↔ ((¬ Precedes n es i j) × (¬ Precedes n es j i))

-- bench p marks a reading after the steps ks, bench q another after further steps ls, and the counts of each are handed out behind its mark:
-- their comparison tells which of the two events could have influenced the other
abbrev pub ReadingsTold : Type 0
ReadingsTold =
    (n capacity start : ℕ) (t u v x y : Lent) (told told' before row before' row' : List ℕ) (ks ls : List Step) (p q : ℕ) → sizes_ok n capacity ≡ true → Made n capacity start 0 t →
    Taken t ks told u → Stepped u (Mark p) 0 v → Handed v p 0 before row →
    Taken v ls told' x → Stepped x (Mark q) 0 y → Handed y q 0 before' row' →
    Tells n (events (counted_fresh n capacity start) (ks ++ Mark p ∷ (ls ++ Mark q ∷ [])))
    (length (events (counted_fresh n capacity start) ks)) (length (events (counted_fresh n capacity start) (ks ++ Mark p ∷ ls)))
    (comparison (counts_in row) (counts_in row'))
