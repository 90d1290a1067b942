-- The engine follows the rules over every list of steps, and so what is proved of the rules is true of its tables.
use Prim.Native.Nat.{ℕ}
use mathlib.Core.Path.{◌≡◌, refl, sym, ap, ◌∙◌, subst}
use mathlib.Core.Bool.{true}
use borrow.Author.Tests.{eq-eqb}
use mathlib.Core.List.{List, [], ◌∷◌}
use Rattle.lamport.specs.Table.{fresh}
use Rattle.lamport.specs.Refusals.{after}
use Rattle.lamport.specs.Starred.{Case, case, Holds, starred}
use Rattle.lamport.proofs.Starred.{starred-hold}
use Rattle.lamport.specs.Vectors.{counts_in}
use Rattle.lamport.specs.Counted.{Counted, counted_fresh, counts_then, counted_answer, counted_answers, counted_done, counted_after}
use Rattle.lamport.specs.declared.Step.{Step}
use Rattle.lamport.specs.declared.Step.TheVariants.{Mark}
use Rattle.words.specs.View.{view}
use Rattle.ahead.specs.Ahead.{Ahead}
use Rattle.ahead.proofs.Ahead.{fresh-ahead, after-ahead, after-as, all-answers-as}
use Rattle.vectors.specs.Rows.{counts}
use Rattle.vectors.proofs.Row.{listed_get}
use Rattle.counted.specs.declared.Lent.{Lent}
use Rattle.counted.specs.Post.{read, lent_ok}
use Rattle.counted.proofs.Stepping.{next-done}
use Rattle.counted.proofs.Determined.{answered, follows, keeps}
use Rattle.exclusion.specs.Demand.{Demand3}
use Rattle.exclusion.proofs.Theorems.{demand3}
use Rattle.engine.specs.Engine.{Taken, none, more, StepsFollow, EngineDemanded, Answered, OneHolds, StampKept}

-- ---- from a table that is well formed

steps_told : {t u : Lent} {told : List ℕ} {ks : List Step} → lent_ok t ≡ true → Taken t ks told u → told ≡ counted_answers (read t) ks
steps_told w none = refl
steps_told w (more {t} {u} {v} {k} {ks} {r} {told} m ms) =
    rw (answered t k r u w m, steps_told (keeps t k r u w m) ms, follows t k r u w m)

steps_read : {t u : Lent} {told : List ℕ} {ks : List Step} → lent_ok t ≡ true → Taken t ks told u → read u ≡ counted_after (read t) ks
steps_read w none = refl
steps_read w (more {t} {u} {v} {k} {ks} {r} {told} m ms) = rw (steps_read (keeps t k r u w m) ms, follows t k r u w m)

steps_formed : {t u : Lent} {told : List ℕ} {ks : List Step} → lent_ok t ≡ true → Taken t ks told u → lent_ok u ≡ true
steps_formed w none = w
steps_formed w (more {t} {u} {v} {k} {ks} {r} {told} m ms) = steps_formed (keeps t k r u w m) ms

-- ---- from a fresh table

pub engine_follows : StepsFollow
engine_follows n capacity start t u told ks e m s =
    record {
      answered = told-as ∙ all-answers-as (counted_fresh n capacity start) (fresh-ahead n capacity start) ks;
      counted = told-as;
      viewed = ap (λ (x : Counted). x.table) reads-as ∙ after-as (counted_fresh n capacity start) (fresh-ahead n capacity start) ks;
      reads = reads-as;
      formed = steps_formed (m.formed e) s;
      ahead = subst Ahead (sym reads-as) (after-ahead (counted_fresh n capacity start) (fresh-ahead n capacity start) ks);
    }
  where
    told-as : told ≡ counted_answers (counted_fresh n capacity start) ks
    told-as = rw (m.done e) at (steps_told (m.formed e) s)

    reads-as : read u ≡ counted_after (counted_fresh n capacity start) ks
    reads-as = rw (m.done e) at (steps_read (m.formed e) s)

pub engine_demand3 : EngineDemanded
engine_demand3 n capacity start t e l m = subst Demand3 (sym (ap (λ (x : Counted). x.table) (m.done e))) (demand3 n capacity start e l)

pub one_holds : OneHolds
one_holds n capacity start t u told ks e l m s p q hp hq hold hold' =
    let f : view u.words ≡ after (fresh n capacity start) ks = (engine_follows n capacity start t u told ks e m s).viewed in
    (demand3 n capacity start e l).exclusion ks p q hp hq (rw f at hold) (rw f at hold')

answered-by : (cs : List Case) → Holds cs → Answered cs
answered-by [] h = tt
answered-by (case n capacity start size ks told clock ∷ cs) h = (
  λ r t m. m.answered ∙ h.0.0,
  (
    λ t u given e m s.
        let f = engine_follows n capacity start t u given ks e m s in
        (f.counted ∙ h.0.1.0, ap (λ (x : Counted). x.table.clock 0) f.reads ∙ h.0.1.1),
    answered-by cs h.1,
  ),
)

pub starred-answered : Answered starred
starred-answered = answered-by starred starred-hold

-- ---- a stamp that is kept

-- a step that is done leaves its bench the counts that the rules say
then-counts : (s : Counted) (p a : ℕ) → (counted_done s (Mark p)).counts p a ≡ counts_then s (Mark p) a
unfolding counted_done
then-counts s p a = rw (eq-eqb p p refl) refl

pub stamp-kept : StampKept
stamp-kept n capacity start t u v told before row ks p e m s x h a l =
    let f = engine_follows n capacity start t u told ks e m s in
    let done : counted_answer (read u) (Mark p) ≡ 0 = sym (answered u (Mark p) 0 v f.formed x) in
    ap (λ (y : List ℕ). counts_in y a) h.written
    ∙ listed_get 8 (counts v.counts p) a 0 l
    ∙ ap (λ (y : Counted). y.counts p a) (x.done refl ∙ next-done (read u) (Mark p) done)
    ∙ then-counts (read u) p a
    ∙ ap (λ (y : Counted). counts_then y (Mark p) a) f.reads
