-- The stamps of two readings that the engine hands out compare as their events happened.
use Prim.Native.Nat.{ℕ, zero, suc, ◌+◌, ◌<◌}
use native.Mathlib.Omega.{arith}
use mathlib.Core.Path.{◌≡◌, refl, sym, ap, ◌∙◌, subst}
use mathlib.Core.Bool.{Bool, true}
use mathlib.Core.List.{List, [], ◌∷◌, ◌++◌}
use borrow.Author.Tests.{eq-eqb}
use lib.Dec.{leb}
use lib.ListN.{length, length-append}
use Rattle.std.proofs.Common.{append_assoc}
use Rattle.lamport.specs.Each.{all_below}
use Rattle.lamport.specs.Table.{sizes_ok}
use Rattle.lamport.specs.Vectors.{counts_in}
use Rattle.lamport.specs.Counted.{Counted, counted_fresh, counts_then, counted_answer, counted_next, counted_after}
use Rattle.lamport.specs.declared.Step.{Step}
use Rattle.lamport.specs.declared.Step.TheVariants.{Mark}
use Rattle.stamps.specs.Compare.{none_larger, comparison}
use Rattle.stamps.proofs.Comparing.{by-tests}
use Rattle.causal.specs.Events.{alone, Stamped, stamped, events}
use Rattle.causal.specs.Told.{event_at, Two, said, SaysExactly}
use Rattle.causal.proofs.Placed.{events-append, reading-placed}
use Rattle.causal.proofs.Told.{stamps-tell}
use Rattle.counted.specs.declared.Lent.{Lent}
use Rattle.counted.proofs.Determined.{answered}
use Rattle.engine.specs.Engine.{Taken, none, more, Tells, ReadingsTold}
use Rattle.engine.proofs.Engine.{engine_follows, stamp-kept}

-- ---- a comparison looks at eight counts

all-same : (n : ℕ) (f g : ℕ → Bool) → ((a : ℕ) → a < n → f a ≡ g a) → all_below f n ≡ all_below g n
unfolding all_below
all-same zero f g h = refl
all-same (suc n) f g h = rw (all-same n f g (λ a l. h a (omega arith)), h n (omega arith))

larger-same : (v w v' w' : ℕ → ℕ) → ((a : ℕ) → a < 8 → v a ≡ v' a) → ((a : ℕ) → a < 8 → w a ≡ w' a) → none_larger v w ≡ none_larger v' w'
unfolding none_larger
larger-same v w v' w' e f = all-same 8 (λ a. leb (v a) (w a)) (λ a. leb (v' a) (w' a)) (λ a l. rw (e a l, f a l))

compared-same : (v w v' w' : ℕ → ℕ) → ((a : ℕ) → a < 8 → v a ≡ v' a) → ((a : ℕ) → a < 8 → w a ≡ w' a) → comparison v w ≡ comparison v' w'
compared-same v w v' w' e f = by-tests v w _ _ (sym (larger-same v w v' w' e f)) (sym (larger-same w v w' v' f e)) ∙ sym (by-tests v' w' _ _ refl refl)

-- ---- steps in two parts

taken-append : {t u v : Lent} {ks ls : List Step} {told told' : List ℕ} → Taken t ks told u → Taken u ls told' v → Taken t (ks ++ ls) (told ++ told') v
taken-append none m = m
taken-append (more s l) m = more s (taken-append l m)

-- the events of the steps before a reading, its own, and those of the steps behind it
reading-length : (s : Counted) (ks zs : List Step) (p : ℕ) → counted_answer (counted_after s ks) (Mark p) ≡ 0
    → length (events s (ks ++ Mark p ∷ zs)) ≡ length (events s ks) + suc (length (events (counted_next (counted_after s ks) (Mark p)) zs))
reading-length s ks zs p z =
    rw (events-append s ks (Mark p ∷ zs), eq-eqb (counted_answer (counted_after s ks) (Mark p)) 0 z) (length-append (events s ks) _)

-- ---- two readings

module _ (n capacity start : ℕ) (ks ls : List Step) (p q : ℕ) (e : sizes_ok n capacity ≡ true) where
  abbrev s₀ : Counted
  s₀ = counted_fresh n capacity start

  abbrev mid : List Step
  mid = ks ++ Mark p ∷ ls

  abbrev all : List Step
  all = ks ++ Mark p ∷ (ls ++ Mark q ∷ [])

  abbrev i : ℕ
  i = length (events s₀ ks)

  abbrev j : ℕ
  j = length (events s₀ mid)

  module _ (z₁ : counted_answer (counted_after s₀ ks) (Mark p) ≡ 0) (z₂ : counted_answer (counted_after s₀ mid) (Mark q) ≡ 0) where
    parted : mid ++ Mark q ∷ [] ≡ all
    parted = append_assoc ks (Mark p ∷ ls) (Mark q ∷ [])

    first : event_at (events s₀ all) i ≡ stamped p alone (counts_then (counted_after s₀ ks) (Mark p))
    first = reading-placed s₀ ks (ls ++ Mark q ∷ []) p z₁

    second : event_at (events s₀ all) j ≡ stamped q alone (counts_then (counted_after s₀ mid) (Mark q))
    second = subst (λ l. event_at (events s₀ l) (length (events s₀ mid)) ≡ stamped q alone (counts_then (counted_after s₀ mid) (Mark q))) parted (reading-placed s₀ mid [] q z₂)

    two : Two (events s₀ all) i j
    two =
        let before = reading-length s₀ ks ls p z₁ in
        let behind = reading-length s₀ mid [] q z₂ in
        let whole : length (events s₀ (mid ++ Mark q ∷ [])) ≡ length (events s₀ all) = ap (λ l. length (events s₀ l)) parted in
        record { first = omega (arith, before, behind, whole); second = omega (arith, before, behind, whole); apart = λ same. omega (arith, same, before) }

    -- what is said of rows that read as the two events' counts
    tells : (v w : ℕ → ℕ) → ((a : ℕ) → a < 8 → v a ≡ counts_then (counted_after s₀ ks) (Mark p) a) → ((a : ℕ) → a < 8 → w a ≡ counts_then (counted_after s₀ mid) (Mark q) a)
        → Tells n (events s₀ all) i j (comparison v w)
    tells v w f g =
        subst (Tells n (events s₀ all) i j) (sym same)
        (record { before = says.says_before i j two; after = says.says_after i j two; neither = says.says_neither i j two })
      where
        says : SaysExactly n (events s₀ all)
        says = stamps-tell n capacity start e all

        same : comparison v w ≡ said (events s₀ all) i j
        same = compared-same v w _ _ (λ a l. f a l ∙ ap (λ (x : Stamped). x.counts a) (sym first)) (λ a l. g a l ∙ ap (λ (x : Stamped). x.counts a) (sym second))

pub readings-told : ReadingsTold
readings-told n capacity start t u v x y told told' before row before' row' ks ls p q e m k₁ s₁ h₁ k₂ s₂ h₂ =
    let k = taken-append k₁ (more s₁ k₂) in
    let f = engine_follows n capacity start t u told ks e m k₁ in
    let g = engine_follows n capacity start t x _ (ks ++ Mark p ∷ ls) e m k in
    tells n capacity start ks ls p q e
    (rw f.reads at (sym (answered u (Mark p) 0 v f.formed s₁))) (rw g.reads at (sym (answered x (Mark q) 0 y g.formed s₂)))
    (counts_in row) (counts_in row')
    (stamp-kept n capacity start t u v told before row ks p e m k₁ s₁ h₁) (stamp-kept n capacity start t x y _ before' row' (ks ++ Mark p ∷ ls) q e m k s₂ h₂)
