-- The holder that a listing names is the one bench that holds: it names the lowest, and no two do.
use Prim.Native.Nat.{ℕ, zero, suc, ◌<◌}
use native.Mathlib.Omega.{arith}
use mathlib.Core.Path.{◌≡◌, refl, sym, ap, ◌∙◌}
use mathlib.Core.Bool.{Bool, true, false, cond}
use mathlib.Core.List.{List, [], ◌∷◌}
use mathlib.Core.Logic.{◌⊎◌, inl, inr}
use lib.Dec.{eqb}
use borrow.Author.Tests.{eq-eqb, eqb-true}
use native.Mathlib.Nat.{eq-or-lt_of_le}
use Rattle.std.specs.Prelude.{Option, Some, None}
use Rattle.std.specs.Option.{option_or}
use Rattle.lamport.specs.Table.{Table, holding, fresh}
use Rattle.lamport.specs.Refusals.{next, after}
use Rattle.lamport.proofs.Granted.{next-benches}
use Rattle.lamport.specs.declared.Step.{Step}
use Rattle.report.specs.Report.{holder_below, holder_cell}
use Rattle.exclusion.proofs.Theorems.{demand3}
use Rattle.engine.specs.Engine.{HolderTold}

-- n holds, where it is the first that is asked
holds_then : (s : Table) (n q : ℕ) (b : Bool) → eqb (s.phase n) holding ≡ b → cond b (Some n) None ≡ Some q → (q ≡ n) × (s.phase q ≡ holding)
holds_then s n q true e t = let same : n ≡ q = (cc) in (sym same, rw (← same) (eqb-true _ _ e))
holds_then s n q false e t = (cc)

-- who is named is a bench that holds
named_holds : (s : Table) (n q : ℕ) → holder_below s n ≡ Some q → (q < n) × (s.phase q ≡ holding)
unfolding holder_below
named_holds s zero q e = (cc)
named_holds s (suc n) q e = go (named_holds s n q) (holder_below s n) refl e
  where
    go : (holder_below s n ≡ Some q → (q < n) × (s.phase q ≡ holding)) → (o : Option ℕ) → holder_below s n ≡ o → option_or o (cond (eqb (s.phase n) holding) (Some n) None) ≡ Some q → (q < suc n) × (s.phase q ≡ holding)
    go below (Some x) f t = let h = below (f ∙ t) in (omega (arith, h.0), h.1)
    go below None f t = let h = holds_then s n q (eqb (s.phase n) holding) refl t in (omega (arith, h.0), h.1)

-- where a bench holds, somebody is named
somebody_named : (s : Table) (n p : ℕ) → p < n → s.phase p ≡ holding → (q : ℕ) × (holder_below s n ≡ Some q)
unfolding holder_below
somebody_named s zero p l h = absurd (omega arith)
somebody_named s (suc n) p l h = go (λ m. somebody_named s n p m h) (holder_below s n) refl (eq-or-lt_of_le l)
  where
    go : (p < n → (q : ℕ) × (holder_below s n ≡ Some q)) → (o : Option ℕ) → holder_below s n ≡ o → (suc p ≡ suc n) ⊎ (suc p < suc n) → (q : ℕ) × (option_or o (cond (eqb (s.phase n) holding) (Some n) None) ≡ Some q)
    go below (Some x) f c = (x, refl)
    go below None f (inl e) = let same : n ≡ p = omega arith in (n, rw (same, eq-eqb _ _ h))
    go below None f (inr m) = let k = below (omega arith) in absurd (let named = k.1 in cc)

-- no step changes how many benches there are
all_benches : (s : Table) (ks : List Step) → (after s ks).benches ≡ s.benches
all_benches s [] = refl
all_benches s (k ∷ ks) = all_benches (next s k) ks ∙ next-benches s k

pub holder_told : HolderTold
holder_told n capacity start ks ok low p = (told, named)
  where
    s : Table
    s = after (fresh n capacity start) ks

    size : s.benches ≡ n
    size = all_benches (fresh n capacity start) ks

    named : holder_cell s ≡ Some p → (p < n) × (s.phase p ≡ holding)
    named e = let h = named_holds s s.benches p e in (omega (arith, size, h.0), h.1)

    told : (p < n) × (s.phase p ≡ holding) → holder_cell s ≡ Some p
    told h =
        let some = somebody_named s s.benches p (omega (arith, size, h.0)) h.1 in
        let other = named_holds s s.benches some.0 some.1 in
        some.1 ∙ ap Some ((demand3 n capacity start ok low).exclusion ks some.0 p (omega (arith, size, other.0)) h.0 other.1 h.1)
