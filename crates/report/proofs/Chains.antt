-- What a chain over the numbers below n counts, and what it finds first.
use Prim.Native.Nat.{ℕ, zero, suc, ◌+◌}
use native.Mathlib.Omega.{arith}
use mathlib.Core.Path.{◌≡◌, refl, sym, ap, ◌∙◌}
use mathlib.Core.Bool.{Bool, true, false, cond}
use mathlib.Core.List.{List, [], ◌∷◌}
use denote.Param.Members.{Mut}
use denote.Ref.{Bor}
use lib.Dec.{eqb}
use lib.ListN.{length}
use Rattle.std.specs.declared.iter.Filter.{Filter}
use Rattle.std.specs.declared.ops.Range.{Range}
use Rattle.std.specs.Bool.{⊤}
use Rattle.std.specs.Fn.{CalledAt}
use Rattle.std.specs.Prelude.{Option, MatchOption}
use Rattle.std.specs.Iterator.{Drains, YieldsThen}
use Rattle.std.specs.Iterator.Adapters.{filter_source, filter_callee, filter_steps}
use Rattle.std.specs.List.{FoldsTo, count_by, find, range_with_len}
use Rattle.std.specs.Option.{option_or}
use Rattle.std.proofs.iter.Yields.{nat_range_steps}
use Rattle.std.proofs.lemmas.Iterator.{YieldsList-from_range}
use Rattle.std.proofs.lemmas.Iterator.Adapters.{option_map_id}
use Rattle.std.proofs.lemmas.Iterator.Consumers.{count_from_yields_List, YieldsList-from_filter}
use Rattle.std.proofs.lemmas.Iterator.Search.{find_from_yields_List}
use Rattle.std.proofs.lemmas.List.Folds.{find-append}
use Rattle.std.proofs.lemmas.List.Sums.{length-filter, sum_by_push}
use Rattle.lamport.specs.Each.{count_below}
use Rattle.lamport.specs.Table.{Table, holding}
use Rattle.lamport.proofs.Chains.{last_below}
use Rattle.report.specs.Report.{holder_below}

count-below : (test : ℕ → Bool) (n : ℕ) → count_by test (range_with_len 0 n) ≡ count_below test n
unfolding count_below
count-below test zero = refl
count-below test (suc n) =
    ap (count_by test) (last_below n) ∙ sum_by_push (λ q. cond (test q) 1 0) (range_with_len 0 n) n ∙ ap (λ k. k + cond (test n) 1 0) (count-below test n)

abbrev holds : Table → ℕ → Bool
holds s q = eqb (s.phase q) holding

find-below : (s : Table) (n : ℕ) → find (holds s) (range_with_len 0 n) ≡ holder_below s n
unfolding holder_below
find-below s zero = refl
find-below s (suc n) =
    ap (find (holds s)) (last_below n) ∙ find-append (holds s) (range_with_len 0 n) (n ∷ [])
    ∙ ap (λ o. option_or o (find (holds s) (n ∷ []))) (find-below s n)

module _ {F : Type 0} {g : Mut F (Bor ℕ × Unit {0}) Bool} {s : Filter (Range ℕ) F} {f : F} {r : ℕ} (test : ℕ → Bool) (n : ℕ) where
  -- (0..n).filter(..).count(), whose closure computes `test`
  pub count_over : (xs : List ℕ) × Drains (filter_steps nat_range_steps g) s xs × (r ≡ length xs)
      → filter_source s ≡ record { start = 0; end = n } → filter_callee s ≡ f → ((x : ℕ) (b : Bool) (q : F) → CalledAt g f x b q → (q ≡ f) × (b ≡ test x)) → r ≡ count_below test n
  count_over ran from with each =
      count_from_yields_List s r ran (YieldsList-from_filter g test (YieldsList-from_range 0 n n from (omega arith)) with each)
      ∙ length-filter test (range_with_len 0 n) ∙ count-below test n

module _ {F : Type 0} {g : Mut F (Bor ℕ × Unit {0}) Bool} {s : Range ℕ} {f : F} {r : Option ℕ} (u : Range ℕ) (t : Table) (n : ℕ) where
  -- (0..n).find(..), whose closure asks who holds
  pub find_over : (xs : List ℕ) × (j : F) × YieldsThen nat_range_steps s xs r u × FoldsTo (λ p x q. CalledAt g p x false q) f xs j × MatchOption r ⊤ (λ x. (h : F) × CalledAt g j x true h)
      → s ≡ record { start = 0; end = n } → ((x : ℕ) (b : Bool) (q : F) → CalledAt g f x b q → (q ≡ f) × (b ≡ holds t x)) → r ≡ holder_below t n
  find_over ran from each =
      sym (option_map_id r) ∙ find_from_yields_List (holds t) u f r ran (YieldsList-from_range 0 n n from (omega arith)) each ∙ find-below t n
