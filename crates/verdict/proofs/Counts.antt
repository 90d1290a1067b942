-- What some numbers say of an event, by what is tested of them; and that those of a line are all kept.
use mathlib.Core.Path.{◌≡◌, refl}
use mathlib.Core.Bool.{Bool, true, false, cond}
use mathlib.Core.List.{List, [], ◌∷◌}
use Prim.Native.Nat.{ℕ, suc, ◌-◌, ◌≤◌, ◌<◌}
use native.Mathlib.Omega.{arith}
use borrow.Author.Tests.{lt-ltb, le-leb}
use lib.Dec.{leb}
use lib.ListN.{length, get_or, take, drop, length-append, length-take, length-drop}
use lib.Seq.{take_at}
use Rattle.std.specs.Prelude.{Option, Some, None}
use Rattle.std.specs.Option.{option_and_then}
use Rattle.std.proofs.lemmas.Bool.{leb-false}
use Rattle.std.proofs.lemmas.Bool.Decides.{nat_tests}
use Rattle.std.proofs.lemmas.List.{take_all}
use Rattle.std.proofs.lemmas.Option.{cond_some, option_and_then_some}
use Rattle.schedule.specs.Parts.{tab, parts}
use Rattle.verdict.specs.Reading.{numbers_of, sound, counts_of, reading_of, numbers_kept}
use Rattle.verdict.specs.declared.Numbers.{Numbers}
use Rattle.verdict.proofs.Fields.{row}

-- the numbers behind the first three
abbrev pub behind : List ℕ → List ℕ
behind ns = take (length ns - 3) (drop 3 ns)

pub too_few : (ns : List ℕ) → length ns < 3 → counts_of ns ≡ None
unfolding counts_of
too_few [] h = refl
too_few (s ∷ []) h = refl
too_few (s ∷ b ∷ []) h = refl
too_few (s ∷ b ∷ c ∷ cs) h = absurd (omega arith)

counts_split : (ns : List ℕ) → 3 ≤ length ns → counts_of ns ≡ cond (sound (get_or ns 0 0) (get_or ns 1 0) (length (behind ns))) (Some (behind ns)) None
unfolding counts_of
counts_split [] h = absurd (omega arith)
counts_split (s ∷ []) h = absurd (omega arith)
counts_split (s ∷ b ∷ []) h = absurd (omega arith)
counts_split (s ∷ b ∷ c ∷ cs) h = rw (take_all (suc (suc (suc (length cs))) - 3) cs (omega arith))

module _ (ns : List ℕ) (three : 3 ≤ length ns) where
  unsound : (t : Bool) → t ≡ sound (get_or ns 0 0) (get_or ns 1 0) (length (behind ns)) → t ≡ false → counts_of ns ≡ None
  unsound t e f = rw (counts_split ns three, ← e, f)

  pub no_step : get_or ns 0 0 ≡ 0 → counts_of ns ≡ None
  no_step h = unsound _ refl (grind (arith, nat_tests))

  pub no_bench : length (behind ns) ≤ get_or ns 1 0 → counts_of ns ≡ None
  no_bench h = unsound _ refl (grind (arith, nat_tests))

  pub too_many : 8 < length (behind ns) → counts_of ns ≡ None
  too_many h = unsound _ refl (grind (arith, nat_tests))

  pub event : (get_or ns 0 0 ≡ 0 → ⊥) → get_or ns 1 0 < length (behind ns) → length (behind ns) ≤ 8 → counts_of ns ≡ Some (behind ns)
  event s b n =
      let step : 0 < get_or ns 0 0 = omega arith in
      let some : 1 ≤ length (behind ns) = omega arith in
      rw (counts_split ns three, lt-ltb 0 (get_or ns 0 0) step, lt-ltb (get_or ns 1 0) (length (behind ns)) b, le-leb 1 (length (behind ns)) some, le-leb (length (behind ns)) 8 n)

-- ---- the numbers of a line

-- so many are no event's
counts_many : (ns : List ℕ) → 11 < length ns → counts_of ns ≡ None
counts_many ns h = too_many ns (omega arith) (simp (length-take, length-drop) (omega arith))

module _ (line : List ℕ) where
  pub lost : option_and_then numbers_kept (numbers_of (parts tab line)) ≡ None → reading_of line ≡ None
  unfolding reading_of numbers_kept
  lost e = go (numbers_of (parts tab line)) e
    where
      over : (xs : List ℕ) (t : Bool) → leb (length xs) 11 ≡ t → cond t (Some (row xs)) None ≡ None → counts_of xs ≡ None
      over xs true q d = absurd (cc)
      over xs false q d = counts_many xs (leb-false (length xs) 11 q)

      go : (o : Option (List ℕ)) → option_and_then numbers_kept o ≡ None → option_and_then counts_of o ≡ None
      go None d = refl
      go (Some xs) d = over xs (leb (length xs) 11) refl d

  -- the others are the front of the row
  record Kept (r : Numbers) : Type 0 where
    pub all : List ℕ
    pub read : numbers_of (parts tab line) ≡ Some all
    pub same : row all ≡ r

  kept : {r : Numbers} → option_and_then numbers_kept (numbers_of (parts tab line)) ≡ Some r → Kept r
  unfolding numbers_kept
  kept {r} e = option_and_then_some numbers_kept (numbers_of (parts tab line)) r e (λ xs read k. record { all = xs; read = read; same = (cond_some _ _ _ k).1 })

  module _ {r : Numbers} (e : option_and_then numbers_kept (numbers_of (parts tab line)) ≡ Some r) where
    pub kept_room : r.many ≤ length r.all
    kept_room = let k = kept e in rw (← k.same) (simp length-append (omega arith))

    pub kept_counts : reading_of line ≡ counts_of (take r.many r.all)
    unfolding reading_of
    kept_counts = let k = kept e in rw (← k.same, k.read, take_at k.all _ (length k.all) refl)
