-- How long a line of readings is: a field that is a number has ten bytes at most.
use mathlib.Core.Path.{◌≡◌, refl, ap}
use mathlib.Core.Bool.{Bool, true, false, cond, ◌&&◌, ◌||◌}
use mathlib.Core.List.{List, [], ◌∷◌}
use Prim.Native.Nat.{ℕ, zero, suc, ◌+◌, ◌-◌, ◌*◌, ◌^◌, ◌≤◌, ◌<◌}
use native.Mathlib.Omega.{arith}
use native.Mathlib.Nat.{pow-suc}
use borrow.Author.Tests.{lt-ltb, ne_eqb}
use lib.ListN.{length}
use lib.Dec.{eqb, ltb}
use Rattle.std.specs.Prelude.{Option, Some, None}
use Rattle.std.specs.Option.{option_map, option_and_then}
use Rattle.std.proofs.lemmas.Bool.{eqb-false}
use Rattle.std.proofs.lemmas.Bool.Decides.{nat_tests}
use Rattle.std.proofs.lemmas.Option.{cond_some, option_and_then_some}
use Rattle.schedule.specs.Parts.{tab, parts, on_first}
use Rattle.schedule.specs.Number.{no_digit, digit_on, grow, begins_ill, number_of}
use Rattle.schedule.proofs.PartsLaws.{parts-cons}
use Rattle.schedule.proofs.NumberLaws.{grow_none}
use Rattle.verdict.specs.Reading.{numbers_of, sound, counts_of, reading_of}

-- ---- a number

-- a digit behind y makes it ten times as large, or more
larger : (y d p : ℕ) → 4294967295 < y * (p * 10) → 4294967295 < (y * 10 + d) * p
larger y d p h = omega arith

-- a number with so many digits behind it is too large
grow_few : (k y : ℕ) (bs : List ℕ) {x : ℕ} → y ≤ 4294967295 → 4294967295 < y * 10 ^ k → grow (Some y) bs ≡ Some x → length bs < k
unfolding grow digit_on
grow_few zero y bs h l e = absurd (omega arith)
grow_few (suc k) y [] h l e = omega arith
grow_few (suc k) y (b ∷ bs) {x} h l e = go (no_digit b || ltb 4294967295 (y * 10 + (b - 48))) refl (grow_few k (y * 10 + (b - 48)) bs) e
  where
    go : (t : Bool) → (no_digit b || ltb 4294967295 (y * 10 + (b - 48))) ≡ t
        → (y * 10 + (b - 48) ≤ 4294967295 → 4294967295 < (y * 10 + (b - 48)) * 10 ^ k → grow (Some (y * 10 + (b - 48))) bs ≡ Some x → length bs < k)
        → grow (cond t None (Some (y * 10 + (b - 48)))) bs ≡ Some x → suc (length bs) < suc k
    go true q r f = absurd (let z = rw (grow_none bs) at f in cc)
    go false q r f =
        let small : y * 10 + (b - 48) ≤ 4294967295 = grind (arith, nat_tests) in
        let wide : 4294967295 < y * (10 ^ k * 10) = rw pow-suc at l in
        omega (arith, r small (larger y (b - 48) (10 ^ k) wide) f)

begins : (b c : ℕ) (bs : List ℕ) → begins_ill (b ∷ c ∷ bs) ≡ eqb b 48
unfolding begins_ill
begins b c bs =
    let some : suc (suc (length bs)) ≡ 0 → ⊥ = omega arith in
    let more : 1 < suc (suc (length bs)) = omega arith in
    rw (ne_eqb (suc (suc (length bs))) 0 some, lt-ltb 1 (suc (suc (length bs))) more) (go (eqb b 48))
  where
    go : (t : Bool) → (t && true) ≡ t
    go true = refl
    go false = refl

number_short : (f : List ℕ) {x : ℕ} → number_of f ≡ Some x → length f ≤ 10
unfolding number_of begins_ill grow digit_on
number_short [] e = absurd (cc)
number_short (b ∷ []) e = omega arith
number_short (b ∷ c ∷ bs) {x} e = zero_first (eqb b 48) refl (rw (begins b c bs) at e)
  where
    first : (t : Bool) → (no_digit b || ltb 4294967295 (0 * 10 + (b - 48))) ≡ t → (b ≡ 48 → ⊥) → grow (cond t None (Some (0 * 10 + (b - 48)))) (c ∷ bs) ≡ Some x → suc (suc (length bs)) ≤ 10
    first true q ne f = absurd (let z = rw (grow_none (c ∷ bs)) at f in cc)
    first false q ne f =
        let small : 0 * 10 + (b - 48) ≤ 4294967295 = grind (arith, nat_tests) in
        let digit : 48 ≤ b = grind (arith, nat_tests) in
        omega (arith, grow_few 10 (0 * 10 + (b - 48)) (c ∷ bs) small (omega arith) f)

    zero_first : (t : Bool) → eqb b 48 ≡ t → cond t None (grow (digit_on (Some 0) b) (c ∷ bs)) ≡ Some x → suc (suc (length bs)) ≤ 10
    zero_first true q f = absurd (cc)
    zero_first false q f = first (no_digit b || ltb 4294967295 (0 * 10 + (b - 48))) refl (eqb-false b 48 q) f

-- ---- a line

-- how many bytes some fields have, each with the byte behind it
unfoldable span : List (List ℕ) → ℕ
span [] = 0
span (p ∷ ps) = length p + 1 + span ps

span-parts : (b : ℕ) (s : List ℕ) → span (parts b s) ≡ length s + 1
unfolding parts span on_first
span-parts b [] = refl
span-parts b (x ∷ xs) = go (eqb x b) (span-parts b xs)
  where
    go : (t : Bool) → span (parts b xs) ≡ length xs + 1 → span (cond t ([] ∷ parts b xs) (on_first x (parts b xs))) ≡ suc (length xs) + 1
    go true e = omega arith
    go false e = let k = rw (parts-cons b xs) at e in rw (parts-cons b xs) (omega arith)

fields_short : (fs : List (List ℕ)) {ns : List ℕ} → numbers_of fs ≡ Some ns → span fs ≤ 11 * length ns
unfolding span numbers_of
fields_short [] e = omega arith
fields_short (f ∷ fs) {ns} e = go (number_of f) refl (numbers_of fs) (λ xs k. fields_short fs k) e
  where
    go : (o : Option ℕ) → number_of f ≡ o → (m : Option (List ℕ)) → ((xs : List ℕ) → m ≡ Some xs → span fs ≤ 11 * length xs)
        → option_and_then (λ x. option_map (λ xs. x ∷ xs) m) o ≡ Some ns → length f + 1 + span fs ≤ 11 * length ns
    go None h m r d = absurd (cc)
    go (Some x) h None r d = absurd (cc)
    go (Some x) h (Some xs) r d = let same : x ∷ xs ≡ ns = cc in omega (arith, ap length same, number_short f h, r xs refl)

-- eight counts at most, behind three numbers
counts_few : (ns : List ℕ) {v : List ℕ} → counts_of ns ≡ Some v → (length ns ≡ length v + 3) × (length v ≤ 8)
unfolding counts_of
counts_few [] e = absurd (cc)
counts_few (s ∷ []) e = absurd (cc)
counts_few (s ∷ b ∷ []) e = absurd (cc)
counts_few (s ∷ b ∷ c ∷ cs) {v} e =
    let p = cond_some (sound s b (length cs)) cs v e in
    let n = ap length p.1 in
    let few : length cs ≤ 8 = grind (arith, nat_tests, p.0) in (omega arith, omega arith)

pub reading_short : (l : List ℕ) {v : List ℕ} → reading_of l ≡ Some v → (length l < 121) × (length v ≤ 8)
unfolding reading_of
reading_short l {v} e =
    option_and_then_some counts_of (numbers_of (parts tab l)) v e (λ ns r c. let few = counts_few ns c in (omega (arith, fields_short (parts tab l) r, span-parts tab l, few.0, few.1), few.1))
