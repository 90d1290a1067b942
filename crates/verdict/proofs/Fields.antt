-- The numbers of a line, gathered one at a time; and what is read in them.
use mathlib.Core.Path.{◌≡◌, refl, sym}
use mathlib.Core.List.{List, [], ◌∷◌, ◌++◌, append_assoc, append-nil}
use Prim.Native.Nat.{ℕ, suc, ◌+◌, ◌-◌, ◌≤◌, ◌<◌}
use native.Mathlib.Omega.{arith}
use native.Mathlib.Decide.{dec_lt}
use borrow.Author.Tests.{lt-ltb, le-ltb, le-leb, lt-leb}
use lib.ListN.{length, set, length-append}
use lib.Seq.{set-append_seam}
use Rattle.std.specs.Prelude.{Option, Some, None}
use Rattle.std.specs.Option.{option_map, option_and_then}
use Rattle.schedule.specs.Parts.{tab, parts, IsCut}
use Rattle.schedule.specs.Number.{number_of}
use Rattle.verdict.specs.Reading.{numbers_of, padded, with_number, numbers_kept}
use Rattle.verdict.specs.declared.Numbers.{Numbers}

-- what is gathered so far, and the fields that are left
unfoldable pub gathered : Numbers → List (List ℕ) → Option Numbers
gathered r [] = Some r
gathered r (f ∷ fs) = option_and_then (λ q. gathered q fs) (with_number r (number_of f))

-- some numbers, gathered
abbrev pub row : List ℕ → Numbers
row xs = record { many = length xs; all = padded 11 xs }

row-more : (xs : List ℕ) (x : ℕ) → length xs < 11 → ◌≡◌ {A = Numbers} (record { many = length xs + 1; all = set (padded 11 xs) (length xs) x }) (row (xs ++ (x ∷ [])))
row-more xs x h =
    let left : 11 - length xs ≡ suc (10 - length xs) = omega arith in
    let fewer : 11 - (length xs + 1) ≡ 10 - length xs = omega arith in
    rw (left, set-append_seam, length-append, fewer) (simp append_assoc)

kept_few : (xs : List ℕ) → length xs ≤ 11 → numbers_kept xs ≡ Some (row xs)
unfolding numbers_kept
kept_few xs h = rw (le-leb (length xs) 11 h)

kept_many : (xs : List ℕ) → 11 < length xs → numbers_kept xs ≡ None
unfolding numbers_kept
kept_many xs h = rw (lt-leb (length xs) 11 h)

gathered_on : (xs : List ℕ) (fs : List (List ℕ)) → length xs ≤ 11 → gathered (row xs) fs ≡ option_and_then (λ ys. numbers_kept (xs ++ ys)) (numbers_of fs)
unfolding gathered numbers_of with_number
gathered_on xs [] h = rw append-nil (sym (kept_few xs h))
gathered_on xs (f ∷ fs) h = go (number_of f) (dec_lt (length xs) 11) (numbers_of fs) (λ x k. gathered_on (xs ++ (x ∷ [])) fs k)
  where
    more : (x : ℕ) (m : Option (List ℕ)) → option_and_then (λ ys. numbers_kept ((xs ++ (x ∷ [])) ++ ys)) m ≡ option_and_then (λ ys. numbers_kept (xs ++ ys)) (option_map (λ ys. x ∷ ys) m)
    more x None = refl
    more x (Some ys) = simp append_assoc

    full : (x : ℕ) (m : Option (List ℕ)) → 11 ≤ length xs → None ≡ option_and_then (λ ys. numbers_kept (xs ++ ys)) (option_map (λ ys. x ∷ ys) m)
    full x None k = refl
    full x (Some ys) k = sym (kept_many (xs ++ (x ∷ ys)) (simp length-append (omega arith)))

    go : (o : Option ℕ) → Dec (length xs < 11) → (m : Option (List ℕ))
        → ((x : ℕ) → length (xs ++ (x ∷ [])) ≤ 11 → gathered (row (xs ++ (x ∷ []))) fs ≡ option_and_then (λ ys. numbers_kept ((xs ++ (x ∷ [])) ++ ys)) m)
        → option_and_then (λ q. gathered q fs) (with_number (row xs) o) ≡ option_and_then (λ ys. numbers_kept (xs ++ ys)) (option_and_then (λ x. option_map (λ ys. x ∷ ys) m) o)
    go None d m k = refl
    go (Some x) (yes l) m k = rw (lt-ltb (length xs) 11 l, row-more xs x l, k x (simp length-append (omega arith))) (more x m)
    go (Some x) (no nl) m k = let l : 11 ≤ length xs = omega arith in rw (le-ltb (length xs) 11 l) (full x m l)

-- the next field, with more behind it
module _ (r : Numbers) (s : List ℕ) {f after : List ℕ} (cut : IsCut tab s f after) where
  pub field_bad : with_number r (number_of f) ≡ None → gathered r (parts tab s) ≡ None
  unfolding gathered
  field_bad e = rw (cut.parted, e)

  pub field_read : {q : Numbers} → with_number r (number_of f) ≡ Some q → gathered r (parts tab s) ≡ gathered q (parts tab after)
  unfolding gathered
  field_read e = rw (cut.parted, e)

-- the last field
module _ (r : Numbers) (s : List ℕ) (one : parts tab s ≡ s ∷ []) where
  pub field_last : gathered r (parts tab s) ≡ with_number r (number_of s)
  unfolding gathered
  field_last = rw one (go (with_number r (number_of s)))
    where
      go : (o : Option Numbers) → option_and_then (λ q. Some q) o ≡ o
      go None = refl
      go (Some q) = refl

pub ruleset gathering = (field_bad, field_read, field_last)

pub gathered_all : (s : List ℕ) → gathered (row []) (parts tab s) ≡ option_and_then numbers_kept (numbers_of (parts tab s))
gathered_all s = gathered_on [] (parts tab s) (omega arith)
