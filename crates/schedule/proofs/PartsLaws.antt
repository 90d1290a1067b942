-- A text and its parts: the same in std's words, and how a text goes on after its first part.
use mathlib.Core.Path.{◌≡◌, refl, ap, ◌∙◌}
use mathlib.Core.Bool.{Bool, true, false, cond}
use mathlib.Core.List.{List, [], ◌∷◌}
use Prim.Native.Nat.{ℕ, suc, ◌+◌, ◌≤◌, ◌<◌}
use native.Mathlib.Omega.{arith}
use lib.ListN.{length, drop, take, get_or, length-append}
use lib.Dec.{eqb}
use Rattle.std.specs.Prelude.{Option, Some, None}
use Rattle.std.specs.List.{slice_split, onto_first, position, position_or_len, count_by}
use Rattle.std.proofs.lemmas.Bool.Decides.{nat_tests}
use Rattle.std.proofs.lemmas.List.Recursion.{is_count_by, is_position_or_len}
use Rattle.std.proofs.lemmas.List.Splits.{slice_split_first, length-slice_split}
use Rattle.std.proofs.lemmas.List.Sums.{count_by-le-length, prefix_len-le-length, split_at_first, passes_at_first}
use Rattle.schedule.specs.Parts.{parts, count, on_first, IsCut}

-- the part of a text before its first b, or all of it where there is none
unfoldable pub up_to : ℕ → List ℕ → List ℕ
up_to b [] = []
up_to b (x ∷ xs) = cond (eqb x b) [] (x ∷ up_to b xs)

-- in std's words
module _ (b : ℕ) where
  onto : (x : ℕ) (ps : List (List ℕ)) → on_first x ps ≡ onto_first x ps
  unfolding on_first
  onto x [] = refl
  onto x (p ∷ ps) = refl

  pub parts-slice_split : (s : List ℕ) → parts b s ≡ slice_split (λ x. eqb x b) s
  unfolding parts
  parts-slice_split [] = refl
  parts-slice_split (x ∷ xs) = rw (onto x (parts b xs), parts-slice_split xs)

  pub count-count_by : (s : List ℕ) → count b s ≡ count_by (λ x. eqb x b) s
  unfolding count
  count-count_by s = is_count_by (count b) (λ x. eqb x b) refl (λ x xs. go (eqb x b) (count b xs)) s
    where
      go : (t : Bool) (n : ℕ) → cond t (suc n) n ≡ cond t (1 + n) n
      go true n = omega arith
      go false n = refl

  pub length-up_to : (s : List ℕ) → length (up_to b s) ≡ position_or_len (λ x. eqb x b) s
  unfolding up_to
  length-up_to s = is_position_or_len (λ t. length (up_to b t)) (λ x. eqb x b) refl (λ x xs. go (eqb x b) x (up_to b xs)) s
    where
      go : (t : Bool) (x : ℕ) (xs : List ℕ) → length (cond t [] (x ∷ xs)) ≡ cond t 0 (1 + length xs)
      go true x xs = refl
      go false x xs = omega arith

-- the first part is the text's front
pub up_to-take : (b : ℕ) (s : List ℕ) → take (length (up_to b s)) s ≡ up_to b s
unfolding up_to
up_to-take b [] = refl
up_to-take b (x ∷ xs) = go (up_to-take b xs) (eqb x b)
  where
    go : take (length (up_to b xs)) xs ≡ up_to b xs → (t : Bool) → take (length (cond t [] (x ∷ up_to b xs))) (x ∷ xs) ≡ cond t [] (x ∷ up_to b xs)
    go e true = refl
    go e false = ap (λ (l : List ℕ). x ∷ l) e

pub up_to-short : (b : ℕ) (s : List ℕ) → length (up_to b s) ≤ length s
up_to-short b s = rw (length-up_to b s) (prefix_len-le-length _ s)

-- there is a first part
pub parts-cons : (b : ℕ) (s : List ℕ) → parts b s ≡ up_to b s ∷ drop 1 (parts b s)
unfolding up_to parts on_first
parts-cons b [] = refl
parts-cons b (x ∷ xs) = go (parts-cons b xs) (eqb x b)
  where
    go : parts b xs ≡ up_to b xs ∷ drop 1 (parts b xs) → (t : Bool) → cond t ([] ∷ parts b xs) (on_first x (parts b xs)) ≡ cond t [] (x ∷ up_to b xs) ∷ drop 1 (cond t ([] ∷ parts b xs) (on_first x (parts b xs)))
    go e true = refl
    go e false = rw e

-- a text with a b in it: its first part, and the parts of what follows the b
pub parts_cut : (b : ℕ) (s : List ℕ) → length (up_to b s) < length s → parts b s ≡ up_to b s ∷ parts b (drop (length (up_to b s) + 1) s)
parts_cut b s h =
    let e = slice_split_first (λ x. eqb x b) s 0 (rw (← length-up_to b s) h) in
    parts-slice_split b s ∙ rw (← length-up_to b s, up_to-take, ← parts-slice_split b (drop (length (up_to b s) + 1) s)) at e

-- a text with no b in it is one part
pub parts-one : (b : ℕ) (s : List ℕ) → length (up_to b s) ≡ length s → parts b s ≡ s ∷ []
unfolding up_to parts on_first
parts-one b [] h = refl
parts-one b (x ∷ xs) h = go (parts-one b xs) (eqb x b) h
  where
    go : (length (up_to b xs) ≡ length xs → parts b xs ≡ xs ∷ [])
        → (t : Bool) → length (cond t [] (x ∷ up_to b xs)) ≡ suc (length xs)
        → cond t ([] ∷ parts b xs) (on_first x (parts b xs)) ≡ (x ∷ xs) ∷ []
    go f true k = absurd (omega arith)
    go f false k = ap (on_first x) (f (omega arith))

-- there is one part more than there are b
pub parts-count : (b : ℕ) (s : List ℕ) → length (parts b s) ≡ count b s + 1
parts-count b s = rw (parts-slice_split, count-count_by) (length-slice_split _ s)

pub count-short : (b : ℕ) (s : List ℕ) → count b s ≤ length s
count-short b s = rw (count-count_by b s) (count_by-le-length _ s)

-- what `position` says of the first b
module _ (b : ℕ) (s : List ℕ) {r : Option ℕ} (is : r ≡ position (λ x. eqb x b) s) where
  pub uncut : r ≡ None → parts b s ≡ s ∷ []
  uncut e =
      let l = length-up_to b s in
      let h = up_to-short b s in
      let k : length s ≤ position_or_len (λ x. eqb x b) s = grind (arith, nat_tests) in
      parts-one b s (omega arith)

  pub cut_there : {end : ℕ} → r ≡ Some end → IsCut b s (take end s) (drop (end + 1) s)
  cut_there {end} e =
      let l = length-up_to b s in
      let k : (position_or_len (λ x. eqb x b) s < length s) × (end ≡ position_or_len (λ x. eqb x b) s) = grind (arith, nat_tests) in
      let at : get_or s (position_or_len (λ x. eqb x b) s) 0 ≡ b = let p = passes_at_first (λ x. eqb x b) s 0 k.0 in grind (arith, nat_tests) in
      let n : end ≡ length (up_to b s) = omega arith in
      record {
        parted = rw (n, up_to-take) (parts_cut b s (omega arith));
        whole = rw k.1 (rw at at (split_at_first (λ x. eqb x b) s 0 k.0));
      }

-- a text that is cut: there is a b less behind it, and less text
module _ {b : ℕ} {s f rest : List ℕ} (cut : IsCut b s f rest) where
  pub count_cut : count b s ≡ count b rest + 1
  count_cut = omega (arith, parts-count b s, parts-count b rest, ap length cut.parted)

  pub length_cut : length s ≡ length f + length rest + 1
  length_cut = omega (arith, simp length-append at (ap length cut.whole))
