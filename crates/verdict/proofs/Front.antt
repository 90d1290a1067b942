-- Two lines of readings and a byte more are enough to judge a text: a longer line is none of readings.
use mathlib.Core.Path.{◌≡◌, refl, sym, ap, ◌∙◌}
use mathlib.Core.Bool.{Bool, true, false, cond}
use mathlib.Core.List.{List, [], ◌∷◌}
use Prim.Native.Nat.{ℕ, zero, suc, ◌+◌, ◌-◌, ◌≤◌, ◌<◌}
use native.Mathlib.Omega.{arith}
use native.Mathlib.Decide.{dec_lt}
use native.Mathlib.Nat.{eq-or-lt_of_le}
use lib.Dec.{eqb}
use lib.ListN.{length, take, drop, length-take}
use Rattle.std.specs.Prelude.{Option, Some, None, Ok}
use Rattle.std.specs.Option.{option_map_or}
use Rattle.std.proofs.Common.{⊎_elim}
use Rattle.std.proofs.lemmas.List.{drop-take, take_all, length-take-le}
use Rattle.lamport.specs.Vectors.{counts_in}
use Rattle.stamps.specs.Compare.{comparison}
use Rattle.schedule.specs.Parts.{lf, parts}
use Rattle.schedule.specs.Schedule.{bad_line}
use Rattle.schedule.proofs.PartsLaws.{up_to, up_to-short, parts-one, parts_cut}
use Rattle.verdict.specs.Reading.{reading_of}
use Rattle.verdict.specs.Verdict.{on_reading, ended, compared, second_line, verdict_of}
use Rattle.verdict.specs.Shown.{shown, printed}
use Rattle.verdict.proofs.Short.{reading_short}
use Rattle.verdict.proofs.Opened.{on_cut, on_uncut, some_bytes, ended-parts}

up_to-front : (b n : ℕ) (s : List ℕ) → up_to b (take n s) ≡ take n (up_to b s)
unfolding up_to
up_to-front b zero s = refl
up_to-front b (suc n) [] = refl
up_to-front b (suc n) (x ∷ xs) = go (eqb x b) (up_to-front b n xs)
  where
    go : (t : Bool) → up_to b (take n xs) ≡ take n (up_to b xs) → cond t [] (x ∷ up_to b (take n xs)) ≡ take (suc n) (cond t [] (x ∷ up_to b xs))
    go true e = refl
    go false e = ap (λ (l : List ℕ). x ∷ l) e

module _ {A : Type 0} (f : List ℕ → List (List ℕ) → A) (bad : A) (n : ℕ) (s : List ℕ) (enough : 121 ≤ n)
    (onward : (v rest : List ℕ) (k : ℕ) → n ≤ k + 121 → f v (parts lf (take k rest)) ≡ f v (parts lf rest)) where
  -- the first line ends behind the front: it is too long
  too_long : n ≤ length (up_to lf s) → on_reading (parts lf (take n s)) f bad ≡ on_reading (parts lf s) f bad
  too_long h = on_uncut f bad (take n s) (parts-one lf (take n s) same) ∙ sym (⊎_elim uncut cut (eq-or-lt_of_le within))
    where
      within : length (up_to lf s) ≤ length s
      within = up_to-short lf s

      same : length (up_to lf (take n s)) ≡ length (take n s)
      same = rw (up_to-front lf n s, length-take-le n (up_to lf s) h, length-take-le n s (omega (arith, within)))

      uncut : length (up_to lf s) ≡ length s → on_reading (parts lf s) f bad ≡ bad
      uncut k = on_uncut f bad s (parts-one lf s k)

      none : (r : List (List ℕ)) (o : Option (List ℕ)) → reading_of (up_to lf s) ≡ o → option_map_or (λ v. f v r) o bad ≡ bad
      none r None e = refl
      none r (Some v) e = absurd (omega (arith, (reading_short (up_to lf s) e).0, h, enough))

      cut : length (up_to lf s) < length s → on_reading (parts lf s) f bad ≡ bad
      cut k = on_cut f bad s _ (parts_cut lf s k) ∙ none _ (reading_of (up_to lf s)) refl

  -- it ends in the front
  kept : length (up_to lf s) < n → length (up_to lf s) < length s → on_reading (parts lf (take n s)) f bad ≡ on_reading (parts lf s) f bad
  kept h k =
      on_cut f bad (take n s) (take left rest) parted
      ∙ some (reading_of (up_to lf s)) refl
      ∙ sym (on_cut f bad s rest (parts_cut lf s k))
    where
      left : ℕ
      left = n - (length (up_to lf s) + 1)

      rest : List ℕ
      rest = drop (length (up_to lf s) + 1) s

      same : up_to lf (take n s) ≡ up_to lf s
      same = up_to-front lf n s ∙ take_all n (up_to lf s) (omega (arith, h))

      there : length (up_to lf (take n s)) < length (take n s)
      there = rw same (simp length-take (omega (arith, h, k)))

      whole : n ≡ length (up_to lf s) + 1 + left
      whole = omega (arith, h)

      after : drop (length (up_to lf s) + 1) (take n s) ≡ take left rest
      after = ap (λ m. drop (length (up_to lf s) + 1) (take m s)) whole ∙ drop-take (length (up_to lf s) + 1) left s

      parted : parts lf (take n s) ≡ up_to lf s ∷ parts lf (take left rest)
      parted = rw (same, after) at (parts_cut lf (take n s) there)

      some : (o : Option (List ℕ)) → reading_of (up_to lf s) ≡ o → option_map_or (λ v. f v (parts lf (take left rest))) o bad ≡ option_map_or (λ v. f v (parts lf rest)) o bad
      some None e = refl
      some (Some v) e = onward v rest left (omega (arith, (reading_short (up_to lf s) e).0, h))

  pub front_reading : on_reading (parts lf (take n s)) f bad ≡ on_reading (parts lf s) f bad
  front_reading = go (dec_lt (length (up_to lf s)) n) (dec_lt (length (up_to lf s)) (length s))
    where
      go : Dec (length (up_to lf s) < n) → Dec (length (up_to lf s) < length s) → on_reading (parts lf (take n s)) f bad ≡ on_reading (parts lf s) f bad
      go (no nh) d = too_long (omega arith)
      go (yes h) (yes k) = kept h k
      go (yes h) (no nk) = ap (λ t. on_reading (parts lf t) f bad) (take_all n s (omega arith))

ended_front : (k : ℕ) (s : List ℕ) → 1 ≤ k → ended (parts lf (take k s)) ≡ ended (parts lf s)
ended_front k s h = rw (ended-parts (take k s), ended-parts s) (go k s h)
  where
    go : (k : ℕ) (s : List ℕ) → 1 ≤ k → eqb (length (take k s)) 0 ≡ eqb (length s) 0
    go zero s h = absurd (omega arith)
    go (suc k) [] h = refl
    go (suc k) (x ∷ xs) h = rw (some_bytes (length (take k xs)), some_bytes (length xs))

front_judged : (n : ℕ) → 243 ≤ n → (s : List ℕ) → verdict_of (take n s) ≡ verdict_of s
unfolding verdict_of second_line compared
front_judged n enough s =
    front_reading second_line (bad_line 1) n s (omega arith) (λ v rest k h.
    front_reading (compared v) (bad_line 2) k rest (omega arith) (λ w after j g.
    ap (λ t. cond (eqb (length w) (length v)) (cond t (Ok (comparison (counts_in v) (counts_in w))) (bad_line 3)) (bad_line 2)) (ended_front j after (omega arith))))

pub front_printed : (n : ℕ) → 243 ≤ n → (input : List ℕ) → printed (take n input) ≡ printed input
front_printed n enough input = ap shown (front_judged n enough input)
