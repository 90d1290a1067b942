-- A text by its first line: the reading that it is, and what follows its LF.
use mathlib.Core.Path.{◌≡◌, refl, ap, ◌∙◌}
use mathlib.Core.Bool.{Bool, true, false, cond}
use mathlib.Core.List.{List, [], ◌∷◌}
use Prim.Native.Nat.{ℕ, suc, ◌≤◌}
use native.Mathlib.Omega.{arith}
use borrow.Author.Tests.{ne_eqb}
use lib.Dec.{eqb}
use lib.ListN.{length, drop}
use Rattle.std.specs.Prelude.{Option, Some, None, Result, Ok, Err}
use Rattle.std.specs.Option.{option_map, option_map_or}
use Rattle.stamps.specs.declared.Comparison.{Comparison}
use Rattle.schedule.specs.Parts.{lf, parts, on_first, IsCut}
use Rattle.schedule.specs.Schedule.{bad_line}
use Rattle.schedule.specs.declared.Refused.{Refused}
use Rattle.schedule.proofs.PartsLaws.{up_to, parts-cons}
use Rattle.verdict.specs.Reading.{reading_of, reading_kept}
use Rattle.verdict.specs.Verdict.{on_reading, ended, reading_then}
use Rattle.verdict.specs.declared.Reading.{Reading}
use Rattle.verdict.proofs.Short.{reading_short}

module _ {A : Type 0} (f : List ℕ → List (List ℕ) → A) (bad : A) (s : List ℕ) where
  -- an LF ends the first line
  pub on_cut : {l : List ℕ} (rest : List ℕ) → parts lf s ≡ l ∷ parts lf rest → on_reading (parts lf s) f bad ≡ option_map_or (λ v. f v (parts lf rest)) (reading_of l) bad
  unfolding on_reading
  on_cut {l} rest parted = rw (parted, parts-cons lf rest)

  pub on_uncut : parts lf s ≡ s ∷ [] → on_reading (parts lf s) f bad ≡ bad
  unfolding on_reading
  on_uncut one = rw one

-- a text opened: no LF, an LF behind what is none of readings, a reading
module _ (k : ℕ) (s : List ℕ) where
  pub open_uncut : parts lf s ≡ s ∷ [] → on_reading (parts lf s) reading_then (bad_line k) ≡ bad_line k
  open_uncut one = on_uncut reading_then (bad_line k) s one

  module _ {l rest : List ℕ} (cut : IsCut lf s l rest) where
    pub open_bad : option_map reading_kept (reading_of l) ≡ None → on_reading (parts lf s) reading_then (bad_line k) ≡ bad_line k
    open_bad e = on_cut reading_then (bad_line k) s rest cut.parted ∙ go (reading_of l) e
      where
        go : (o : Option (List ℕ)) → option_map reading_kept o ≡ None → option_map_or (λ v. reading_then v (parts lf rest)) o (bad_line k) ≡ bad_line k
        go None d = refl
        go (Some v) d = absurd (cc)

    pub open_read : {r : Reading} → option_map reading_kept (reading_of l) ≡ Some r → on_reading (parts lf s) reading_then (bad_line k) ≡ Ok (r, parts lf rest)
    open_read {r} e = on_cut reading_then (bad_line k) s rest cut.parted ∙ go (reading_of l) e
      where
        go : (o : Option (List ℕ)) → option_map reading_kept o ≡ Some r → option_map_or (λ v. reading_then v (parts lf rest)) o (bad_line k) ≡ Ok (r, parts lf rest)
        go None d = absurd (cc)
        go (Some v) d = let same : reading_kept v ≡ r = cc in rw same

pub ruleset opening = (open_uncut, open_bad, open_read)

pub some_bytes : (n : ℕ) → eqb (suc n) 0 ≡ false
some_bytes n = ne_eqb (suc n) 0 (omega arith)

-- nothing follows exactly if no byte does
pub ended-parts : (s : List ℕ) → ended (parts lf s) ≡ eqb (length s) 0
unfolding ended parts on_first
ended-parts [] = refl
ended-parts (x ∷ xs) = rw (parts-cons lf xs, some_bytes (length xs)) (go (eqb x lf) (drop 1 (parts lf xs)))
  where
    go : (t : Bool) (ps : List (List ℕ)) → ended (cond t ([] ∷ up_to lf xs ∷ ps) ((x ∷ up_to lf xs) ∷ ps)) ≡ false
    go true ps = refl
    go false [] = some_bytes (length (up_to lf xs))
    go false (p ∷ ps) = refl

-- some lines begin with the reading r, and others are after it
pub record Opened (ls : List (List ℕ)) (r : Reading) (after : List (List ℕ)) : Type 0 where
  pub counts : List ℕ
  pub few : length counts ≤ 8
  pub kept : reading_kept counts ≡ r
  pub on : (f : List ℕ → List (List ℕ) → Result Comparison Refused) (bad : Result Comparison Refused) → on_reading ls f bad ≡ f counts after

pub opened : (ls : List (List ℕ)) (k : ℕ) {r : Reading} {after : List (List ℕ)} → on_reading ls reading_then (bad_line k) ≡ Ok (r, after) → Opened ls r after
unfolding on_reading
opened [] k e = absurd (cc)
opened (l ∷ []) k e = absurd (cc)
opened (l ∷ m ∷ ls) k {r} {after} e = go (reading_of l) refl e
  where
    go : (o : Option (List ℕ)) → reading_of l ≡ o → option_map_or (λ v. reading_then v (m ∷ ls)) o (bad_line k) ≡ Ok (r, after) → Opened (l ∷ m ∷ ls) r after
    go None h d = absurd (cc)
    go (Some v) h d =
        let same : ◌≡◌ {A = Reading × List (List ℕ)} (reading_kept v, m ∷ ls) (r, after) = cc in
        record { counts = v; few = (reading_short l h).1; kept = ap (λ x. x.0) same; on = λ f bad. rw h (ap (λ x. f v x.1) same) }

-- they begin with none
pub unopened : (ls : List (List ℕ)) (k : ℕ) {x : Refused} → on_reading ls reading_then (bad_line k) ≡ Err x
    → (f : List ℕ → List (List ℕ) → Result Comparison Refused) → on_reading ls f (bad_line k) ≡ Err x
unfolding on_reading
unopened [] k e f = cc
unopened (l ∷ []) k e f = cc
unopened (l ∷ m ∷ ls) k {x} e f = go (reading_of l) e
  where
    go : (o : Option (List ℕ)) → option_map_or (λ v. reading_then v (m ∷ ls)) o (bad_line k) ≡ Err x → option_map_or (λ v. f v (m ∷ ls)) o (bad_line k) ≡ Err x
    go None d = cc
    go (Some v) d = absurd (cc)
