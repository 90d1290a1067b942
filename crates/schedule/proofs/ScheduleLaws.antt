-- A schedule from a line on: what is checked of it, and its steps.
use mathlib.Core.Bool.{Bool, true, false, cond}
use mathlib.Core.List.{List, [], ◌∷◌}
use mathlib.Core.Path.{◌≡◌, refl, ◌∙◌}
use Prim.Native.Nat.{ℕ, suc, ◌+◌}
use native.Mathlib.Numerals.{add-one}
use lib.Dec.{eqb}
use lib.ListN.{length}
use Rattle.std.specs.Prelude.{Option, Some, None, Result, Ok, Err}
use Rattle.std.specs.Result.{result_map_both}
use Rattle.lamport.specs.Table.{sizes_ok}
use Rattle.lamport.specs.declared.Setup.{Setup}
use Rattle.lamport.specs.declared.Step.{Step}
use Rattle.schedule.specs.Parts.{lf, parts, count, IsCut}
use Rattle.schedule.specs.Lines.{line_of}
use Rattle.schedule.specs.Schedule.{if_step, bad_line, bad_sizes, check_steps, check_header, check_lines, check_of, on_step, steps_of, schedule_steps}
use Rattle.schedule.specs.declared.Line.{Line}
use Rattle.schedule.specs.declared.Line.TheVariants as L
use Rattle.schedule.specs.declared.Refused.{Refused}
use Rattle.schedule.proofs.PartsLaws.{up_to, up_to-short, parts-cons, parts-one, length_cut, count_cut}

-- a line in front of what follows its LF, which is one part or more
module _ (s l rest : List ℕ) (parted : parts lf s ≡ l ∷ parts lf rest) where
  check_line : {A : Type 0} (good : Result A Refused) (k : ℕ) → check_steps good k (parts lf s) ≡ if_step (line_of l) (λ x. check_steps good (k + 1) (parts lf rest)) (bad_line k)
  unfolding check_steps
  check_line good k = rw (parted, parts-cons lf rest, add-one)

  steps_cons : steps_of (parts lf s) ≡ on_step (line_of l) (steps_of (parts lf rest))
  unfolding steps_of
  steps_cons = rw (parted, parts-cons lf rest)

  pub check_headed : check_of s ≡ check_header (line_of l) (parts lf rest)
  unfolding check_of check_lines
  check_headed = rw (parted, parts-cons lf rest)

  pub steps_headed : schedule_steps s ≡ steps_of (parts lf rest)
  unfolding schedule_steps
  steps_headed = rw parted

-- a text that no LF ends
module _ (s : List ℕ) (one : parts lf s ≡ s ∷ []) where
  pub check_open : {A : Type 0} (good : Result A Refused) (k : ℕ) → check_steps good k (parts lf s) ≡ cond (eqb (length s) 0) good (bad_line k)
  unfolding check_steps
  check_open good k = rw one

  pub steps_uncut : steps_of (parts lf s) ≡ []
  unfolding steps_of
  steps_uncut = rw one

  pub check_empty : check_of s ≡ bad_line 1
  unfolding check_of check_lines
  check_empty = rw one

-- the lines after the header, by what the first of them says
module _ (s : List ℕ) {l rest : List ℕ} (cut : IsCut lf s l rest) where
  module _ {A : Type 0} (good : Result A Refused) (k : ℕ) where
    pub check_at_step : {x : Step} → line_of l ≡ Some (L.Step x) → check_steps good k (parts lf s) ≡ check_steps good (k + 1) (parts lf rest)
    unfolding if_step
    check_at_step e = rw e at (check_line s l rest cut.parted good k)

    pub check_at_header : {setup : Setup} → line_of l ≡ Some (L.Header setup) → check_steps good k (parts lf s) ≡ bad_line k
    unfolding if_step
    check_at_header e = rw e at (check_line s l rest cut.parted good k)

    pub check_at_bad : line_of l ≡ None → check_steps good k (parts lf s) ≡ bad_line k
    unfolding if_step
    check_at_bad e = rw e at (check_line s l rest cut.parted good k)

  pub steps_at_step : {x : Step} → line_of l ≡ Some (L.Step x) → steps_of (parts lf s) ≡ x ∷ steps_of (parts lf rest)
  unfolding if_step
  steps_at_step e = rw e at (steps_cons s l rest cut.parted)

  pub steps_at_header : {setup : Setup} → line_of l ≡ Some (L.Header setup) → steps_of (parts lf s) ≡ []
  unfolding if_step
  steps_at_header e = rw e at (steps_cons s l rest cut.parted)

  pub steps_at_bad : line_of l ≡ None → steps_of (parts lf s) ≡ []
  unfolding if_step
  steps_at_bad e = rw e at (steps_cons s l rest cut.parted)

pub ruleset stepping = (steps_at_step, steps_at_header, steps_at_bad, steps_uncut, length_cut, count_cut)

pub ruleset checking = (check_at_step, check_at_header, check_at_bad, check_open, length_cut, count_cut)

-- what is good is only handed on: a refusal is the same, whatever it is
other_good : {A B : Type 0} (a : A) (b : B) (k : ℕ) (ls : List (List ℕ)) → check_steps (Ok b) k ls ≡ result_map_both (λ _. b) (λ x. x) (check_steps (Ok a) k ls)
unfolding check_steps if_step
other_good a b k [] = refl
other_good a b k (l ∷ []) = go (eqb (length l) 0)
  where
    go : (t : Bool) → cond t (Ok b) (bad_line k) ≡ result_map_both (λ _. b) (λ x. x) (cond t (Ok a) (bad_line k))
    go true = refl
    go false = refl
other_good a b k (l ∷ m ∷ ls) = go (line_of l) (other_good a b (suc k) (m ∷ ls))
  where
    go : (x : Option Line) → check_steps (Ok b) (suc k) (m ∷ ls) ≡ result_map_both (λ _. b) (λ x. x) (check_steps (Ok a) (suc k) (m ∷ ls)) → if_step x (λ _. check_steps (Ok b) (suc k) (m ∷ ls)) (bad_line k) ≡ result_map_both (λ _. b) (λ x. x) (if_step x (λ _. check_steps (Ok a) (suc k) (m ∷ ls)) (bad_line k))
    go (Some (L.Header setup)) e = refl
    go (Some (L.Step x)) e = e
    go None e = refl

-- and it is what was handed on
pub same_good : {A : Type 0} (a b : A) (k : ℕ) (ls : List (List ℕ)) → check_steps (Ok a) k ls ≡ Ok b → b ≡ a
same_good a b k ls e = let h = rw e at (other_good a a k ls) in cc

-- a schedule by what its first line says
module _ (s : List ℕ) {l rest : List ℕ} (cut : IsCut lf s l rest) where
  pub heads_bad : line_of l ≡ None → check_of s ≡ bad_line 1
  unfolding check_header
  heads_bad e = rw e at (check_headed s l rest cut.parted)

  pub heads_step : {x : Step} → line_of l ≡ Some (L.Step x) → check_of s ≡ bad_line 1
  unfolding check_header
  heads_step e = rw e at (check_headed s l rest cut.parted)

  module _ {setup : Setup} (e : line_of l ≡ Some (L.Header setup)) where
    pub heads_ill : sizes_ok setup.benches setup.capacity ≡ false → check_of s ≡ bad_sizes
    unfolding check_header
    heads_ill h = rw (e, h) at (check_headed s l rest cut.parted)

    heads_well : (n : ℕ) → sizes_ok setup.benches setup.capacity ≡ true → check_of s ≡ result_map_both (λ _. setup) (λ x. x) (check_steps (Ok n) 2 (parts lf rest))
    unfolding check_header
    heads_well n h = rw (e, h) at (check_headed s l rest cut.parted) ∙ other_good n setup 2 (parts lf rest)

    pub heads_good : {n : ℕ} → sizes_ok setup.benches setup.capacity ≡ true → check_steps (Ok (count lf rest + 1)) 2 (parts lf rest) ≡ Ok n → check_of s ≡ Ok setup
    heads_good h k = rw k at (heads_well (count lf rest + 1) h)

    pub heads_refused : {x : Refused} → sizes_ok setup.benches setup.capacity ≡ true → check_steps (Ok (count lf rest + 1)) 2 (parts lf rest) ≡ Err x → check_of s ≡ Err x
    heads_refused h k = rw k at (heads_well (count lf rest + 1) h)

pub ruleset heading = (heads_bad, heads_step, heads_ill, heads_good, heads_refused, check_empty)
