-- The records of a run, as a loop makes them one by one.
use Prim.Native.Nat.{ℕ, zero, suc, ◌+◌, ◌-◌, ◌≤◌}
use native.Mathlib.Omega.{arith}
use mathlib.Core.Path.{◌≡◌, refl, sym, ap, ◌∙◌}
use mathlib.Core.List.{List, [], ◌∷◌, ◌++◌, append_assoc}
use lib.ListN.{length}
use Rattle.lamport.specs.Table.{Table}
use Rattle.lamport.specs.Refusals.{answer, next}
use Rattle.lamport.specs.declared.Step.{Step}
use Rattle.listing.specs.Record.{record_text}
use Rattle.listing.specs.declared.Record.{Record}
use Rattle.report.specs.Report.{record_of}
use Rattle.run.specs.Listing.{records, lines, refused_one, refused_in}
use Rattle.run.specs.One.{StepsTaken}

pub taken_is : StepsTaken
unfolding records
taken_is k zero s xs = omega arith
taken_is k (suc budget) s [] = omega arith
taken_is k (suc budget) s (x ∷ xs) = let e = taken_is (suc k) budget (next s x) xs in omega arith

pub records-end : (k budget : ℕ) (s : Table) → records k budget s [] ≡ []
unfolding records
records-end k zero s = refl
records-end k (suc budget) s = refl

pub records-over : (j budget k : ℕ) (s : Table) (xs : List Step) → k ≡ budget → records j (budget - k) s xs ≡ []
unfolding records
records-over j budget k s xs e = let z : budget - k ≡ 0 = omega arith in rw z

pub records-step : (k budget : ℕ) (s : Table) (x : Step) (xs : List Step) → k ≤ budget → (k ≡ budget → ⊥) →
    records (k + 1) (budget - k) s (x ∷ xs) ≡ record_of (k + 1) (answer s x) x (next s x) ∷ records (k + 1 + 1) (budget - (k + 1)) (next s x) xs
unfolding records
records-step k budget s x xs h n =
    let z : budget - k ≡ suc (budget - (k + 1)) = omega (arith, n) in
    let j : suc (k + 1) ≡ k + 1 + 1 = omega arith in
    rw z (ap (λ (i : ℕ). record_of (k + 1) (answer s x) x (next s x) ∷ records i (budget - (k + 1)) (next s x) xs) j)

-- the text w, k steps taken and f of them refused: with the records rs to come they make the whole
pub record Makes (w : List ℕ) (k f : ℕ) (rs whole : List Record) : Type 0 where
  pub text : w ++ lines rs ≡ lines whole
  pub taken : k + length rs ≡ length whole
  pub refusals : f + refused_in rs ≡ refused_in whole

append-none : (w : List ℕ) → w ++ [] ≡ w
append-none [] = refl
append-none (x ∷ w) = ap (λ (l : List ℕ). x ∷ l) (append-none w)

pub makes-start : (rs : List Record) → Makes [] 0 0 rs rs
makes-start rs = record { text = refl; taken = omega arith; refusals = omega arith }

-- nothing is to come
pub made-text : {w : List ℕ} {k f : ℕ} {rs whole : List Record} → rs ≡ [] → Makes w k f rs whole → w ≡ lines whole
unfolding lines
made-text {w} e m = sym (append-none w) ∙ rw e at m.text

pub made-taken : {w : List ℕ} {k f : ℕ} {rs whole : List Record} → rs ≡ [] → Makes w k f rs whole → k ≡ length whole
made-taken e m = let t = rw e at m.taken in omega arith

pub made-refusals : {w : List ℕ} {k f : ℕ} {rs whole : List Record} → rs ≡ [] → Makes w k f rs whole → f ≡ refused_in whole
unfolding refused_in
made-refusals e m = let t = rw e at m.refusals in omega arith

pub makes-step : {w : List ℕ} {k f : ℕ} {r : Record} {rs whole : List Record} → Makes w k f (r ∷ rs) whole → Makes (w ++ record_text r) (k + 1) (f + refused_one r.answer) rs whole
unfolding lines refused_in
makes-step {w} {k} {f} {r} {rs} m =
    record {
      text = append_assoc w (record_text r) (lines rs) ∙ m.text;
      taken = omega (arith, m.taken);
      refusals = omega (arith, m.refusals);
    }
