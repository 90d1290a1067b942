-- What a run promises leaves nothing open, and how many steps it takes.
use Rattle.std.specs.Prelude.{ℕ, min, ◌≡◌, List, Result, length}
use Rattle.lamport.specs.Table.{Table}
use Rattle.lamport.specs.declared.Step.{Step}
use Rattle.schedule.specs.declared.Refused.{Refused}
use Rattle.run.specs.Listing.{records}
use Rattle.run.specs.Run.{Outcome, Answers}

-- two answers and outputs that an outcome allows are the same
abbrev pub OneRun : Type 0
OneRun = (o : Outcome) (before after left : List ℕ) (a b : Result ℕ Refused) → Answers o a before after → Answers o b before left → (a ≡ b) × (after ≡ left)

-- the steps taken are the lesser of the budget and the steps that there are
abbrev pub StepsTaken : Type 0
StepsTaken = (k budget : ℕ) (s : Table) (xs : List Step) → length (records k budget s xs) ≡ min budget (length xs)
