use Rattle.counted.proofs.Determined.{one-outcome}
use Rattle.counted.proofs.one_outcome.Goals as goal

pub returns : goal.returns
returns c = one-outcome
