use Rattle.counted.proofs.Determined.{one-fresh}
use Rattle.counted.proofs.one_fresh.Goals as goal

pub returns : goal.returns
returns c = one-fresh
