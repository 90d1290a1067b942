use Rattle.exclusion.proofs.Theorems.{demand3}
use Rattle.exclusion.proofs.demand_3.Goals as goal

pub returns : goal.returns
returns c = demand3
