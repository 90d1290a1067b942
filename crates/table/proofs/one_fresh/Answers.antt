use Rattle.table.proofs.Determined.{one-fresh}
use Rattle.table.proofs.one_fresh.Goals as goal

pub returns : goal.returns
returns c = one-fresh
