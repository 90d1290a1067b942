use Rattle.run.proofs.One.{one-run}
use Rattle.run.proofs.one_run.Goals as goal

pub returns : goal.returns
returns c = one-run
