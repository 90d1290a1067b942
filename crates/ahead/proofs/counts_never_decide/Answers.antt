use Rattle.ahead.proofs.Ahead.{never-decides}
use Rattle.ahead.proofs.counts_never_decide.Goals as goal

pub returns : goal.returns
returns c = never-decides
