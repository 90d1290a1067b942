use Rattle.causal.proofs.Shown.{counts-shown}
use Rattle.causal.proofs.counts_shown.Goals as goal

pub returns : goal.returns
returns c = counts-shown
