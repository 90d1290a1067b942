use Rattle.causal.proofs.Told.{stamps-tell}
use Rattle.causal.proofs.stamps_tell.Goals as goal

pub returns : goal.returns
returns c = stamps-tell
