use Rattle.causal.proofs.Placed.{reading-placed}
use Rattle.causal.proofs.reading_placed.Goals as goal

pub returns : goal.returns
returns c = reading-placed
