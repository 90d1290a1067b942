use Rattle.engine.proofs.Told.{holder_told}
use Rattle.engine.proofs.holder_told.Goals as goal

pub returns : goal.returns
returns c = holder_told
