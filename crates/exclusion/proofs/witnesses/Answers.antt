use Rattle.exclusion.proofs.Witness.{witnessed}
use Rattle.exclusion.proofs.witnesses.Goals as goal

pub returns : goal.returns
returns c = witnessed
