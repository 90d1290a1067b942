use Rattle.engine.proofs.Engine.{one_holds}
use Rattle.engine.proofs.one_holds.Goals as goal

pub returns : goal.returns
returns c = one_holds
