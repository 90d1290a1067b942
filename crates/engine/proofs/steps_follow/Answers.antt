use Rattle.engine.proofs.Engine.{engine_follows}
use Rattle.engine.proofs.steps_follow.Goals as goal

pub returns : goal.returns
returns c = engine_follows
