use Rattle.engine.proofs.Engine.{starred-answered}
use Rattle.engine.proofs.starred_answered.Goals as goal

pub returns : goal.returns
returns c = starred-answered
