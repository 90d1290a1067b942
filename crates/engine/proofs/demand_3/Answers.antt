use Rattle.engine.proofs.Engine.{engine_demand3}
use Rattle.engine.proofs.demand_3.Goals as goal

pub returns : goal.returns
returns c = engine_demand3
