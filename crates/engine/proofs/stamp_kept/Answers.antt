use Rattle.engine.proofs.Engine.{stamp-kept}
use Rattle.engine.proofs.stamp_kept.Goals as goal

pub returns : goal.returns
returns c = stamp-kept
