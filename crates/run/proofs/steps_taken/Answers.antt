use Rattle.run.proofs.Records.{taken_is}
use Rattle.run.proofs.steps_taken.Goals as goal

pub returns : goal.returns
returns c = taken_is
