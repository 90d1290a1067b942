use Rattle.engine.proofs.Readings.{readings-told}
use Rattle.engine.proofs.readings_told.Goals as goal

pub returns : goal.returns
returns c = readings-told
