use Rattle.counted.proofs.Determined.{one-stamp}
use Rattle.counted.proofs.one_stamp.Goals as goal

pub returns : goal.returns
returns c = one-stamp
