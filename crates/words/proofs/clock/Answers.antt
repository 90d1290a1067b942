use Rattle.std.proofs.Common.{sym}
use Rattle.words.proofs.Reading.{view-clock}
use Rattle.words.proofs.clock.Goals as goal

pub returns : goal.returns
returns c = sym (view-clock _ _ c.args.p.low)
