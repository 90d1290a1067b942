use Rattle.std.proofs.Common.{sym}
use Rattle.words.proofs.Reading.{view-phase}
use Rattle.words.proofs.phase_word.Goals as goal

pub returns : goal.returns
returns c = sym (view-phase _ _ c.args.p.low)
