use Rattle.std.proofs.Common.{sym}
use Rattle.words.proofs.Reading.{view-count}
use Rattle.words.proofs.count.Goals as goal

pub returns : goal.returns
returns c = rw (c.channel_count.ensures, c.between.ensures) (sym (view-count _ _ _ c.args.p.low c.args.q.low))
