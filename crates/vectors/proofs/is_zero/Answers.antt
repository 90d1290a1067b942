use Rattle.vectors.proofs.Zero.{is-zeros}
use Rattle.vectors.proofs.is_zero.Goals as goal

pub returns : goal.returns
returns c = is-zeros _ _ c.eq.ensures
