use Rattle.std.proofs.Common.{arith}
use Rattle.listing.proofs.Laws.{digits-small, length_small, over-one}
use Rattle.listing.proofs.put_digit.Goals as goal

pub returns : goal.returns
returns c = over-one _ _ _ (omega (arith, c.requires.room, length_small c.args.x c.requires.digit)) (digits-small c.args.x c.requires.digit)
