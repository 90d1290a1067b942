use Rattle.std.proofs.Common.{refl}
use Rattle.counted.proofs.Making.{made}
use Rattle.counted.proofs.fresh.Goals as goal

pub returns : goal.returns
returns c = made _ _ _ _ _ c.fresh.ensures refl
