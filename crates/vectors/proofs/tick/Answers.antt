use Rattle.std.proofs.Common.{ap, set, ℕ, List}
use Rattle.vectors.specs.Stores.{ticked}
use Rattle.vectors.proofs.tick.Goals as goal

pub returns : goal.returns
unfolding ticked
returns c = ap (λ (x : List ℕ). set c.args.rows.now c.args.p.number x) c.vc1.ensures
