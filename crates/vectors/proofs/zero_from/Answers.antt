use Rattle.std.proofs.Common.{rules, refl}
use Rattle.lamport.proofs.Chains.{all_over}
use Rattle.vectors.specs.Formed.{zero_from}
use Rattle.vectors.proofs.zero_from.Goals as goal

pub returns : goal.returns
unfolding zero_from
returns c = rw (c.told-v) (all_over _ _ c.all.ensures.ran refl (λ q b f k. search rules))
