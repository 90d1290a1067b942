use Rattle.std.proofs.Common.{rules, refl}
use Rattle.lamport.specs.Order.{own_first}
use Rattle.lamport.proofs.Chains.{all_over}
use Rattle.lamport.proofs.own_first.Goals as goal

pub returns : goal.returns
unfolding own_first
returns c = all_over _ _ c.all.ensures.ran refl (λ q b f k. search rules)
