use Rattle.std.proofs.Common.{rules, refl}
use Rattle.lamport.specs.Order.{heard_all}
use Rattle.lamport.proofs.Chains.{all_over}
use Rattle.lamport.proofs.heard_all.Goals as goal

pub returns : goal.returns
unfolding heard_all
returns c = all_over _ _ c.all.ensures.ran refl (λ q b f k. search rules)
