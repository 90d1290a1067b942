use Rattle.std.proofs.Common.{rules, refl}
use Rattle.lamport.proofs.Chains.{all_over}
use Rattle.stamps.specs.Compare.{none_larger}
use Rattle.stamps.proofs.none_larger.Goals as goal

pub returns : goal.returns
unfolding none_larger
returns c = all_over _ _ c.all.ensures.ran refl (λ q b f k. search rules)
