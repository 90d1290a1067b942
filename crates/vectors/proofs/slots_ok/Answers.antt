use Rattle.std.proofs.Common.{rules, refl}
use Rattle.lamport.proofs.Chains.{all_over}
use Rattle.vectors.proofs.slots_ok.Goals as goal

pub returns : goal.returns
returns c = all_over _ _ c.all.ensures.ran refl (λ q b f k. search rules)
