use Rattle.std.proofs.Common.{rules, refl}
use Rattle.lamport.specs.Refusals.{any_full}
use Rattle.lamport.proofs.Chains.{any_over}
use Rattle.table.proofs.any_full.Goals as goal

pub returns : goal.returns
unfolding any_full
returns c = rw (← c.benches.ensures.number) (any_over _ _ c.any.ensures.ran refl (λ q b f k. search rules))
