use Rattle.std.proofs.Common.{rules}
use Rattle.report.proofs.Chains.{find_over}
use Rattle.report.proofs.holder.Goals as goal

pub returns-clause-value : goal.returns-clause-value
returns-clause-value c = find_over _ _ _ c.find.ensures.ran (cc) (λ q b f k. search rules)
