use Rattle.std.proofs.Common.{rules, ℕ, ◌+◌, ap}
use Rattle.report.specs.Report.{place_of}
use Rattle.report.proofs.Chains.{count_over}
use Rattle.report.proofs.place.Goals as goal

pub returns-clause-value : goal.returns-clause-value
unfolding place_of
returns-clause-value c =
    ap (λ (x : ℕ). 1 + x) (count_over _ _ c.count.ensures.ran (cc) c.filter.ensures.closure (λ q b f k. search rules))
