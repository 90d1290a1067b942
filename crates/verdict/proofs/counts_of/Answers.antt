use Rattle.std.proofs.Common.{length, ℕ, arith}
use Rattle.std.proofs.lemmas.List.{drop-replicate}
use Rattle.verdict.proofs.Counts.{behind, too_few, no_step, no_bench, too_many, event}
use Rattle.verdict.proofs.counts_of.Goals as goal
use Rattle.verdict.proofs.counts_of.Goals.{then-step-eq0-via-then-step-eq0, then-step-eq0-via-else-step-eq0+then-counts-bench, then-step-eq0-via-else-step-eq0+else-counts-bench+then-counts-gt-MOST}

pub returns-in_default : goal.returns-in_default
returns-in_default c = rw (too_few _ c.in_default.len_below)

pub returns-then-step-eq0 : goal.returns-then-step-eq0
returns-then-step-eq0 c =
    elim c.then-step-eq0.branch [
      | then-step-eq0-via-then-step-eq0 w ↦ rw (no_step _ c.in-len3-up.len_at_least (omega arith))
      | then-step-eq0-via-else-step-eq0+then-counts-bench w ↦ rw (no_bench _ c.in-len3-up.len_at_least (omega arith))
      | then-step-eq0-via-else-step-eq0+else-counts-bench+then-counts-gt-MOST w ↦ rw (too_many _ c.in-len3-up.len_at_least (omega arith))
    ]

pub returns : goal.returns
returns c =
    rw (event _ c.in-len3-up.len_at_least (λ e. omega arith) (omega arith) (omega arith), c.copy_from_slice.ensures.after, drop-replicate {X = ℕ} (length (behind c.args.numbers.now)) 8 0)
