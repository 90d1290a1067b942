use Rattle.std.proofs.Common.{sym, ◌∙◌, arith, length-take}
use Rattle.verdict.proofs.Counts.{lost, kept_room, kept_counts}
use Rattle.verdict.proofs.reading_of.Goals as goal

pub returns-in_err-many : goal.returns-in_err-many
returns-in_err-many c = rw (c.from_residual.ensures, lost c.args.line.now (sym c.numbers_of.ensures ∙ c.in_err-many.was))

pub slice_bounds-all-end : goal.slice_bounds-all-end
slice_bounds-all-end c = kept_room c.args.line.now (sym c.numbers_of.ensures ∙ c.in_ok-many.was)

pub slice_bounds-counts_of-end : goal.slice_bounds-counts_of-end
slice_bounds-counts_of-end c =
    let room = kept_room c.args.line.now (sym c.numbers_of.ensures ∙ c.in_ok-many.was) in
    simp length-take (omega arith)

pub returns : goal.returns
returns c = rw (kept_counts c.args.line.now (sym c.numbers_of.ensures ∙ c.in_ok-many.was)) c.counts_of.ensures
