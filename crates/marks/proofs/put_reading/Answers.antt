use Rattle.std.proofs.Common.{◌≡◌, ◌≤◌, ◌+◌, sym, ap, ◌∙◌, length, take, arith, length-take-le}
use Rattle.words.proofs.Formed.{few}
use Rattle.vectors.specs.Rows.{row_of, counts}
use Rattle.counted.proofs.Stepping.{words-formed}
use Rattle.listing.specs.Record.{lf, fields}
use Rattle.marks.specs.Reading.{cells, reading_text}
use Rattle.marks.proofs.Lines.{cells-front, cells-row, cells-length}
use Rattle.marks.proofs.put_reading.Goals as goal
use Rattle.marks.proofs.put_reading.Goals.{After-benches}

-- no more benches than there can be, by the table's own words
n8 : (c : After-benches) → c.benches.result ≤ 8
n8 c = omega (arith, c.benches.ensures, few _ (words-formed _ c.args.t.now.formed))

-- the fields that are lent
lent : (c : After-benches) → take (3 + c.benches.result) c.cells-cells.result ≡ cells c.args.k c.args.p.number c.clock.result (counts c.args.t.now.lent.counts c.args.p.number) c.benches.result
lent c =
    ap (take (3 + c.benches.result)) c.cells-cells.ensures.exact ∙ cells-front _ _ _ _ _ (n8 c)
    ∙ (let stamp : c.stamp_of-counts.result ≡ row_of (counts c.args.t.now.lent.counts c.args.p.number) = cc in rw stamp (cells-row _ _ _ _ _ (n8 c)))

-- their line is within its room
short : (c : After-benches) → length (fields (take (3 + c.benches.result) c.cells-cells.result) lf) ≤ 128
short c =
    rw (c.cells-cells.ensures.exact, cells-front c.args.k c.args.p.number c.clock.result _ c.benches.result (n8 c)) (c.cells-cells.ensures.short c.benches.result (n8 c))

pub overflow_add-cells : goal.overflow_add-cells
overflow_add-cells c = omega (arith, n8 c)

pub slice_bounds-cells-end : goal.slice_bounds-cells-end
slice_bounds-cells-end c = rw (c.cells-cells.ensures.exact, cells-length) (omega (arith, n8 c))

pub slice_bounds-put_fields-end : goal.slice_bounds-put_fields-end
slice_bounds-put_fields-end c = sym (length-take-le _ c.cells-cells.result (slice_bounds-cells-end (goal.at.slice_bounds-put_fields-end c).After-benches))

pub put_fields-requires : goal.put_fields-requires
put_fields-requires c = omega (arith, short (goal.at.put_fields-requires c).After-benches, c.requires.room)

pub returns-clause-wrote : goal.returns-clause-wrote
unfolding reading_text
returns-clause-wrote c = rw (← c.clock.ensures, ← c.benches.ensures, ← lent (goal.at.returns-clause-wrote c).After-benches) c.put_fields.ensures

pub returns-clause-short : goal.returns-clause-short
returns-clause-short c = omega (arith, short (goal.at.returns-clause-short c).After-benches, c.put_fields.ensures.bytes)
