use Rattle.std.proofs.Common.{◌≤◌, ◌++◌, length, refl, ap, arith, length-drop, length-take, length-append}
use Rattle.lamport.specs.Counted.{Counted}
use Rattle.listing.specs.Record.{end_text}
use Rattle.listing.proofs.Laws.{lend, end_short}
use Rattle.schedule.proofs.PartsLaws.{count-short}
use Rattle.schedule.specs.Parts.{lf}
use Rattle.run.specs.Listing.{lines, listing, records}
use Rattle.words.specs.View.{view}
use Rattle.run.specs.Run.{steps_in}
use Rattle.run.proofs.put_listing.Goals as goal

pub put_end-requires : goal.put_end-requires
put_end-requires c =
    let ran = c.run_lines-ran in
    let small = ran.ensures.small in
    simp (length-take, length-drop)
    (omega (arith, end_short ran.result.taken ran.result.refused small.1.0 small.1.1, small.0, c.requires.room, ran.auto.out))

pub overflow_add-result : goal.overflow_add-result
overflow_add-result c =
    let ran = c.run_lines-ran in
    let small = ran.ensures.small in
    omega (arith, end_short ran.result.taken ran.result.refused small.1.0 small.1.1, small.0, c.put_end.ensures.bytes, count-short lf c.args.lines.now, c.requires.short)

pub returns : goal.returns
unfolding listing
returns c =
    let fresh-view = ap (λ (x : Counted). x.table) c.fresh-t.ensures in
    let ran = c.run_lines-ran in
    let exact = ran.ensures.exact in
    let small = ran.ensures.small in
    let rs = records 1 c.args.budget (view c.fresh-t.result.lent.words) (steps_in c.args.lines.now) in
    let v = end_text ran.result.taken ran.result.refused in
    let fits : length (lines rs ++ v) ≤ length c.args.out.now =
    simp length-append
    (omega (arith, exact.wrote.bytes, end_short ran.result.taken ran.result.refused small.1.0 small.1.1, small.0, c.requires.room)) in
    let lent = lend (lines rs) v (lines rs ++ v) c.args.out.now refl fits ran.new.out ran.result.bytes exact.wrote in
    rw (← fresh-view, ← exact.taken, ← exact.refusals) (lent.then c.put_end.result c.put_end.new.out c.put_end.ensures)
