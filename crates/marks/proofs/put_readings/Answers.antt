use Rattle.std.proofs.Common.{◌≡◌, ◌≤◌, ◌++◌, Some, rules, refl, length, arith, length-drop, length-take, length-append}
use Rattle.counted.specs.Post.{read}
use Rattle.listing.proofs.Laws.{lend}
use Rattle.schedule.specs.Lines.{line_of}
use Rattle.schedule.specs.declared.Line.TheVariants as L
use Rattle.schedule.proofs.PartsLaws.{count_cut}
use Rattle.schedule.proofs.ScheduleLaws.{steps_uncut, stepping}
use Rattle.marks.specs.Reading.{reading_of}
use Rattle.marks.proofs.Going.{going-start, ended, go_on}
use Rattle.marks.proofs.put_readings.Goals as goal

pub loop-line-init : goal.loop-line-init
loop-line-init c = going-start _ _ _

pub returns-in_default-line_of : goal.returns-in_default-line_of
returns-in_default-line_of c = ended c.loop-line.invariant (grind (arith, stepping))

pub returns-in_default-line_of-2 : goal.returns-in_default-line_of-2
returns-in_default-line_of-2 c = ended c.loop-line.invariant (grind (arith, stepping))

pub returns : goal.returns
returns c = ended c.loop-line.invariant (steps_uncut _ c.in_default.ensures)

pub take_step-bytes-requires-clause-room : goal.take_step-bytes-requires-clause-room
take_step-bytes-requires-clause-room c =
    simp (length-take, length-drop)
    (omega (arith, c.requires.room, c.loop-line.invariant.room, c.loop-line.auto.out, count_cut c.in-Some.ensures))

pub loop-line-preserved : goal.loop-line-preserved
loop-line-preserved c =
    let g = c.loop-line.invariant in
    let cut = c.in-Some.ensures in
    let x = c.in-Some-Step.x in
    let turn = c.take_step-bytes in
    let v = reading_of c.loop-line.k (read c.loop-line.t.lent) x in
    let fits : length (g.w ++ v) ≤ length c.args.out.now =
    simp length-append
    (omega (arith, g.wrote.bytes, turn.ensures.wrote.bytes, turn.ensures.short, g.room, count_cut cut, c.requires.room)) in
    let lent = lend g.w v (g.w ++ v) c.args.out.now refl fits c.loop-line.out c.loop-line.bytes g.wrote in
    let says : line_of c.in-Some.line.now ≡ Some (L.Step x) = search rules in
    go_on g turn.result _ _ cut says turn.ensures.next turn.ensures.short (lent.then turn.result turn.new.out turn.ensures.wrote)
