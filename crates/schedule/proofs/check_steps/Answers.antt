use Rattle.std.proofs.Common.{◌≡◌, ◌+◌, ◌-◌, length, Ok, ap, sym, ◌∙◌, arith, eqb, true}
use borrow.Author.Tests.{eqb-true}
use Rattle.schedule.specs.Parts.{lf, count}
use Rattle.schedule.proofs.PartsLaws.{count-short}
use Rattle.schedule.proofs.ScheduleLaws.{check_open}
use Rattle.schedule.proofs.check_steps.Goals as goal

pub returns : goal.returns
returns c =
    let ends : eqb (length c.loop-line.rest.now) 0 ≡ true = sym (c.if-not-is_empty.ensures) in
    let left = count-short lf c.loop-line.rest.now in
    let lines : c.loop-line.number - 1 ≡ count lf c.args.text.now + 1 = omega (arith, c.loop-line.invariant.lines, left, eqb-true (length c.loop-line.rest.now) 0 ends) in
    ap Ok lines ∙ sym (rw ends at (check_open c.loop-line.rest.now (c.in_default.ensures) (Ok (count lf c.args.text.now + 1)) c.loop-line.number)) ∙ c.loop-line.invariant.left
