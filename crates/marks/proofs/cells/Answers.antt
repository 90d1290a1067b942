use Rattle.std.proofs.Common.{◌≡◌, ◌+◌, suc, Some, refl, sym, ◌∙◌, arith, length-set, take_all}
use Rattle.std.proofs.Math.Seq.{take-suc-set}
use Rattle.words.specs.View.{listed}
use Rattle.marks.proofs.Lines.{cells-more, line-short}
use Rattle.marks.proofs.cells.Goals as goal

pub loop-q-init : goal.loop-q-init
unfolding listed
loop-q-init c = (refl, rw c.wide.ensures.value refl)

pub loop-q-preserved : goal.loop-q-preserved
loop-q-preserved c =
    let i = c.loop-q.invariant in
    let more : 3 + (c.loop-q.q + 1) ≡ suc (3 + c.loop-q.q) = omega arith in (
      length-set c.loop-q.cells (3 + c.loop-q.q) _ ∙ i.0,
      rw (more, take-suc-set c.loop-q.cells (3 + c.loop-q.q) (Some c.wide-in-loop-q.result) (omega (arith, i.0)), i.1, c.wide-in-loop-q.ensures.value) (sym (cells-more _ _ _ _ _)),
    )

pub returns-clause-exact : goal.returns-clause-exact
returns-clause-exact c =
    let i = c.loop-q.invariant in
    let all : 3 + c.loop-q.q ≡ 11 = omega arith in
    let eight : c.loop-q.q ≡ 8 = omega arith in
    sym (take_all 11 c.loop-q.cells (omega (arith, i.0))) ∙ rw (all, eight) at i.1

pub returns-clause-short : goal.returns-clause-short
returns-clause-short c = λ n l. omega (arith, line-short c.args.k c.args.p.number c.args.clock _ n c.requires.number c.args.p.low c.ranges.clock.fits c.fits-counts l)
