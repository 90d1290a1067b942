use Rattle.std.proofs.Common.{arith, ◌≡◌}
use Rattle.vectors.proofs.Row.{merging-none, merging-more, merging-end}
use Rattle.vectors.proofs.vc2.Goals as goal

pub loop-a-init : goal.loop-a-init
loop-a-init c = merging-none _ _

pub loop-a-preserved : goal.loop-a-preserved
loop-a-preserved c =
    merging-more _ _ _ c.loop-a.a _ (omega (arith, c.loop-a-test.true, c.told-v)) c.loop-a.invariant c.larger.ensures

pub returns : goal.returns
returns c =
    let all : c.loop-a.a ≡ 8 = omega arith in
    merging-end _ _ _ _ _ c.told-v c.args.q.low (rw all at c.loop-a.invariant) (omega arith)
