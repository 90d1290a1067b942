use Rattle.counted.proofs.Determined.{keeps}
use Rattle.reached.proofs.Stepping.{advanced, still-ahead}
use Rattle.reached.proofs.step.Goals as goal

pub invariant_of-t : goal.invariant_of-t
invariant_of-t c =
    let m = c.step_formed.ensures in
    record { formed = keeps _ _ _ _ c.args.t.now.formed m; ahead = still-ahead _ _ _ _ c.args.t.now.formed c.args.t.now.ahead m }

pub returns : goal.returns
returns c = advanced _ _ _ _ c.args.t.now.formed c.args.t.now.ahead c.step_formed.ensures
