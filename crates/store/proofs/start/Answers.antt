use Rattle.std.proofs.Common.{sym, ap, ◌∙◌, arith}
use Rattle.lamport.proofs.Each.{up_none, up_more, up-end}
use Rattle.store.specs.Stores.{started}
use Rattle.store.proofs.start.Goals as goal

pub loop-p-init : goal.loop-p-init
loop-p-init c = sym (up_none _ _)

pub loop-p-preserved : goal.loop-p-preserved
loop-p-preserved c = ap (started _ c.loop-p.p) c.loop-p.invariant ∙ sym (up_more _ c.loop-p.p _)

pub returns : goal.returns
returns c = up-end _ c.loop-p.p _ _ _ (omega arith) c.loop-p.invariant
