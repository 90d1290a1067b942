use Rattle.causal.proofs.Witness.{each-said}
use Rattle.causal.proofs.each_said.Goals as goal

pub returns : goal.returns
returns c = each-said
