use Rattle.table.proofs.Granting.{actor-small}
use Rattle.table.proofs.attempt.Attempt.bench.Goals as goal

pub new-requires : goal.new-requires
new-requires c =
    let tried = c.args.self.now in
    rw c.actor.ensures (actor-small _ tried.table.formed tried.step tried.inside)
