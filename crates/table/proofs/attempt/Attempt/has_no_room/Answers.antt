use Rattle.table.proofs.Granting.{carry-small}
use Rattle.table.proofs.attempt.Attempt.has_no_room.Goals as goal

pub new-requires : goal.new-requires
new-requires c =
    let tried = c.args.self.now in
    (carry-small _ tried.table.formed _ _ (rw c.in-Carry.is at tried.inside)).0
