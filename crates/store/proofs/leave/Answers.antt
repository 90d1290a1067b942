use Rattle.store.specs.Stores.{left}
use Rattle.store.proofs.Frame.{room-acted}
use Rattle.store.proofs.leave.Goals as goal

pub broadcast-requires : goal.broadcast-requires
broadcast-requires c = record { room = rw c.act.ensures (room-acted _ _ _ _ c.requires.room) }

pub returns : goal.returns
unfolding left
returns c = rw (← c.act.ensures) c.broadcast.ensures
