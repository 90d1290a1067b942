use Rattle.lamport.proofs.Arrivals.{arrivals}
use Rattle.lamport.proofs.orders_of_arrival.Goals as goal

pub returns : goal.returns
returns c = arrivals
