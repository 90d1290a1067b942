-- The message is on the channels to the benches so far.
use Rattle.std.proofs.Common.{◌≡◌}
use Rattle.lamport.specs.Each.{up_to}
use Rattle.store.specs.Stores.{sent_to}
use Rattle.store.proofs.broadcast.Given as goal

abbrev pub invariant-loop-q : goal.invariant-loop-q
invariant-loop-q l = l.t ≡ up_to (sent_to l.p.number l.m) l.q l.initial.t
