-- The benches so far have the start clock.
use Rattle.std.proofs.Common.{◌≡◌}
use Rattle.lamport.specs.Each.{up_to}
use Rattle.store.specs.Stores.{started}
use Rattle.store.proofs.start.Given as goal

abbrev pub invariant-loop-p : goal.invariant-loop-p
invariant-loop-p l = l.t ≡ up_to (started l.clock) l.p l.initial.t
