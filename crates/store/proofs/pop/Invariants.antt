-- The messages in the slots so far have moved up.
use Rattle.std.proofs.Common.{◌≡◌}
use Rattle.lamport.specs.Each.{up_to}
use Rattle.store.specs.Stores.{moved}
use Rattle.store.proofs.pop.Given as goal

abbrev pub invariant-loop-i : goal.invariant-loop-i
invariant-loop-i l = l.t ≡ up_to (moved l.c.number) l.i l.initial.t
