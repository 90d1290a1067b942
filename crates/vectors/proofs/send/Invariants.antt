-- The messages to the benches so far bring the counts.
use Rattle.std.proofs.Common.{◌≡◌}
use Rattle.lamport.specs.Each.{up_to}
use Rattle.vectors.specs.Stores.{attached_to}
use Rattle.vectors.proofs.send.Given as goal

abbrev pub invariant-loop-q : goal.invariant-loop-q
invariant-loop-q l = l.rows ≡ up_to (attached_to l.t l.p.number) l.q l.initial.rows
