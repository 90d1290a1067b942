-- The messages in the slots so far have moved up.
use Rattle.std.proofs.Common.{◌≡◌}
use Rattle.lamport.specs.Each.{up_to}
use Rattle.vectors.specs.Stores.{moved_row}
use Rattle.vectors.proofs.take_off.Given as goal

abbrev pub invariant-loop-i : goal.invariant-loop-i
invariant-loop-i l = l.rows ≡ up_to (moved_row l.c.number) l.i l.initial.rows
