use Rattle.std.proofs.Common.{refl, arith}
use Rattle.words.specs.Places.{chan}
use Rattle.lamport.proofs.Granted.{granted}
use Rattle.table.proofs.Granting.{actor-small, carry-small, may_ask, may_leave, may_carry}
use Rattle.vectors.specs.Stores.{stored_counts}
use Rattle.counted.proofs.Counting.{event-fits, channel-few}
use Rattle.counted.proofs.count.Goals as goal

pub new-bench-requires : goal.new-bench-requires
new-bench-requires c = rw c.actor.ensures (actor-small _ c.requires.formed c.args.s (granted _ _ c.requires.done).inside)

pub send-requires-clause-room : goal.send-requires-clause-room
send-requires-clause-room c = rw (c.new-bench.ensures, c.actor.ensures, c.in-Ask.is) (may_ask _ c.requires.formed _ (rw c.in-Ask.is at (granted _ _ c.requires.done))).0

pub send-requires-clause-not_spent : goal.send-requires-clause-not_spent
send-requires-clause-not_spent c = event-fits _ _ c.new-bench.result.low (rw (c.new-bench.ensures, c.actor.ensures, c.in-Ask.is) (rw c.in-Ask.is at c.requires.fits))

pub new-requires : goal.new-requires
new-requires c = (carry-small _ c.requires.formed _ _ (rw c.in-Carry.is at (granted _ _ c.requires.done)).inside).0

pub carry-requires-clause-carries : goal.carry-requires-clause-carries
carry-requires-clause-carries c =
    rw (c.new.ensures, c.new-bench.ensures, c.actor.ensures, c.in-Carry.is)
    (may_carry _ c.requires.formed _ _ (rw c.in-Carry.is at (granted _ _ c.requires.done)))

pub carry-requires-clause-few : goal.carry-requires-clause-few
carry-requires-clause-few c = channel-few _ c.requires.formed (chan c.new.result.number c.new-bench.result.number) (omega (arith, c.new.result.low, c.new-bench.result.low))

pub carry-requires-clause-fits : goal.carry-requires-clause-fits
carry-requires-clause-fits c = rw (c.new.ensures, c.new-bench.ensures, c.actor.ensures, c.in-Carry.is) (rw c.in-Carry.is at c.requires.fits)

pub tick-requires : goal.tick-requires
tick-requires c = record { not_spent = event-fits _ _ c.new-bench.result.low (rw (c.new-bench.ensures, c.actor.ensures, c.in-Enter.is) (rw c.in-Enter.is at c.requires.fits)) }

pub send-requires-in-Leave-clause-room : goal.send-requires-in-Leave-clause-room
send-requires-in-Leave-clause-room c = rw (c.new-bench.ensures, c.actor.ensures, c.in-Leave.is) (may_leave _ c.requires.formed _ (rw c.in-Leave.is at (granted _ _ c.requires.done))).0

pub send-requires-in-Leave-clause-not_spent : goal.send-requires-in-Leave-clause-not_spent
send-requires-in-Leave-clause-not_spent c = event-fits _ _ c.new-bench.result.low (rw (c.new-bench.ensures, c.actor.ensures, c.in-Leave.is) (rw c.in-Leave.is at c.requires.fits))

pub tick-requires-in-Mark : goal.tick-requires-in-Mark
tick-requires-in-Mark c = record { not_spent = event-fits _ _ c.new-bench.result.low (rw (c.new-bench.ensures, c.actor.ensures, c.in-Mark.is) (rw c.in-Mark.is at c.requires.fits)) }

pub returns-in-Ask : goal.returns-in-Ask
unfolding stored_counts
returns-in-Ask c = rw (c.send.ensures, c.new-bench.ensures, c.actor.ensures, c.in-Ask.is) refl

pub returns-in-Carry : goal.returns-in-Carry
unfolding stored_counts
returns-in-Carry c = rw (c.carry.ensures, c.new.ensures, c.new-bench.ensures, c.actor.ensures, c.in-Carry.is) refl

pub returns-in-Enter : goal.returns-in-Enter
unfolding stored_counts
returns-in-Enter c = rw (c.tick.ensures, c.new-bench.ensures, c.actor.ensures, c.in-Enter.is) refl

pub returns-in-Leave : goal.returns-in-Leave
unfolding stored_counts
returns-in-Leave c = rw (c.send-in-Leave.ensures, c.new-bench.ensures, c.actor.ensures, c.in-Leave.is) refl

pub returns-in-Mark : goal.returns-in-Mark
unfolding stored_counts
returns-in-Mark c = rw (c.tick-in-Mark.ensures, c.new-bench.ensures, c.actor.ensures, c.in-Mark.is) refl
