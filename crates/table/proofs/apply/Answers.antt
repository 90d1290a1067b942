use Rattle.lamport.proofs.Granted.{granted}
use Rattle.table.proofs.Granting.{actor-small, may_carry, may_ask, may_leave, may_go_in, may_mark, carry-small}
use Rattle.table.proofs.apply.Goals as goal

pub new-bench-requires : goal.new-bench-requires
new-bench-requires c = rw c.actor.ensures (actor-small _ c.requires.formed c.args.s (granted _ _ c.requires.done).inside)

pub ask-requires-clause-room : goal.ask-requires-clause-room
ask-requires-clause-room c =
    rw (c.new-bench.ensures, c.actor.ensures, c.in-Ask.is)
    (may_ask _ c.requires.formed _ (rw c.in-Ask.is at (granted _ _ c.requires.done))).0

pub ask-requires-clause-not_spent : goal.ask-requires-clause-not_spent
ask-requires-clause-not_spent c =
    rw (c.new-bench.ensures, c.actor.ensures, c.in-Ask.is)
    (may_ask _ c.requires.formed _ (rw c.in-Ask.is at (granted _ _ c.requires.done))).1

pub new-requires : goal.new-requires
new-requires c = (carry-small _ c.requires.formed _ _ (rw c.in-Carry.is at (granted _ _ c.requires.done)).inside).0

pub carry-requires : goal.carry-requires
carry-requires c =
    rw (c.new.ensures, c.new-bench.ensures, c.actor.ensures, c.in-Carry.is)
    (may_carry _ c.requires.formed _ _ (rw c.in-Carry.is at (granted _ _ c.requires.done)))

pub enter-requires : goal.enter-requires
enter-requires c =
    record {
      not_spent =
          rw (c.new-bench.ensures, c.actor.ensures, c.in-Enter.is)
          (may_go_in _ c.requires.formed _ (rw c.in-Enter.is at (granted _ _ c.requires.done))).1;
    }

pub leave-requires-clause-room : goal.leave-requires-clause-room
leave-requires-clause-room c =
    rw (c.new-bench.ensures, c.actor.ensures, c.in-Leave.is)
    (may_leave _ c.requires.formed _ (rw c.in-Leave.is at (granted _ _ c.requires.done))).0

pub leave-requires-clause-not_spent : goal.leave-requires-clause-not_spent
leave-requires-clause-not_spent c =
    rw (c.new-bench.ensures, c.actor.ensures, c.in-Leave.is)
    (may_leave _ c.requires.formed _ (rw c.in-Leave.is at (granted _ _ c.requires.done))).1

pub mark-requires : goal.mark-requires
mark-requires c =
    record {
      not_spent =
          rw (c.new-bench.ensures, c.actor.ensures, c.in-Mark.is)
          (may_mark _ c.requires.formed _ (rw c.in-Mark.is at (granted _ _ c.requires.done))).1;
    }
