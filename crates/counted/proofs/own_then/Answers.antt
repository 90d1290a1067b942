use Rattle.lamport.proofs.Granted.{granted}
use Rattle.table.proofs.Granting.{actor-small, carry-small, may_carry}
use Rattle.counted.proofs.Own.{carried-own}
use Rattle.counted.proofs.own_then.Goals as goal

pub new-bench-requires : goal.new-bench-requires
new-bench-requires c = rw c.actor.ensures (actor-small _ c.args.t.now.formed c.args.s (granted _ _ c.requires.done).inside)

pub new-requires : goal.new-requires
new-requires c = (carry-small _ c.args.t.now.formed _ _ (rw c.in-Carry.is at (granted _ _ c.requires.done)).inside).0

pub oldest-requires : goal.oldest-requires
oldest-requires c =
    record {
      something =
          rw (c.new.ensures, c.new-bench.ensures, c.actor.ensures, c.in-Carry.is)
          (may_carry _ c.args.t.now.formed _ _ (rw c.in-Carry.is at (granted _ _ c.requires.done))).some;
    }

pub returns-in-Carry : goal.returns-in-Carry
returns-in-Carry c =
    rw c.in-Carry.is
    (carried-own _ _ _ _ _ _ c.oldest.result (rw (c.new.ensures, c.new-bench.ensures, c.actor.ensures, c.in-Carry.is) at c.oldest.ensures)
    (rw (c.new-bench.ensures, c.actor.ensures, c.in-Carry.is) at c.own_count-own.ensures) (λ a v w e. c.raised.ensures a v w e))
