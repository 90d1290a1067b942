use Rattle.std.proofs.Common.{◌≡◌, ⊎_elim, arith}
use Rattle.lamport.specs.declared.Kind.TheVariants.{Request, Ack, Release}
use Rattle.words.specs.Places.{chan}
use Rattle.store.specs.Stores.{replied}
use Rattle.store.proofs.Carrying.{received-count, takes-some, takes-fits, takes-room, carried-as}
use Rattle.store.proofs.carry.Goals as goal

pub overflow_cast-clock : goal.overflow_cast-clock
overflow_cast-clock c =
    omega (arith, c.clock_after-clock.ensures, takes-fits c.requires c.oldest-m.result c.oldest-m.ensures)

pub receive-requires : goal.receive-requires
receive-requires c = record { something = takes-some c.requires }

pub push-requires : goal.push-requires
push-requires c =
    let p = c.args.p.number in
    let q = c.args.q.number in
    let hp = c.requires.from in
    let hq = c.requires.to in
    let other : chan q p ≡ chan p q → ⊥ = λ e. c.requires.apart (omega arith) in
    record {
      room =
          rw (c.between.ensures, c.receive.ensures, received-count _ _ _ _ _ (chan q p) hp hq (omega arith) other)
          (takes-room c.requires c.oldest-m.result c.oldest-m.ensures c.in-Request.is);
    }

pub returns-in-Request : goal.returns-in-Request
unfolding replied
returns-in-Request c =
    rw (c.push.ensures, c.between.ensures)
    (carried-as _ _ _ _ _ Request c.oldest-m.result _ c.oldest-m.ensures c.in-Request.is c.clock_after-clock.ensures c.receive.ensures)

pub returns-in-Ack : goal.returns-in-Ack
unfolding replied
returns-in-Ack c =
    ⊎_elim
    (λ e. carried-as _ _ _ _ _ Ack c.oldest-m.result _ c.oldest-m.ensures e c.clock_after-clock.ensures c.receive.ensures)
    (λ e. carried-as _ _ _ _ _ Release c.oldest-m.result _ c.oldest-m.ensures e c.clock_after-clock.ensures c.receive.ensures)
    c.in-Ack.is
