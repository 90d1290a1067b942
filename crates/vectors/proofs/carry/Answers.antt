use Rattle.store.proofs.Carrying.{takes-some, takes-room}
use Rattle.vectors.proofs.Carrying.{own-fits, own-fits-twice, carried-request, carried-other}
use Rattle.vectors.proofs.carry.Goals as goal

pub merge-requires : goal.merge-requires
merge-requires c = record { not_spent = own-fits _ _ _ _ c.args.q.low c.requires.fits }

pub take_off-requires-clause-some : goal.take_off-requires-clause-some
take_off-requires-clause-some c = rw (c.channel_count.ensures, c.between-c.ensures) (takes-some c.requires.carries)

pub tick-requires : goal.tick-requires
tick-requires c =
    record {
      not_spent =
          own-fits-twice _ _ _ _ c.args.q.low c.requires.fits _ _ _ _ c.oldest.result c.told-rows
          (rw (c.channel_count.ensures, c.between-c.ensures) (takes-some c.requires.carries)) c.merge.ensures c.take_off.ensures c.oldest.ensures c.in-Request.is;
    }

pub attach_to-requires : goal.attach_to-requires
attach_to-requires c = record { room = λ ne. takes-room c.requires.carries c.oldest.result c.oldest.ensures c.in-Request.is }

pub returns-in-Request : goal.returns-in-Request
returns-in-Request c =
    carried-request c.args.t.now c.args.rows.now c.args.p.number c.args.q.number _ _ _ _ c.oldest.result c.requires.carries.apart
    c.between-c.ensures c.channel_count.ensures c.merge.ensures c.take_off.ensures c.oldest.ensures _ _ c.in-Request.is c.tick.ensures c.attach_to.ensures

pub returns-in-Ack : goal.returns-in-Ack
returns-in-Ack c =
    carried-other c.args.t.now c.args.rows.now c.args.p.number c.args.q.number _ _ _ _ c.oldest.result c.requires.carries.apart
    c.between-c.ensures c.channel_count.ensures c.merge.ensures c.take_off.ensures c.oldest.ensures c.in-Ack.is
