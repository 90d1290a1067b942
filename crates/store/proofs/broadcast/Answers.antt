use Rattle.std.proofs.Common.{sym, ap, ◌∙◌, ◌<◌, arith}
use Rattle.lamport.proofs.Each.{up_none, up_more, up-end}
use Rattle.store.specs.Stores.{sent_to, sent}
use Rattle.store.proofs.Frame.{sent-count}
use Rattle.store.proofs.broadcast.Goals as goal

pub loop-q-init : goal.loop-q-init
loop-q-init c = sym (up_none _ _)

pub send-requires : goal.send-requires
send-requires c =
    let q = c.loop-q.q in
    let small : q < 8 = omega (arith, c.requires.room.few, c.loop-q-test.true) in
    record {
      room =
          rw (c.new.ensures, sent-count _ _ q _ _ c.args.p.low small c.loop-q.invariant)
          (c.requires.room.room q c.loop-q-test.true);
    }

pub loop-q-preserved : goal.loop-q-preserved
loop-q-preserved c =
    rw c.new.ensures at c.send.ensures ∙ ap (sent_to _ _ c.loop-q.q) c.loop-q.invariant ∙ sym (up_more _ c.loop-q.q _)

pub returns : goal.returns
unfolding sent
returns c = up-end _ c.loop-q.q _ _ _ (omega arith) c.loop-q.invariant
