use Rattle.std.proofs.Common.{◌≡◌, sym, ap, ◌∙◌, arith}
use Rattle.words.specs.Places.{benches}
use Rattle.lamport.proofs.Each.{up_none, up_more, up-end}
use Rattle.vectors.specs.Stores.{attached_to, sent_counts}
use Rattle.vectors.proofs.Formed.{benches-read}
use Rattle.vectors.proofs.send.Goals as goal

pub loop-q-init : goal.loop-q-init
loop-q-init c = sym (up_none _ _)

pub new-requires : goal.new-requires
new-requires c = omega (arith, c.requires.room.few, benches-read c.args.t.now, c.benches-q-end.ensures, c.loop-q-test.true)

pub attach_to-requires : goal.attach_to-requires
attach_to-requires c =
    record {
      room =
          λ ne. rw c.new.ensures
          (c.requires.room.room c.loop-q.q (omega (arith, benches-read c.args.t.now, c.benches-q-end.ensures, c.loop-q-test.true)) (rw c.new.ensures at ne));
    }

pub loop-q-preserved : goal.loop-q-preserved
loop-q-preserved c =
    rw c.new.ensures at c.attach_to.ensures ∙ ap (attached_to _ _ c.loop-q.q) c.loop-q.invariant ∙ sym (up_more _ c.loop-q.q _)

pub returns : goal.returns
unfolding sent_counts
returns c =
    let all : c.loop-q.q ≡ benches c.args.t.now = omega (arith, benches-read c.args.t.now, c.benches-q-end.ensures, c.loop-q-test.false) in
    up-end _ c.loop-q.q _ _ _ all (rw c.tick.ensures at c.loop-q.invariant)
