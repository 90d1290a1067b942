use Rattle.std.proofs.Common.{◌≡◌, ◌+◌, ◌*◌, sym, ap, ◌∙◌, arith}
use Rattle.lamport.proofs.Each.{up_none, up_more, up-end}
use Rattle.words.specs.Places.{first_kind, channel_words, kind_at, stamp_at}
use Rattle.store.specs.Stores.{moved, popped}
use Rattle.store.proofs.pop.Goals as goal

pub loop-i-init : goal.loop-i-init
loop-i-init c = sym (up_none _ _)

pub loop-i-preserved : goal.loop-i-preserved
loop-i-preserved c = c.move_up.ensures ∙ ap (moved _ c.loop-i.i) c.loop-i.invariant ∙ sym (up_more _ c.loop-i.i _)

pub returns : goal.returns
unfolding popped
returns c =
    let n = c.args.c.number in
    let kind : first_kind + (n * channel_words + 30) ≡ kind_at n 15 = omega arith in
    let stamp : first_kind + 1 + (n * channel_words + 30) ≡ stamp_at n 15 = omega arith in
    rw (kind, stamp, up-end _ c.loop-i.i 15 _ _ (omega arith) c.loop-i.invariant)
