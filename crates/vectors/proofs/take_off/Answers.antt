use Rattle.std.proofs.Common.{sym, ap, ◌∙◌, set, ◌-◌, arith}
use Rattle.lamport.proofs.Each.{up_none, up_more, up-end}
use Rattle.words.specs.View.{listed}
use Rattle.vectors.specs.Rows.{slot_row, zeros}
use Rattle.vectors.specs.Stores.{moved_row, taken_off}
use Rattle.vectors.proofs.take_off.Goals as goal

pub loop-i-init : goal.loop-i-init
loop-i-init c = sym (up_none _ _)

pub loop-i-preserved : goal.loop-i-preserved
loop-i-preserved c = c.move_up.ensures ∙ ap (moved_row _ c.loop-i.i) c.loop-i.invariant ∙ sym (up_more _ c.loop-i.i _)

pub returns : goal.returns
unfolding taken_off listed
returns c =
    ap (λ x. set x (slot_row c.args.c.number (c.args.k - 1)) zeros) (up-end _ c.loop-i.i _ _ _ (omega arith) c.loop-i.invariant)
