use Rattle.words.proofs.Reading.{view_first}
use Rattle.words.proofs.oldest.Goals as goal

pub returns : goal.returns
returns c =
    rw (
      c.kind_of.ensures,
      c.slot_at-slot.ensures.kind,
      c.slot_at-slot.ensures.stamp,
      c.between.ensures,
      view_first _ _ _ c.args.p.low c.args.q.low c.requires.something,
    )
