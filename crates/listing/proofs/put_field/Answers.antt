use Rattle.std.proofs.Common.{arith, length-append, ℕ}
use Rattle.listing.specs.Record.{cell_text, fields}
use Rattle.listing.proofs.Laws.{over-snoc}
use Rattle.listing.proofs.put_field.Goals as goal

pub returns : goal.returns
unfolding fields
returns c = over-snoc (cell_text c.args.cell) _ _ _ c.args.behind c.put_cell-at.ensures (omega (arith, length-append {A = ℕ}))
