use Rattle.std.proofs.Common.{rules}
use Rattle.listing.specs.Record.{cell_text}
use Rattle.listing.proofs.Laws.{over-one}
use Rattle.listing.proofs.put_cell.Goals as goal

pub returns-in-None : goal.returns-in-None
unfolding cell_text
returns-in-None c = over-one _ 45 _ (search rules) (search rules)
