use Rattle.counted.proofs.Determined.{zero-is-none}
use Rattle.counted.proofs.zero_is_no_table.Goals as goal

pub returns : goal.returns
returns c = zero-is-none
