use Rattle.run.proofs.Whole.{good_is_done}
use Rattle.marks.specs.Marks.{line_room}
use Rattle.readings.proofs.good_is_read.Goals as goal

pub returns : goal.returns
returns c = λ input setup. good_is_done line_room _ input setup
