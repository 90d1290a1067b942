use Rattle.run.proofs.Whole.{good_is_done}
use Rattle.run.specs.Run.{line_room}
use Rattle.turns.proofs.good_is_run.Goals as goal

pub returns : goal.returns
returns c = λ input setup. good_is_done line_room _ input setup
