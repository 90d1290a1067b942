use Rattle.std.proofs.Common.{◌≡◌, ℕ, List, take, ap, arith}
use Rattle.input.proofs.Told.{told}
use Rattle.listing.proofs.Laws.{written-front}
use Rattle.run.specs.Run.{shown}
use Rattle.run.proofs.Whole.{same_front}
use Rattle.run.proofs.Printed.{answered_within}
use Rattle.marks.specs.Marks.{line_room}
use Rattle.readings.specs.Shown.{room, printed}
use Rattle.readings.specs.declared.TheConstants.{INPUT}
use Rattle.readings.proofs.run_all.Goals as goal

pub put_answer-bytes-requires-clause-done : goal.put_answer-bytes-requires-clause-done
put_answer-bytes-requires-clause-done g c = answered_within _ c.marks-answer.ensures

-- a byte more than the longest schedule is enough
front_printed : (input : List ℕ) → printed (take INPUT input) ≡ printed input
front_printed input = ap shown (same_front line_room _ input INPUT room (omega arith))

pub returns : goal.returns
returns g c =
    let wrote = c.put_answer-bytes.ensures.text _ _ c.marks-answer.ensures in
    told INPUT printed front_printed (written-front wrote) c.write_all.result _ _ _ c.write_all.ensures.bytes c.in_ok-n.ensures.front
