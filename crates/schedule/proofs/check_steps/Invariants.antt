-- The lines that are left decide, counted from `number`.
use Rattle.std.proofs.Common.{◌≡◌, ◌≤◌, ◌+◌, Ok, length}
use Rattle.schedule.specs.Parts.{lf, parts, count}
use Rattle.schedule.specs.Schedule.{check_steps}
use Rattle.schedule.proofs.check_steps.Given as goal

abbrev pub invariant-loop-line : goal.invariant-loop-line
invariant-loop-line l = record {
  from_two : 2 ≤ l.number;
  counted : l.number + length l.rest ≤ length l.text + 2;
  lines : l.number + count lf l.rest ≡ count lf l.text + 2;
  left : check_steps (Ok (count lf l.text + 1)) l.number (parts lf l.rest) ≡ check_steps (Ok (count lf l.text + 1)) 2 (parts lf l.text);
}

abbrev pub decreases-loop-line : goal.decreases-loop-line
decreases-loop-line l = length l.rest
