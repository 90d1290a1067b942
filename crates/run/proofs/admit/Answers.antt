use Rattle.std.proofs.Common.{sym, ap, ◌∙◌}
use Rattle.schedule.specs.Schedule.{setup_in}
use Rattle.run.proofs.Whole.{admits}
use Rattle.run.proofs.admit.Goals as goal

pub returns : goal.returns
returns c =
    admits _ _ _ (sym c.check.ensures.exact ∙ ap setup_in c.in_ok-checked.was) c.in-Some.ensures c.if-schedule-gt-LONGEST.false
    (rw c.in_ok-checked.ensures.lines at c.if-room-line_room.false) c.in_ok-checked.ensures.sizes
