use Rattle.std.proofs.Common.{sym, ◌∙◌}
use Rattle.schedule.specs.Lines.{line_for}
use Rattle.schedule.proofs.LineLaws.{last_read}
use Rattle.schedule.proofs.third_number.Goals as goal

pub returns-in_ok-number_of-in-None : goal.returns-in_ok-number_of-in-None
unfolding line_for
returns-in_ok-number_of-in-None c = c.header.ensures ∙ sym (last_read _ _ _ c.in-None.ensures (sym c.number_of.ensures ∙ c.in_ok-number_of-in-None.was))
