use Rattle.std.proofs.Common.{sym, ◌∙◌}
use Rattle.schedule.specs.Lines.{line_for}
use Rattle.schedule.proofs.LineLaws.{next_read, last_read}
use Rattle.schedule.proofs.second_number.Goals as goal

pub returns-in_ok-number_of-in-Some : goal.returns-in_ok-number_of-in-Some
returns-in_ok-number_of-in-Some c = c.third_number.ensures ∙ sym (next_read _ _ _ c.in-Some.ensures (sym c.number_of.ensures ∙ c.in_ok-number_of-in-Some.was))

pub returns-in_ok-number_of-in-None : goal.returns-in_ok-number_of-in-None
unfolding line_for
returns-in_ok-number_of-in-None c = c.two_benches.ensures ∙ sym (last_read _ _ _ c.in-None.ensures (sym c.number_of-in-None.ensures ∙ c.in_ok-number_of-in-None.was))
