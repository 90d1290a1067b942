-- The three orders of arrival, computed.
use mathlib.Core.Path.{refl}
use Rattle.lamport.specs.Each.{all_below, some_below}
use Rattle.lamport.specs.Order.{own_first, late_enough, heard_all, entry_rule}
use Rattle.lamport.specs.Steps.{acts, takes, done}
use Rattle.lamport.specs.Refusals.{any_full, answer, next}
use Rattle.lamport.specs.Arrivals.{Arrivals}

pub arrivals : Arrivals
unfolding answer next done acts takes own_first late_enough heard_all entry_rule any_full all_below some_below
arrivals = record { first_waits = refl; second_waits = refl; granted = refl; stamp = refl; let_in = refl }
