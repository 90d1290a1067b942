-- Witness: each of the three answers is said of some two events, by computation.
use mathlib.Core.Path.{refl}
use Rattle.lamport.specs.Each.{all_below, some_below}
use Rattle.lamport.specs.Order.{own_first, late_enough, heard_all, entry_rule}
use Rattle.lamport.specs.Steps.{acts, takes, done}
use Rattle.lamport.specs.Refusals.{any_full, answer}
use Rattle.lamport.specs.Counted.{counted_done, counted_answer, counted_next}
use Rattle.stamps.specs.Compare.{none_larger, some_smaller, alike, comparison}
use Rattle.causal.specs.Witness.{EachSaid}

pub each-said : EachSaid
unfolding counted_answer counted_next counted_done answer done acts takes own_first late_enough heard_all entry_rule any_full all_below some_below comparison none_larger some_smaller alike
each-said = record { before = refl; after = refl; neither = refl }
