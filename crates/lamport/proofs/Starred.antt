-- The twelve starred cases hold of the rules.
use mathlib.Core.Path.{refl}
use Rattle.lamport.specs.Each.{all_below, some_below}
use Rattle.lamport.specs.Order.{own_first, late_enough, heard_all, entry_rule}
use Rattle.lamport.specs.Steps.{acts, takes, done}
use Rattle.lamport.specs.Refusals.{any_full, answer, next}
use Rattle.lamport.specs.Counted.{counted_done, counted_answer, counted_next}
use Rattle.lamport.specs.Starred.{Holds, starred}

pub starred-hold : Holds starred
unfolding counted_answer counted_next counted_done answer next done acts takes own_first late_enough heard_all entry_rule any_full all_below some_below
starred-hold = (
  (refl, (refl, refl)),
  (
    (refl, (refl, refl)),
    (
      (refl, (refl, refl)),
      (
        (refl, (refl, refl)),
        (
          (refl, (refl, refl)),
          (
            (refl, (refl, refl)),
            ((refl, (refl, refl)), ((refl, (refl, refl)), ((refl, (refl, refl)), ((refl, (refl, refl)), ((refl, (refl, refl)), ((refl, (refl, refl)), tt)))))),
          ),
        ),
      ),
    ),
  ),
)
