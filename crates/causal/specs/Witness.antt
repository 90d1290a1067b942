-- Each of the three answers is said of some two events.
use Rattle.std.specs.Prelude.{◌≡◌, List, [], ◌∷◌}
use Rattle.lamport.specs.Counted.{counted_fresh}
use Rattle.lamport.specs.declared.Step.TheVariants.{Ask, Carry}
use Rattle.stamps.specs.declared.Comparison.TheVariants.{Before, After, Neither}
use Rattle.causal.specs.Events.{Stamped, events}
use Rattle.causal.specs.Told.{said}

-- two benches ask at once, and bench 1 takes the request of bench 0: its events are 0's request, 1's request, the receipt and the acknowledgement
abbrev pub asked : List Stamped
asked = events (counted_fresh 2 4 0) (Ask 0 ∷ Ask 1 ∷ Carry 0 1 ∷ [])

pub record EachSaid : Type 0 where
  -- the request and its acknowledgement
  pub before : said asked 0 3 ≡ Before
  pub after : said asked 2 0 ≡ After
  -- the two requests
  pub neither : said asked 0 1 ≡ Neither
