-- No statement of Demand3 holds for want of cases: lists of steps that meet its premises and reach its bounds.
use Rattle.std.specs.Prelude.{◌≡◌, List, [], ◌∷◌, ◌++◌}
use Rattle.lamport.specs.Table.{Table, fresh}
use Rattle.lamport.specs.Refusals.{answer, after}
use Rattle.lamport.specs.declared.Step.{Step}
use Rattle.lamport.specs.declared.Step.TheVariants.{Ask, Carry, Enter, Leave}
use Rattle.exclusion.specs.Demand.{grants, count, Rising, taken, Carried, LastCopy, overtakings, Quiet, ComesFirst, entering}

-- two benches, with clocks from 0
abbrev pub two : Table
two = fresh 2 4 0

-- both ask, and bench 1 takes bench 0's request; what is left of bench 1's is one copy, which bench 0 takes then
abbrev pub both_ask : List Step
both_ask = Ask 0 ∷ Ask 1 ∷ Carry 0 1 ∷ []

abbrev pub both_asked : List Step
both_asked = both_ask ++ Carry 1 0 ∷ []

-- one asks, its request is taken, and then the acknowledgement
abbrev pub one_asks : List Step
one_asks = Ask 0 ∷ Carry 0 1 ∷ Carry 1 0 ∷ []

-- two benches, with clocks that one_asks brings to the limit
abbrev pub late : Table
late = fresh 2 4 4294967291

pub record Witnessed : Type 0 where
  -- 1 and 2: two benches are granted, one after the other, and their requests rise
  pub both_granted : grants two (both_asked ++ Carry 1 0 ∷ Enter 0 ∷ Leave 0 ∷ Carry 0 1 ∷ Carry 0 1 ∷ Enter 1 ∷ [])
      ≡ (record { stamp = 1; bench = 0 } ∷ record { stamp = 1; bench = 1 } ∷ [])
  pub both_rise : Rising (record { stamp = 1; bench = 0 } ∷ record { stamp = 1; bench = 1 } ∷ [])
  -- 3: a step takes the last copy of a request, and the request is carried to all others
  pub last_copy : LastCopy two both_ask (Carry 1 0) 1
  pub carried : Carried two both_asked 1 1
  -- a release that is taken counts as no request
  pub one_copy : taken two (one_asks ++ Enter 0 ∷ Leave 0 ∷ Carry 0 1 ∷ []) 0 1 ≡ 1
  -- it is overtaken as often as it may be, while it waits
  pub overtaken : count 0 (grants (after two both_asked) (Carry 1 0 ∷ Enter 0 ∷ [])) ≡ overtakings
  pub waits : count 1 (grants (after two both_asked) (Carry 1 0 ∷ Enter 0 ∷ [])) ≡ 0
  -- 4: nothing is under way and one waits, with a clock that is not spent
  pub quiet : Quiet (after two one_asks)
  pub first : ComesFirst (after two one_asks) 0
  pub let_in : answer (after two one_asks) (Enter 0) ≡ 0
  pub let_in_so : entering ((after two one_asks).clock 0) ≡ 0
  -- and with one that is
  pub quiet_late : Quiet (after late one_asks)
  pub first_late : ComesFirst (after late one_asks) 0
  pub spent : answer (after late one_asks) (Enter 0) ≡ 8
  pub spent_so : entering ((after late one_asks).clock 0) ≡ 8
