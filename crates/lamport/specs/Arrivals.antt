-- Three orders of arrival in which a slip in a rule would break Demand3: what the rules give there.
use Rattle.std.specs.Prelude.{◌≡◌, List, [], ◌∷◌}
use Rattle.lamport.specs.Table.{Table, waiting, holding, fresh}
use Rattle.lamport.specs.Refusals.{answer, after}
use Rattle.lamport.specs.declared.Step.{Step}
use Rattle.lamport.specs.declared.Step.TheVariants.{Ask, Carry, Enter, Leave}

-- two benches, from fresh
abbrev pub arrived : List Step → Table
arrived ks = after (fresh 2 4 0) ks

-- nobody has heard anything: entering on the first clause alone would leave two benches holding
abbrev pub none_heard : List Step
none_heard = Ask 0 ∷ Enter 0 ∷ Ask 1 ∷ Enter 1 ∷ []

-- bench 1 is granted its own request after bench 0 has left: a release that cleared the receiver's own entry would make its stamp 0, which comes before bench 0's
abbrev pub released : List Step
released =
    Ask 0 ∷ Ask 1 ∷ Carry 0 1 ∷ Carry 1 0 ∷ Carry 1 0 ∷ Enter 0 ∷ Leave 0 ∷ Carry 0 1 ∷ Carry 0 1 ∷ Enter 1 ∷ []

-- every message has arrived and bench 0 alone waits: a receipt that moved no clock would leave it unheard for ever
abbrev pub all_arrived : List Step
all_arrived = Ask 0 ∷ Carry 0 1 ∷ Carry 1 0 ∷ []

pub record Arrivals : Type 0 where
  pub first_waits : (arrived none_heard).phase 0 ≡ waiting
  pub second_waits : (arrived none_heard).phase 1 ≡ waiting
  pub granted : (arrived released).phase 1 ≡ holding
  pub stamp : (arrived released).entry 1 1 ≡ 1
  pub let_in : answer (arrived all_arrived) (Enter 0) ≡ 0
