use Rattle.lamport.proofs.Starred.{starred-hold}
use Rattle.lamport.proofs.starred_cases.Goals as goal

pub returns : goal.returns
returns c = starred-hold
