use Rattle.std.proofs.Common.{arith}
use Rattle.words.proofs.Formed.{few}
use Rattle.words.proofs.tables.Table.benches.Goals as goal

pub returns-clause-few : goal.returns-clause-few
returns-clause-few c = omega (arith, c.benches.ensures, few _ c.args.self.now.formed)
