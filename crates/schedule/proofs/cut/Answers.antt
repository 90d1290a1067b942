use Rattle.std.proofs.Common.{◌≡◌, eqb, position, rules}
use Rattle.std.proofs.lemmas.Iterator.{YieldsList-from_slice}
use Rattle.std.proofs.lemmas.Iterator.Search.{position_from_yields_List}
use Rattle.std.proofs.lemmas.List.{take_rest}
use Rattle.schedule.proofs.PartsLaws.{uncut, cut_there}
use Rattle.schedule.proofs.cut.Goals as goal
use Rattle.schedule.proofs.cut.Goals.{After-position}

found : (c : After-position) → c.position.result ≡ position (λ x. eqb x c.args.b) c.args.text.now
found c = position_from_yields_List (λ x. eqb x c.args.b) _ _ _ c.position.ensures.ran (YieldsList-from_slice c.args.text.now c.iter.ensures.rest) (λ x b q k. search rules)

pub returns-in_err-end : goal.returns-in_err-end
returns-in_err-end c = rw c.from_residual.ensures (uncut _ _ (found (goal.at.returns-in_err-end c).After-position) c.in_err-end.was)

pub returns : goal.returns
returns c = rw take_rest (cut_there _ c.args.text.now (found (goal.at.returns c).After-position) c.in_ok-end.was)
