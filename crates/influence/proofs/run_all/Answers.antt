use Rattle.std.proofs.Common.{arith}
use Rattle.input.proofs.Told.{told}
use Rattle.listing.proofs.Laws.{written-front}
use Rattle.verdict.specs.Shown.{printed}
use Rattle.verdict.proofs.Front.{front_printed}
use Rattle.influence.specs.declared.TheConstants.{INPUT}
use Rattle.influence.proofs.run_all.Goals as goal

pub returns : goal.returns
returns g c =
    let wrote = rw c.judge.ensures at c.put_verdict-bytes.ensures.text in
    told INPUT printed (front_printed INPUT (omega arith)) (written-front wrote) c.write_all.result _ _ _ c.write_all.ensures.bytes c.in_ok-n.ensures.front
