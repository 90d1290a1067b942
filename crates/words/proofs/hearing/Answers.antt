use Rattle.std.proofs.Common.{sym, ◌∙◌}
use Rattle.words.proofs.Reading.{view-heard}
use Rattle.words.proofs.hearing.Goals as goal

pub returns : goal.returns
returns c =
    record {
      long = c.row.ensures.long;
      reads = λ q l. c.row.ensures.reads q l ∙ sym (view-heard _ _ q c.args.p.low l);
    }
