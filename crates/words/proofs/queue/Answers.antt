use Rattle.std.proofs.Common.{sym, ◌∙◌}
use Rattle.words.proofs.Reading.{view-entry}
use Rattle.words.proofs.queue.Goals as goal

pub returns : goal.returns
returns c =
    record {
      long = c.row.ensures.long;
      reads = λ q l. c.row.ensures.reads q l ∙ sym (view-entry _ _ q c.args.p.low l);
    }
