use Rattle.std.proofs.Common.{refl}
use Rattle.listing.specs.Record.{word_line}
use Rattle.listing.proofs.Laws.{lend}
use Rattle.listing.proofs.put_line.Goals as goal

pub returns : goal.returns
unfolding word_line
returns c = (lend _ _ _ _ refl c.requires _ _ c.put_word-at.ensures).then _ _ c.put_fields.ensures
