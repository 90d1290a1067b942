use Rattle.std.proofs.Common.{refl, arith}
use Rattle.std.proofs.lemmas.List.{nil_from_length}
use Rattle.listing.specs.Write.{over}
use Rattle.listing.specs.Record.{fields}
use Rattle.listing.proofs.Laws.{fields_first, lend}
use Rattle.listing.proofs.+put_fields.Goals as goal

pub returns-in-empty : goal.returns-in-empty
unfolding fields over
returns-in-empty t c = rw (nil_from_length c.args.cells.now (omega arith)) (record { bytes = refl; text = refl })

pub returns-in-len1-up : goal.returns-in-len1-up
returns-in-len1-up t c =
    (lend _ _ _ _ (fields_first _ _ c.in-len1-up.len_at_least) c.requires _ _ c.put_field-at.ensures).then _ _ c.put_fields.ensures
