use Rattle.std.proofs.Common.{refl, sym, ◌∙◌}
use Rattle.table.proofs.Making.{made}
use Rattle.table.proofs.fresh.Goals as goal

pub returns : goal.returns
returns c =
    let setup = c.args.setup in
    made setup.benches setup.capacity setup.start _ refl (sym c.sizes_ok.ensures ∙ c.if-not-sizes_ok.false) _ c.start.ensures
