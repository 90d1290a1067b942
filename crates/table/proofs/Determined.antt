-- A fresh table's words leave nothing open.
use mathlib.Core.Path.{◌≡◌, refl, sym, ◌∙◌}
use mathlib.Core.Bool.{Bool, true, false}
use Rattle.lamport.specs.Table.{sizes_ok}
use Rattle.words.proofs.Determined.{determined}
use Rattle.table.specs.One.{OneFresh}

pub one-fresh : OneFresh
one-fresh n k c r r' u u' a b = (a.answered ∙ sym b.answered, go (sizes_ok n k) refl)
  where
    go : (x : Bool) → sizes_ok n k ≡ x → u ≡ u'
    go true e = determined u u' (a.formed e) (b.formed e) (a.done e ∙ sym (b.done e))
    go false e = a.zero e ∙ sym (b.zero e)
