-- The lowest bench that holds: the first that is found stays.
use Prim.Native.Nat.{ℕ, zero, suc, ◌<◌}
use native.Mathlib.Nat.{not-suc-le-zero, le_of_suc-le-suc, eq-or-lt_of_le}
use mathlib.Core.Path.{◌≡◌, subst}
use mathlib.Core.Logic.{⊎_elim}
use borrow.Author.Tests.{eq-eqb}
use Rattle.std.specs.Prelude.{Some, None}
use Rattle.lamport.specs.Table.{Table, holding}
use Rattle.report.specs.Report.{holder_below}

pub found : (s : Table) (n q : ℕ) → q < n → holder_below s q ≡ None → s.phase q ≡ holding → holder_below s n ≡ Some q
unfolding holder_below
found s zero q l e h = absurd (not-suc-le-zero l)
found s (suc n) q l e h =
    ⊎_elim
    (λ d. subst (λ (x : ℕ). holder_below s (suc x) ≡ Some q) d (rw (e, eq-eqb (s.phase q) holding h)))
    (λ lt. rw (found s n q lt e h))
    (eq-or-lt_of_le (le_of_suc-le-suc l))
