-- How long a field is.
use Prim.Native.Nat.{ℕ, zero, suc, ◌≤◌, ◌<◌, ◌^◌}
use native.Mathlib.Omega.{arith}
use mathlib.Core.Bool.{Bool, true, false, cond}
use lib.Dec.{eqb}
use lib.ListN.{length}
use Rattle.std.specs.Prelude.{Option, Some, None}
use Rattle.std.specs.Option.{IfSome, option_or}
use Rattle.lamport.specs.Table.{Table, waiting, holding}
use Rattle.lamport.proofs.Each.{count_most}
use Rattle.listing.specs.Record.{cell_text}
use Rattle.listing.proofs.Laws.{number_short, dash_short}
use Rattle.report.specs.Report.{earlier, place_of, place_cell, holder_below}

pub cell_short : (k : ℕ) (o : Option ℕ) → IfSome o (λ x. x < 10 ^ suc k) → length (cell_text o) ≤ suc k
cell_short k None h = omega (arith, dash_short)
cell_short k (Some x) h = number_short k x h

either_short : (b : Bool) (c d : Option ℕ) → length (cell_text c) ≤ 1 → length (cell_text d) ≤ 1 → length (cell_text (cond b c d)) ≤ 1
either_short true c d h k = h
either_short false c d h k = k

or_short : (c d : Option ℕ) → length (cell_text c) ≤ 1 → length (cell_text d) ≤ 1 → length (cell_text (option_or c d)) ≤ 1
or_short (Some x) d h k = h
or_short None d h k = k

-- of any table, in words or not: where there are at most 8 benches, a place and a holder have one byte each
module _ (s : Table) where
  pub place_short : (p : ℕ) → s.benches ≤ 8 → length (cell_text (place_cell s p)) ≤ 1
  unfolding place_cell place_of
  place_short p few =
      either_short (eqb (s.phase p) waiting) (Some (place_of s p)) None
      (number_short 0 (place_of s p) (omega (arith, count_most (earlier s p) s.benches))) dash_short

  pub holder-short : (n : ℕ) → n ≤ 8 → length (cell_text (holder_below s n)) ≤ 1
  unfolding holder_below
  holder-short zero h = dash_short
  holder-short (suc n) h =
      or_short (holder_below s n) (cond (eqb (s.phase n) holding) (Some n) None) (holder-short n (omega arith))
      (either_short (eqb (s.phase n) holding) (Some n) None (number_short 0 n (omega arith)) dash_short)
