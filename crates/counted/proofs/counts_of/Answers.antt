use Rattle.std.proofs.Common.{sym, ◌∙◌, arith}
use Rattle.words.proofs.Formed.{few}
use Rattle.counted.proofs.Stepping.{words-formed, handed_no_table, handed_outside, handed}
use Rattle.counted.proofs.counts_of.Goals as goal

pub returns-then-not-is_table : goal.returns-then-not-is_table
returns-then-not-is_table c = handed_no_table _ _ _ (sym c.is_table.ensures ∙ c.if-not-is_table.true)

pub returns-then-benches-p : goal.returns-then-benches-p
returns-then-benches-p c = handed_outside _ _ _ _ (sym c.is_table.ensures ∙ c.if-not-is_table.false) c.benches.ensures c.if-benches-p.true

pub new-requires : goal.new-requires
new-requires c = omega (arith, few _ (words-formed _ (sym c.is_table.ensures ∙ c.if-not-is_table.false)), c.benches.ensures, c.if-benches-p.false)

pub returns : goal.returns
returns c =
    handed _ _ _ _ _ (sym c.is_table.ensures ∙ c.if-not-is_table.false) c.benches.ensures c.if-benches-p.false (rw c.new.ensures at c.stamp_of.ensures)
