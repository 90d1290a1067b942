-- The entry rule on rows of words is the rule on what the rows read.
use Prim.Native.Nat.{ℕ, ◌<◌, ◌≤◌}
use native.Mathlib.Omega.{arith}
use mathlib.Core.Path.{◌≡◌}
use mathlib.Core.List.{List}
use lib.ListN.{get_or}
use Rattle.lamport.specs.Order.{ahead, late_enough, own_first, heard_all, entry_rule}
use Rattle.lamport.proofs.Each.{every_same}
use Rattle.words.specs.View.{Row}

module _ (n p : ℕ) (hp : p < n) (n8 : n ≤ 8) (xs ys : List ℕ) (queue heard : ℕ → ℕ) (a : Row xs queue) (b : Row ys heard) where
  same_first : own_first n p (λ q. get_or xs q 0) ≡ own_first n p queue
  unfolding own_first
  same_first =
      every_same p n (ahead p (λ q. get_or xs q 0)) (ahead p queue) (λ q l. rw (a.reads q (omega arith), a.reads p (omega arith)))

  same-heard : (own : ℕ) → heard_all n p own (λ q. get_or ys q 0) ≡ heard_all n p own heard
  unfolding heard_all
  same-heard own =
      every_same p n (λ q. late_enough p q own (get_or ys q 0)) (λ q. late_enough p q own (heard q)) (λ q l. rw (b.reads q (omega arith)))

  pub rule_rows : entry_rule n p (λ q. get_or xs q 0) (λ q. get_or ys q 0) ≡ entry_rule n p queue heard
  unfolding entry_rule
  rule_rows = rw (same_first, same-heard (get_or xs p 0), a.reads p (omega arith))
