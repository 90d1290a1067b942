-- An answer is one digit, and one that is not 2 has its bench in the table.
use Prim.Native.Nat.{ℕ, ◌<◌}
use native.Mathlib.Omega.{arith}
use mathlib.Core.Path.{◌≡◌, refl, sym}
use mathlib.Core.Bool.{Bool, true, false, cond}
use Rattle.lamport.specs.Table.{Table}
use Rattle.lamport.specs.Refusals.{outside, to_itself, not_admitted, nothing_there, not_yet, no_room, clock_spent, answer}
use Rattle.lamport.specs.declared.Step.{Step}
use Rattle.lamport.proofs.Numbers.{no-2}

either_small : (b : Bool) (x y : ℕ) → x < 10 → y < 10 → cond b x y < 10
either_small true x y h k = h
either_small false x y h k = k

module _ (s : Table) (x : Step) where
  pub answer-small : answer s x < 10
  unfolding answer
  answer-small =
      either_small (outside s x) 2 _ (omega arith)
      (either_small (to_itself x) 3 _ (omega arith)
      (either_small (not_admitted s x) 4 _ (omega arith)
      (either_small (nothing_there s x) 5 _ (omega arith)
      (either_small (not_yet s x) 6 _ (omega arith)
      (either_small (no_room s x) 7 _ (omega arith) (either_small (clock_spent s x) 8 0 (omega arith) (omega arith)))))))

  pub inside-unless_2 : (answer s x ≡ 2 → ⊥) → outside s x ≡ false
  inside-unless_2 n = go (outside s x) refl
    where
      go : (b : Bool) → outside s x ≡ b → outside s x ≡ false
      go true e = absurd (n (sym (no-2 s x e)))
      go false e = e
