-- What a `match` on byte strings knows of a word, its length and each byte, settles `same`.
use mathlib.Core.Path.{◌≡◌, refl}
use mathlib.Core.Bool.{true, false}
use mathlib.Core.List.{List, [], ◌∷◌}
use mathlib.Core.Logic.{◌⊎◌, inl, inr, ◌≢◌}
use Prim.Native.Nat.{ℕ, suc}
use native.Mathlib.Omega.{arith}
use lib.ListN.{length, get_or}
use Rattle.std.proofs.lemmas.Slice.Eq.{HasBytesAt}
use Rattle.std.proofs.lemmas.Bool.Decides.{eqb_tells}
use Rattle.schedule.specs.Parts.{same}

-- some byte of t, at i or after, does not stand there in s
abbrev Differs : List ℕ → ℕ → List ℕ → Type 0
Differs s i [] = ⊥
Differs s i (c ∷ p) = (get_or s i 0 ≢ c) ⊎ Differs s (suc i) p

stands_past : (x : ℕ) (s : List ℕ) (i : ℕ) (p : List ℕ) → HasBytesAt s i p → HasBytesAt (x ∷ s) (suc i) p
stands_past x s i [] h = tt
stands_past x s i (c ∷ p) h = (h.0, stands_past x s (suc i) p h.1)

differs_past : (x : ℕ) (s : List ℕ) (i : ℕ) (p : List ℕ) → Differs s i p → Differs (x ∷ s) (suc i) p
differs_past x s i [] h = h
differs_past x s i (c ∷ p) (inl h) = inl h
differs_past x s i (c ∷ p) (inr h) = inr (differs_past x s (suc i) p h)

pub same_tells : (s t : List ℕ) → ((same s t ≡ true) × (length s ≡ length t) × HasBytesAt s 0 t) ⊎ ((same s t ≡ false) × ((length s ≢ length t) ⊎ Differs s 0 t))
unfolding same
same_tells [] [] = inl (refl, refl, tt)
same_tells [] (y ∷ ys) = inr (refl, inl (λ e. omega arith))
same_tells (x ∷ xs) [] = inr (refl, inl (λ e. omega arith))
same_tells (x ∷ xs) (y ∷ ys) = elim (eqb_tells x y) [
  | inr h ↦ inr (rw h.0, inr (inl h.1))
  | inl h ↦ elim (same_tells xs ys) [
    | inl k ↦ inl (rw h.0 k.0, omega arith, (h.1, stands_past x xs 0 ys k.2))
    | inr k ↦ inr (rw h.0 k.0, elim k.1 [ inl l ↦ inl (λ e. l (omega arith)) | inr d ↦ inr (inr (differs_past x xs 0 ys d)) ])
  ]
]
