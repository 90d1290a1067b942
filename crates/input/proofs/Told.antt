-- What is printed of the bytes that are read is what is printed of the whole input, where so many bytes are enough.
use Prim.Native.Nat.{ℕ}
use mathlib.Core.Path.{◌≡◌, ap, subst, ◌∙◌}
use mathlib.Core.List.{List}
use lib.ListN.{take}
use Rattle.std.specs.Prelude.{⊤, Option, Some, None, Result, Ok, Err, OnOk, IfSome}
use Rattle.std.specs.Io.KnownBytes.{Appends}

module _ (n : ℕ) (printed : List ℕ → List ℕ) (enough : (input : List ℕ) → printed (take n input) ≡ printed input) {front text : List ℕ} (wrote : text ≡ printed front) where
  pub told : {E : Type 0} (r : Result ⊤ E) (known a b : Option (List ℕ)) → OnOk r (Appends a b text) → IfSome known (λ input. front ≡ take n input)
      → OnOk r (IfSome known (λ input. Appends a b (printed input)))
  told (Ok x) (Some input) a b w e = subst (Appends a b) (wrote ∙ ap printed e ∙ enough input) w
  told (Ok x) None a b w e = tt
  told (Err e) known a b w k = tt
