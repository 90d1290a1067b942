-- The phase that is read in a table has a name.
use Prim.Native.Nat.{ℕ, ◌≤◌, ◌<◌}
use native.Mathlib.Omega.{arith}
use mathlib.Core.Path.{◌≡◌, refl}
use mathlib.Core.Bool.{true}
use mathlib.Core.List.{List}
use Rattle.std.specs.Prelude.{Result, Ok, Err, IsOk}
use Rattle.lamport.specs.Codes.{NamesPhase}
use Rattle.lamport.specs.declared.Phase.{Phase}
use Rattle.lamport.specs.declared.UnknownCode.{UnknownCode}
use Rattle.words.specs.View.{view}
use Rattle.words.specs.WellFormed.{well_formed}
use Rattle.words.proofs.Formed.{phase-named}

named : (code : ℕ) (r : Result Phase UnknownCode) → NamesPhase code r → code ≤ 2 → IsOk r
named code (Ok phase) n h = refl
named code (Err e) n h = absurd (omega (arith, n.1))

pub phase_is_named : (t : List ℕ) (p code : ℕ) (r : Result Phase UnknownCode) → NamesPhase code r → code ≡ (view t).phase p → well_formed t ≡ true → p < 8 → IsOk r
phase_is_named t p code r n e w h = named code r n (omega (arith, e, phase-named t w p h))
