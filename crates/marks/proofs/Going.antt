-- How far the steps are taken: the invariant of the loop, one turn of it, and the way out.
use Prim.Native.Nat.{ℕ, ◌+◌, ◌*◌, ◌≤◌}
use native.Mathlib.Omega.{arith}
use native.Mathlib.Numerals.{add-one}
use mathlib.Core.Path.{◌≡◌, refl, ◌∙◌}
use mathlib.Core.List.{List, [], ◌++◌, append_assoc, append-nil}
use lib.ListN.{length}
use Rattle.std.specs.Prelude.{Some}
use Rattle.lamport.specs.Counted.{Counted, counted_next}
use Rattle.lamport.specs.declared.Step.{Step}
use Rattle.listing.specs.Write.{Wrote}
use Rattle.listing.proofs.Laws.{over-none}
use Rattle.schedule.specs.Parts.{lf, count, IsCut}
use Rattle.schedule.specs.Lines.{line_of}
use Rattle.schedule.specs.declared.Line.TheVariants as L
use Rattle.schedule.proofs.PartsLaws.{length_cut, count_cut}
use Rattle.schedule.proofs.ScheduleLaws.{steps_at_step}
use Rattle.run.specs.Run.{steps_in}
use Rattle.marks.specs.Reading.{reading_of, readings_of}

-- before the k-th step, with the table s: `w` is written, there is room for each line to come, and the readings to come make the whole
pub record Going (text : List ℕ) (s₀ : Counted) (out₀ : List ℕ) (s : Counted) (out rest : List ℕ) (k bytes : ℕ) : Type 0 where
  pub w : List ℕ
  pub past : k + length rest ≤ length text + 1
  pub room : bytes + 128 * count lf rest ≤ 128 * count lf text
  pub wrote : Wrote w bytes out₀ out
  pub makes : w ++ readings_of k s (steps_in rest) ≡ readings_of 1 s₀ (steps_in text)

pub going-start : (text : List ℕ) (s : Counted) (out : List ℕ) → Going text s out s out text 1 0
going-start text s out = record { w = []; past = omega arith; room = omega arith; wrote = over-none out; makes = refl }

module _ {text : List ℕ} {s₀ : Counted} {out₀ : List ℕ} {s : Counted} {out rest : List ℕ} {k bytes : ℕ} (g : Going text s₀ out₀ s out rest k bytes) where
  -- where no step is left, what is written is the whole
  pub ended : steps_in rest ≡ [] → Wrote (readings_of 1 s₀ (steps_in text)) bytes out₀ out
  unfolding readings_of
  ended e = rw (← g.makes, e, append-nil) g.wrote

  -- the step x of a line that is cut off leaves the table u; n bytes are written
  pub go_on : {line after : List ℕ} {x : Step} (n : ℕ) (u : Counted) (out' : List ℕ) → IsCut lf rest line after → line_of line ≡ Some (L.Step x) →
      u ≡ counted_next s x → n ≤ 128 → Wrote (g.w ++ reading_of k s x) (bytes + n) out₀ out' → Going text s₀ out₀ u out' after (k + 1) (bytes + n)
  unfolding readings_of
  go_on {line} {after} {x} n u out' cut says next n128 wrote =
      record {
        w = g.w ++ reading_of k s x;
        past = omega (arith, g.past, length_cut cut);
        room = omega (arith, g.room, count_cut cut);
        wrote = wrote;
        makes = rw (next, add-one) (append_assoc g.w (reading_of k s x) _ ∙ rw (steps_at_step rest cut says) at g.makes);
      }
