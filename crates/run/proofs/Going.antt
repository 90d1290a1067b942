-- How far a run has come: the invariant of its loop, one turn of it, and the way out.
use Prim.Native.Nat.{ℕ, ◌+◌, ◌*◌, ◌-◌, ◌≤◌, ◌<◌}
use native.Mathlib.Omega.{arith}
use mathlib.Core.Path.{◌≡◌}
use mathlib.Core.List.{List, [], ◌++◌}
use lib.ListN.{length}
use Rattle.std.specs.Prelude.{Some}
use Rattle.lamport.specs.Refusals.{answer, next}
use Rattle.lamport.specs.declared.Step.{Step}
use Rattle.words.specs.View.{view}
use Rattle.listing.specs.Write.{Wrote}
use Rattle.listing.specs.Record.{record_text}
use Rattle.report.specs.Report.{record_of}
use Rattle.schedule.specs.Parts.{lf, count, IsCut}
use Rattle.schedule.specs.Lines.{line_of}
use Rattle.schedule.specs.declared.Line.TheVariants as L
use Rattle.schedule.proofs.PartsLaws.{length_cut, count_cut}
use Rattle.schedule.proofs.ScheduleLaws.{steps_at_step}
use Rattle.run.specs.Listing.{records, refused_one}
use Rattle.run.specs.Run.{steps_in, RanAs}
use Rattle.run.specs.declared.Ran.{Ran}
use Rattle.run.proofs.Records.{records-step, Makes, made-text, made-taken, made-refusals, makes-step}

-- before a line: `w` is written, there is room for each line to come, and the records to come make the whole
pub record Going (text : List ℕ) (budget : ℕ) (t₀ out₀ t out rest : List ℕ) (ran : Ran) : Type 0 where
  pub w : List ℕ
  pub past : ran.taken + length rest ≤ length text
  pub fewer : ran.refused ≤ ran.taken
  pub left : ran.taken ≤ budget
  pub room : ran.bytes + 32 * count lf rest ≤ 32 * count lf text
  pub wrote : Wrote w ran.bytes out₀ out
  pub makes : Makes w ran.taken ran.refused (records (ran.taken + 1) (budget - ran.taken) (view t) (steps_in rest)) (records 1 budget (view t₀) (steps_in text))

module _ {text : List ℕ} {budget : ℕ} {t₀ out₀ t out rest : List ℕ} {ran : Ran} (g : Going text budget t₀ out₀ t out rest ran) where
  -- where nothing is to come, the run is as it should be
  pub ended : records (ran.taken + 1) (budget - ran.taken) (view t) (steps_in rest) ≡ [] → length text ≤ 12288 →
      RanAs (records 1 budget (view t₀) (steps_in text)) ran out₀ out
      × ((ran.bytes ≤ 32 * count lf text) × ((ran.taken < 100000) × (ran.refused < 100000)))
  ended e h = (
    record {
      taken = made-taken e g.makes;
      refusals = made-refusals e g.makes;
      wrote = rw (← made-text e g.makes) g.wrote;
    },
    (omega (arith, g.room), (omega (arith, g.past), omega (arith, g.past, g.fewer))),
  )

  -- the step x of a line that is cut off is answered `a`; n bytes are written, and the words u are left
  pub go_on : {line after : List ℕ} {x : Step} (a n q : ℕ) (u out' : List ℕ) → IsCut lf rest line after → line_of line ≡ Some (L.Step x) → ran.taken < budget →
      a ≡ answer (view t) x → view u ≡ next (view t) x → q ≡ refused_one a → q ≤ 1 → n ≤ 32 →
      Wrote (g.w ++ record_text (record_of (ran.taken + 1) (answer (view t) x) x (next (view t) x))) (ran.bytes + n) out₀ out' →
      Going text budget t₀ out₀ u out' after (record { taken = ran.taken + 1; refused = ran.refused + q; bytes = ran.bytes + n })
  unfolding record_of
  go_on {line} {after} {x} a n q u out' cut says nb an re qi q1 n32 wrote =
      record {
        w = g.w ++ record_text (record_of (ran.taken + 1) (answer (view t) x) x (next (view t) x));
        past = omega (arith, g.past, length_cut cut);
        fewer = omega (arith, g.fewer);
        left = omega (arith, g.left, nb);
        room = omega (arith, g.room, count_cut cut);
        wrote = wrote;
        makes = rw (qi, an, re) (makes-step (rw (steps_at_step rest cut says, records-step ran.taken budget (view t) x (steps_in after) g.left (λ e. omega arith)) at g.makes));
      }
