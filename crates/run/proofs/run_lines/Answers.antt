use Rattle.std.proofs.Common.{◌≡◌, ◌≤◌, ◌+◌, List, [], ◌++◌, ℕ, length, Some, rules, refl, arith, length-drop, length-take, length-append}
use Rattle.std.proofs.Math.Nat.{sub-zero}
use Rattle.lamport.specs.Refusals.{answer_number, answer, next}
use Rattle.words.specs.View.{view}
use Rattle.listing.specs.Write.{over}
use Rattle.listing.specs.Record.{record_text}
use Rattle.listing.proofs.Laws.{lend}
use Rattle.report.specs.Report.{record_of}
use Rattle.schedule.specs.Lines.{line_of}
use Rattle.schedule.specs.declared.Line.TheVariants as L
use Rattle.schedule.proofs.PartsLaws.{count_cut}
use Rattle.schedule.proofs.ScheduleLaws.{steps_uncut, stepping}
use Rattle.run.specs.Listing.{records}
use Rattle.run.proofs.Records.{records-end, records-over, makes-start}
use Rattle.run.specs.Run.{steps_in, RanAs}
use Rattle.run.specs.declared.Ran.{Ran}
use Rattle.run.proofs.Going.{Going, ended, go_on}
use Rattle.run.proofs.run_lines.Goals as goal

-- where no step is left, the run is as it should be
finished : {text : List ℕ} {budget : ℕ} {t₀ out₀ t out rest : List ℕ} {ran : Ran} → Going text budget t₀ out₀ t out rest ran → steps_in rest ≡ [] → length text ≤ 12288 → RanAs (records 1 budget (view t₀) (steps_in text)) ran out₀ out
finished g e h = (ended g (rw e (records-end _ _ _)) h).0

pub loop-ran-init : goal.loop-ran-init
unfolding over
loop-ran-init c =
    record {
      w = [];
      past = omega arith;
      fewer = omega arith;
      left = omega arith;
      room = omega arith;
      wrote = record { bytes = refl; text = refl };
      makes = rw sub-zero (makes-start _);
    }

pub returns-in_default-clause-exact : goal.returns-in_default-clause-exact
returns-in_default-clause-exact c =
    finished c.loop-ran.invariant (steps_uncut _ c.in_default.ensures) c.requires.short

pub returns-in_default-line_of-clause-exact : goal.returns-in_default-line_of-clause-exact
returns-in_default-line_of-clause-exact c =
    finished c.loop-ran.invariant (grind (arith, stepping)) c.requires.short

pub returns-in_default-line_of-2-clause-exact : goal.returns-in_default-line_of-2-clause-exact
returns-in_default-line_of-2-clause-exact c =
    finished c.loop-ran.invariant (grind (arith, stepping)) c.requires.short

pub take_step-turn-requires-clause-room : goal.take_step-turn-requires-clause-room
take_step-turn-requires-clause-room c =
    simp (length-take, length-drop)
    (omega (arith, c.requires.room, c.loop-ran.invariant.room, c.loop-ran.auto.out, count_cut c.in-Some.ensures))

pub loop-ran-preserved : goal.loop-ran-preserved
loop-ran-preserved c =
    let g = c.loop-ran.invariant in
    let ran = c.loop-ran.ran in
    let cut = c.in-Some.ensures in
    let x = c.in-Some-Step.x in
    let turn = c.take_step-turn in
    let table = view c.loop-ran.t.lent.words in
    let v = record_text (record_of (ran.taken + 1) (answer table x) x (next table x)) in
    let fits : length (g.w ++ v) ≤ length c.args.out.now =
    simp length-append
    (omega (arith, g.wrote.bytes, turn.ensures.wrote.bytes, turn.ensures.short, g.room, count_cut cut, c.requires.room)) in
    let lent = lend g.w v (g.w ++ v) c.args.out.now refl fits c.loop-ran.out ran.bytes g.wrote in
    let says : line_of c.in-Some.line.now ≡ Some (L.Step x) = search rules in
    go_on g (answer_number turn.result.answer) turn.result.bytes c.refused_one.result turn.new.t.lent.words _ cut says
    c.loop-ran-test.true turn.ensures.answered turn.ensures.read c.refused_one.ensures.value c.refused_one.ensures.digit turn.ensures.short
    (lent.then turn.result.bytes turn.new.out turn.ensures.wrote)

pub returns-clause-exact : goal.returns-clause-exact
returns-clause-exact c =
    let g = c.loop-ran.invariant in
    (ended g (records-over _ _ _ _ _ (omega (arith, g.left, c.loop-ran-test.false))) c.requires.short).0
