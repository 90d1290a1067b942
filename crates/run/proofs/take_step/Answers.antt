use Rattle.std.proofs.Common.{◌≡◌, ◌≤◌, ◌<◌, ℕ, List, length, true, ◌∙◌, arith}
use Rattle.lamport.specs.declared.Step.{Step}
use Rattle.lamport.specs.Steps.{actor}
use Rattle.lamport.proofs.Granted.{next-benches}
use Rattle.words.specs.View.{view}
use Rattle.words.specs.WellFormed.{well_formed}
use Rattle.words.proofs.Formed.{few}
use Rattle.table.proofs.Granting.{actor-in}
use Rattle.counted.specs.declared.Lent.{Lent}
use Rattle.counted.proofs.Stepping.{words-formed}
use Rattle.reached.specs.Advanced.{Advanced}
use Rattle.listing.specs.Record.{record_text}
use Rattle.run.proofs.Answered.{answer-small, inside-unless_2}
use Rattle.run.proofs.take_step.Goals as goal

-- the table t becomes u by the step x, which is answered r: where r is not 2, the step's bench is in the table after it
acts_within : (t : Lent) (x : Step) (r : ℕ) (u : Lent) → well_formed t.words ≡ true → Advanced t x r u → (r ≡ 2 → ⊥) → actor x < (view u.words).benches
acts_within t x r u w m n =
    rw (m.viewed, next-benches (view t.words) x) (actor-in t.words w x (inside-unless_2 (view t.words) x (λ e. n (m.answered ∙ e))))

pub record_of-r-requires-clause-few : goal.record_of-r-requires-clause-few
record_of-r-requires-clause-few c = few _ (words-formed _ c.step-answer.new.t.formed)

pub record_of-r-requires-clause-present : goal.record_of-r-requires-clause-present
record_of-r-requires-clause-present c =
    let after = c.step-answer in
    rw c.answer_number.ensures
    (λ n. omega (arith, acts_within _ _ _ _ (words-formed _ c.args.t.now.formed) after.ensures n, few _ (words-formed _ after.new.t.formed)))

-- the record of that step, the k-th, is within the room for a line, where its writer promises that it is short
in_room :
    (t : Lent) (x : Step) (k r : ℕ) (u : Lent) (text : List ℕ) → well_formed t.words ≡ true → well_formed u.words ≡ true → Advanced t x r u → k < 100000 →
    (well_formed u.words ≡ true → ((r ≡ 2 → ⊥) → actor x < (view u.words).benches) → k < 100000 → r < 10 → length text ≤ 32) →
    length text ≤ 32
in_room t x k r u text w v m small short =
    let digit : r < 10 = omega (arith, m.answered, answer-small (view t.words) x) in short v (acts_within t x r u w m) small digit

pub put_record-requires : goal.put_record-requires
put_record-requires c =
    let after = c.step-answer in
    let s = in_room _ _ _ _ _ (record_text c.record_of-r.result) (words-formed _ c.args.t.now.formed) (words-formed _ after.new.t.formed) after.ensures c.requires.number (rw c.answer_number.ensures at c.record_of-r.ensures.short) in
    omega (arith, s, c.requires.room)

pub returns : goal.returns
returns c =
    let after = c.step-answer in
    let m = after.ensures in
    let v = words-formed _ after.new.t.formed in
    let s = in_room _ _ _ _ _ (record_text c.record_of-r.result) (words-formed _ c.args.t.now.formed) v m c.requires.number (rw c.answer_number.ensures at c.record_of-r.ensures.short) in
    record {
      answered = m.answered;
      read = m.viewed;
      formed = v;
      wrote = rw (← m.answered, ← m.viewed, ← c.answer_number.ensures, ← c.record_of-r.ensures.exact) c.put_record.ensures;
      short = omega (arith, s, c.put_record.ensures.bytes);
    }
