-- The ways out of a step, and those of a fresh table, as the promises' records.
use Prim.Native.Nat.{ℕ, ◌<◌, ◌≤◌}
use native.Mathlib.Omega.{arith}
use mathlib.Core.Path.{◌≡◌, refl, sym, ◌∙◌}
use mathlib.Core.Bool.{true, false}
use mathlib.Core.List.{List}
use borrow.Author.Tests.{eq-eqb, ne_eqb, lt-ltb, le-ltb, le-leb, lt-leb}
use Rattle.lamport.specs.declared.Step.{Step}
use Rattle.lamport.specs.Order.{limit}
use Rattle.lamport.specs.Steps.{actor}
use Rattle.lamport.specs.Refusals.{answer}
use Rattle.lamport.specs.Counted.{Counted, counts_then, counted_done, counted_answer, counted_next}
use Rattle.lamport.proofs.Each.{and_left, and_right, and_in}
use Rattle.lamport.proofs.Granted.{Granted, granted}
use Rattle.words.specs.View.{view}
use Rattle.words.specs.WellFormed.{well_formed}
use Rattle.vectors.specs.Rows.{row_of, counts}
use Rattle.vectors.specs.Formed.{counts_ok}
use Rattle.vectors.specs.Stores.{stored_counts}
use Rattle.table.specs.Post.{stored}
use Rattle.table.proofs.Granting.{stored-wf}
use Rattle.counted.specs.declared.Lent.{Lent}
use Rattle.counted.specs.Post.{read, lent_ok, answer_of, Stepped, counts_answer, Handed}
use Rattle.counted.proofs.Counting.{both-fit, stored-counted, stored-ok}

-- both parts are well formed
module _ (t : Lent) where
  pub words-formed : lent_ok t ≡ true → well_formed t.words ≡ true
  unfolding lent_ok
  words-formed e = and_left (well_formed t.words) _ e

  pub counts-formed : lent_ok t ≡ true → counts_ok t.words t.counts ≡ true
  unfolding lent_ok
  counts-formed e = and_right (well_formed t.words) _ e

  pub both-formed : well_formed t.words ≡ true → counts_ok t.words t.counts ≡ true → lent_ok t ≡ true
  unfolding lent_ok
  both-formed e f = and_in (well_formed t.words) _ e f

pub next-done : (s : Counted) (k : Step) → counted_answer s k ≡ 0 → counted_next s k ≡ counted_done s k
unfolding counted_next
next-done s k e = rw (eq-eqb (counted_answer s k) 0 e)

-- 8 by a count: where no other refusal applies
pub spent-answer : (s : Counted) (k : Step) → answer s.table k ≡ 0 → limit < counts_then s k (actor k) → counted_answer s k ≡ 8
unfolding counted_answer
spent-answer s k e l = rw (eq-eqb (answer s.table k) 0 e, lt-ltb limit (counts_then s k (actor k)) l)

-- an answer of 0 where no count would pass it
pub fits-answer : (s : Counted) (k : Step) → answer s.table k ≡ 0 → counts_then s k (actor k) ≤ limit → counted_answer s k ≡ 0
unfolding counted_answer
fits-answer s k e l = rw (eq-eqb (answer s.table k) 0 e, le-ltb limit (counts_then s k (actor k)) l)

-- any other answer, whatever the counts
pub other-answer : (s : Counted) (k : Step) (r : ℕ) → r ≡ answer s.table k → (r ≡ 0 → ⊥) → r ≡ counted_answer s k
unfolding counted_answer
other-answer s k r e n = let some : answer s.table k ≡ 0 → ⊥ = λ z. n (e ∙ z) in rw (ne_eqb (answer s.table k) 0 some) e

module _ (t : Lent) (s : Step) where
  pub no_table : lent_ok t ≡ false → Stepped t s 1 t
  unfolding answer_of
  no_table w = record { answered = rw w; untouched = λ n. refl; done = λ e. absurd (omega arith); formed = λ e. absurd (omega arith) }

  answered-as : lent_ok t ≡ true → counted_answer (read t) s ≡ answer_of t s
  unfolding answer_of
  answered-as w = rw w

  pub refused : lent_ok t ≡ true → (r : ℕ) → r ≡ counted_answer (read t) s → (r ≡ 0 → ⊥) → Stepped t s r t
  refused w r e n = record { answered = e ∙ answered-as w; untouched = λ _. refl; done = λ z. absurd (n z); formed = λ z. absurd (n z) }

  pub taken : lent_ok t ≡ true → counted_answer (read t) s ≡ 0 → (u : Lent) → u.words ≡ stored t.words s → u.counts ≡ stored_counts t.words t.counts s → Stepped t s 0 u
  taken w z u e f =
      let g : Granted (view t.words) s = granted (view t.words) s (both-fit (read t) s z).0 in
      record {
        answered = sym z ∙ answered-as w;
        untouched = λ n. absurd (n refl);
        done = λ _. rw (e, f) (stored-counted t.words t.counts (words-formed t w) (counts-formed t w) s g ∙ sym (next-done (read t) s z));
        formed =
            λ _. both-formed u (rw e (stored-wf t.words (words-formed t w) s g)) (rw (e, f) (stored-ok t.words t.counts (words-formed t w) (counts-formed t w) s g));
      }

-- ---- the counts of a bench are handed out

module _ (t : Lent) (p : ℕ) (before : List ℕ) where
  pub handed_no_table : lent_ok t ≡ false → Handed t p 1 before before
  unfolding counts_answer
  handed_no_table w = record { answered = rw w; written = refl }

  pub handed_outside : (n : ℕ) → lent_ok t ≡ true → n ≡ (view t.words).benches → n ≤ p → Handed t p 2 before before
  unfolding counts_answer
  handed_outside n w e l = record { answered = rw (w, ← e, le-leb n p l); written = refl }

  pub handed : (n : ℕ) (after : List ℕ) → lent_ok t ≡ true → n ≡ (view t.words).benches → p < n → after ≡ row_of (counts t.counts p) → Handed t p 0 before after
  unfolding counts_answer
  handed n after w e l f = record { answered = rw (w, ← e, lt-leb n p l); written = f }
