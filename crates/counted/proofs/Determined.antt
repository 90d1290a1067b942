-- The contracts leave nothing open: two outcomes that meet one are the same. And what follows of a step, done or refused.
use mathlib.Core.Path.{◌≡◌, refl, sym, ap, ◌∙◌}
use mathlib.Core.Bool.{Bool, true, false}
use mathlib.Core.List.{List}
use Prim.Native.Nat.{ℕ}
use native.Mathlib.Decide.{ℕ_discrete}
use borrow.Author.Tests.{ne_eqb}
use Rattle.lamport.specs.declared.Step.{Step}
use Rattle.lamport.specs.Table.{sizes_ok}
use Rattle.lamport.specs.Counted.{Counted, counted_answer, counted_next}
use Rattle.words.specs.View.{view}
use Rattle.words.specs.WellFormed.{well_formed}
use Rattle.words.proofs.Determined.{determined}
use Rattle.vectors.specs.Rows.{brought}
use Rattle.vectors.proofs.Determined.{rows-determined}
use Rattle.counted.specs.declared.Lent.{Lent}
use Rattle.counted.specs.Post.{read, lent_ok, answer_of, Stepped}
use Rattle.counted.specs.One.{OneOutcome, OneFresh, OneStamp, ZeroIsNone}
use Rattle.counted.proofs.Stepping.{words-formed, counts-formed}

-- two tables with the same parts are one
pub parts : {a b : List ℕ} {x y : List (List ℕ)} → a ≡ b → x ≡ y → ◌≡◌ {A = Lent} (record { words = a; counts = x }) (record { words = b; counts = y })
parts e f = rw (e, f)

-- well-formed tables that read the same are the same
lent-determined : (t u : Lent) → lent_ok t ≡ true → lent_ok u ≡ true → read t ≡ read u → t ≡ u
lent-determined t u v w e = parts words rows
  where
    words : t.words ≡ u.words
    words = determined t.words u.words (words-formed t v) (words-formed u w) (ap (λ (s : Counted). s.table) e)

    rows : t.counts ≡ u.counts
    rows =
        rows-determined t.words t.counts u.counts (counts-formed t v) (rw words (counts-formed u w)) (ap (λ (s : Counted). s.counts) e)
        (ap (λ (s : Counted). s.brought) e ∙ ap (λ x. brought x u.counts) (sym words))

pub one-outcome : OneOutcome
one-outcome t s r r' u u' a b = (same, go (ℕ_discrete r 0))
  where
    same : r ≡ r'
    same = a.answered ∙ sym b.answered

    go : Dec (r ≡ 0) → u ≡ u'
    go (yes z) = let z' : r' ≡ 0 = sym same ∙ z in lent-determined u u' (a.formed z) (b.formed z') (a.done z ∙ sym (b.done z'))
    go (no nz) = a.untouched nz ∙ sym (b.untouched (λ z. nz (same ∙ z)))

pub one-fresh : OneFresh
one-fresh n k c r r' u u' a b = (a.answered ∙ sym b.answered, go (sizes_ok n k) refl)
  where
    go : (x : Bool) → sizes_ok n k ≡ x → u ≡ u'
    go true e = lent-determined u u' (a.formed e) (b.formed e) (a.done e ∙ sym (b.done e))
    go false e = a.zero e ∙ sym (b.zero e)

pub one-stamp : OneStamp
one-stamp t p r r' before after after' a b = (a.answered ∙ sym b.answered, a.written ∙ rw (a.answered, ← b.answered) (sym b.written))

-- no bench is too few
pub zero-is-none : ZeroIsNone
unfolding lent_ok well_formed view
zero-is-none = refl

-- ---- a step on a well-formed table is the rules' step on what is read in it, and leaves one that is well formed

module _ (t : Lent) (s : Step) (r : ℕ) (u : Lent) (w : lent_ok t ≡ true) (m : Stepped t s r u) where
  pub answered : r ≡ counted_answer (read t) s
  answered = m.answered ∙ unfold answer_of in rw w

  pub follows : read u ≡ counted_next (read t) s
  follows = go (ℕ_discrete r 0)
    where
      go : Dec (r ≡ 0) → read u ≡ counted_next (read t) s
      go (yes z) = m.done z
      go (no nz) = ap read (m.untouched nz) ∙ unfold counted_next in rw (ne_eqb (counted_answer (read t) s) 0 (λ z. nz (answered ∙ z)))

  pub keeps : lent_ok u ≡ true
  keeps = go (ℕ_discrete r 0)
    where
      go : Dec (r ≡ 0) → lent_ok u ≡ true
      go (yes z) = m.formed z
      go (no nz) = ap lent_ok (m.untouched nz) ∙ w
