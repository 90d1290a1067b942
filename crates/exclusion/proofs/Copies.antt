-- Copies: the copies of bench p's requests to bench q. Their invariant: those sent are those taken and those still on the channel.
-- And what the step that takes one says: p is the sender, q the receiver, no other bench takes one, and nobody's request changes.
use mathlib.Core.Path.{◌≡◌, refl, sym, ap, ◌∙◌, subst}
use mathlib.Core.Logic.{◌≢◌, ◌⊎◌, inl, inr}
use mathlib.Core.Bool.{Bool, true, false, cond, ◌&&◌, false≢true, and-false as none-and, and-true}
use mathlib.Core.List.{List}
use Prim.Native.Nat.{ℕ, ◌+◌, ◌<◌}
use native.Mathlib.Omega.{arith}
use native.Mathlib.Decide.{ℕ_discrete}
use lib.Dec.{eqb}
use borrow.Author.Tests.{eq-eqb, ne_eqb, eqb-true}
use Rattle.lamport.specs.declared.Kind.{Kind}
use Rattle.lamport.specs.declared.Kind.TheVariants.{Request, Ack, Release}
use Rattle.lamport.specs.declared.Message.{Message}
use Rattle.lamport.specs.declared.Step.{Step}
use Rattle.lamport.specs.declared.Step.TheVariants.{Ask, Carry, Enter, Leave, Mark}
use Rattle.lamport.specs.Table.{Table, waiting}
use Rattle.lamport.specs.Steps.{first, rest, replies}
use Rattle.lamport.proofs.Each.{and_left, and_right, and_false}
use Rattle.exclusion.specs.Demand.{is_done, request_sent, request_taken, Waits}
use Rattle.exclusion.proofs.Streams.{requests_in, requests-append}
use Rattle.exclusion.proofs.Effects.{Two, Acts, Carries}
use Rattle.lamport.proofs.Readings.{Other}
use Rattle.exclusion.proofs.Moves.{Moves, refuses, asks, carries, enters, leaves, marks}

-- ---- a refused step sends no request and takes none

refused-sent : (p : ℕ) (s : Table) (k : Step) → is_done s k ≡ false → request_sent p s k ≡ false
refused-sent p s (Ask a) e = and_false (eqb a p) _ e
refused-sent p s (Carry a b) e = refl
refused-sent p s (Enter a) e = refl
refused-sent p s (Leave a) e = refl
refused-sent p s (Mark a) e = refl

refused-taken : (p q : ℕ) (s : Table) (k : Step) → is_done s k ≡ false → request_taken p q s k ≡ false
refused-taken p q s (Ask a) e = refl
refused-taken p q s (Carry a b) e = simp (e, none-and)
refused-taken p q s (Enter a) e = refl
refused-taken p q s (Leave a) e = refl
refused-taken p q s (Mark a) e = refl

-- ---- the invariant of the copies from p to q

reply-no_request : (k : Kind) (c : ℕ) → requests_in (replies k c) ≡ 0
reply-no_request Request c = refl
reply-no_request Ack c = refl
reply-no_request Release c = refl

module _ (n : ℕ) (s s' : Table) (p q : ℕ) (t : Two n p q) where
  acts-copies : (a ph o : ℕ) (out : List Message) → Acts n s s' a ph o out
      → requests_in (s'.messages p q) ≡ requests_in (s.messages p q) + cond (eqb a p) (requests_in out) 0
  acts-copies a ph o out ac = go (ℕ_discrete p a)
    where
      go : Dec (p ≡ a) → requests_in (s'.messages p q) ≡ requests_in (s.messages p q) + cond (eqb a p) (requests_in out) 0
      go (yes e) = rw (eq-eqb a p (sym e), e, ac.chan-own q (rw e at t)) (requests-append (s.messages a q) out)
      go (no ne) = rw (ne_eqb a p (λ e. ne (sym e)), ac.chan-else p q t ne) (omega arith)

  carries-copies : (a b : ℕ) → is_done s (Carry a b) ≡ true → Carries n s s' a b (first (s.messages a b)) (rest (s.messages a b))
      → requests_in (s.messages p q) ≡ cond (request_taken p q s (Carry a b)) 1 0 + requests_in (s'.messages p q)
  carries-copies a b d ca = go (ℕ_discrete p a) (ℕ_discrete q b) (ℕ_discrete p b) (ℕ_discrete q a)
    where
      R : Type 0
      R = requests_in (s.messages p q) ≡ cond (request_taken p q s (Carry a b)) 1 0 + requests_in (s'.messages p q)

      -- another channel than the one taken from: taken is nothing
      none : (p ≡ a → q ≡ b → ⊥) → request_taken p q s (Carry a b) ≡ false
      none ne = part (ℕ_discrete a p) (ℕ_discrete b q)
        where
          part : Dec (a ≡ p) → Dec (b ≡ q) → request_taken p q s (Carry a b) ≡ false
          part (yes e) (yes f) = absurd (ne (sym e) (sym f))
          part (yes e) (no nf) = and_false (eqb a p) _ (rw (ne_eqb b q nf))
          part (no e) f = rw (ne_eqb a p e)

      here : p ≡ a → q ≡ b → R
      here e f = rw (e, f, eq-eqb a a refl, eq-eqb b b refl, ca.left) (simp (d, and-true) (ap requests_in ca.took))

      back : p ≡ b → q ≡ a → R
      back e f =
          rw (none (λ x y. ca.two.apart (sym x ∙ e)), e, f, ca.replied, requests-append (s.messages b a) _, reply-no_request (first (s.messages a b)).kind (s'.clock b)) (omega arith)

      beside : Other p q a b → Other p q b a → R
      beside x y = rw (none (λ e f. x (e, f)), ca.chan-else p q t x y) (omega arith)

      go : Dec (p ≡ a) → Dec (q ≡ b) → Dec (p ≡ b) → Dec (q ≡ a) → R
      go (yes e) (yes f) i j = here e f
      go (yes e) (no f) (yes i) j = absurd (ca.two.apart (sym e ∙ i))
      go (yes e) (no f) (no i) j = beside (λ x. f x.1) (λ x. i x.0)
      go (no e) f (yes i) (yes j) = back i j
      go (no e) f (yes i) (no j) = beside (λ x. e x.0) (λ x. j x.1)
      go (no e) f (no i) j = beside (λ x. e x.0) (λ x. i x.0)

  -- one that sends no request
  silent : (a ph o : ℕ) (out : List Message) → Acts n s s' a ph o out → requests_in out ≡ 0 → requests_in (s.messages p q) ≡ requests_in (s'.messages p q)
  silent a ph o out ac z = go (eqb a p) (acts-copies a ph o out ac)
    where
      go : (c : Bool) → requests_in (s'.messages p q) ≡ requests_in (s.messages p q) + cond c (requests_in out) 0 → requests_in (s.messages p q) ≡ requests_in (s'.messages p q)
      go true e = omega arith
      go false e = omega arith

  pub move_copies : {k : Step} → Moves n s s' k
      → cond (request_sent p s k) 1 0 + requests_in (s.messages p q) ≡ cond (request_taken p q s k) 1 0 + requests_in (s'.messages p q)
  move_copies {k} (refuses d e) = rw (refused-sent p s k d, refused-taken p q s k d, e)
  move_copies (asks {p = a} d h ph ac) = go (eqb a p) (acts-copies a _ _ _ ac)
    where
      go : (c : Bool) → requests_in (s'.messages p q) ≡ requests_in (s.messages p q) + cond c 1 0
          → cond (c && is_done s (Ask a)) 1 0 + requests_in (s.messages p q) ≡ 0 + requests_in (s'.messages p q)
      go true e = rw d (omega arith)
      go false e = omega arith
  move_copies (carries {p = a} {q = b} d ca) = omega (arith, carries-copies a b d ca)
  move_copies (enters {p = a} d h ph en ac) = omega (arith, silent a _ _ _ ac refl)
  move_copies (leaves {p = a} d h ph ac) = omega (arith, silent a _ _ _ ac refl)
  move_copies (marks {p = a} d h ac) = omega (arith, silent a _ _ _ ac refl)

-- ---- the step by which q takes a request of p

module _ (s : Table) (p : ℕ) where
  -- by a step some bench takes one, or none does
  pub who_takes : (k : Step) → ((q : ℕ) × (request_taken p q s k ≡ true)) ⊎ ((q : ℕ) → request_taken p q s k ≡ false)
  who_takes (Ask a) = inr (λ q. refl)
  who_takes (Carry a b) = go (request_taken p b s (Carry a b)) refl
    where
      go : (c : Bool) → request_taken p b s (Carry a b) ≡ c → ((q : ℕ) × (request_taken p q s (Carry a b) ≡ true)) ⊎ ((q : ℕ) → request_taken p q s (Carry a b) ≡ false)
      go true e = inl (b, e)
      go false e = inr (λ q. other q (ℕ_discrete b q))
        where
          other : (q : ℕ) → Dec (b ≡ q) → request_taken p q s (Carry a b) ≡ false
          other q (yes d) = subst (λ (x : ℕ). request_taken p x s (Carry a b) ≡ false) d e
          other q (no nd) = and_false (eqb a p) _ (rw (ne_eqb b q nd))
  who_takes (Enter a) = inr (λ q. refl)
  who_takes (Leave a) = inr (λ q. refl)
  who_takes (Mark a) = inr (λ q. refl)

  -- one bench at most takes one
  pub takes-alone : (q r : ℕ) (k : Step) → request_taken p q s k ≡ true → r ≢ q → request_taken p r s k ≡ false
  takes-alone q r (Ask a) e ne = refl
  takes-alone q r (Carry a b) e ne =
      let d : b ≡ q = eqb-true b q (and_left (eqb b q) _ (and_right (eqb a p) _ e)) in
      and_false (eqb a p) _ (rw (ne_eqb b r (λ f. ne (sym f ∙ d))))
  takes-alone q r (Enter a) e ne = refl
  takes-alone q r (Leave a) e ne = refl
  takes-alone q r (Mark a) e ne = refl

module _ (n : ℕ) (s s' : Table) (p : ℕ) where
  pub takes_two : (q : ℕ) {k : Step} → Moves n s s' k → request_taken p q s k ≡ true → Two n p q
  takes_two q {k} (refuses d e) t = absurd (false≢true (sym (refused-taken p q s k d) ∙ t))
  takes_two q (asks d h ph ac) t = absurd (false≢true t)
  takes_two q (carries {p = a} {q = b} d ca) t =
      let e : a ≡ p = eqb-true a p (and_left (eqb a p) _ t) in
      let f : b ≡ q = eqb-true b q (and_left (eqb b q) _ (and_right (eqb a p) _ t)) in
      rw (e, f) at ca.two
  takes_two q (enters d h ph en ac) t = absurd (false≢true t)
  takes_two q (leaves d h ph ac) t = absurd (false≢true t)
  takes_two q (marks d h ac) t = absurd (false≢true t)

  -- p waits on
  pub takes-waits : (q T : ℕ) {k : Step} → p < n → Moves n s s' k → request_taken p q s k ≡ true → Waits s p T → Waits s' p T
  takes-waits q T {k} h (refuses d e) t w = absurd (false≢true (sym (refused-taken p q s k d) ∙ t))
  takes-waits q T h (asks d l ph ac) t w = absurd (false≢true t)
  takes-waits q T h (carries d ca) t w = record { phase = ca.phase-all p h ∙ w.phase; stamp = ca.entry-self p h ∙ w.stamp }
  takes-waits q T h (enters d l ph en ac) t w = absurd (false≢true t)
  takes-waits q T h (leaves d l ph ac) t w = absurd (false≢true t)
  takes-waits q T h (marks d l ac) t w = absurd (false≢true t)

  -- a bench that waits sends no request
  pub waits-silent : {k : Step} → Moves n s s' k → s.phase p ≡ waiting → request_sent p s k ≡ false
  waits-silent {k} (refuses d e) w = refused-sent p s k d
  waits-silent (asks {p = a} d h ph ac) w = rw (ne_eqb a p (λ e. absurd (omega (arith, rw e at ph))))
  waits-silent (carries d ca) w = refl
  waits-silent (enters d h ph en ac) w = refl
  waits-silent (leaves d h ph ac) w = refl
  waits-silent (marks d h ac) w = refl
