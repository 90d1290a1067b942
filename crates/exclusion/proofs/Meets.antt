-- Meets: the rules' tables after a step, read at every place; so every step of the rules is one of `Moves`.
use mathlib.Core.Path.{◌≡◌, refl, sym, ap, ◌∙◌, subst}
use mathlib.Core.Bool.{Bool, true, false, cond}
use mathlib.Core.List.{List, [], ◌∷◌, ◌++◌}
use Prim.Native.Nat.{ℕ, ◌≤◌}
use lib.Dec.{leb, eqb}
use lib.ListN.{length}
use borrow.Author.Tests.{eq-eqb, ne_eqb, lt-ltb, eqb-true, eqb-false, leb-false, not-false}
use Rattle.lamport.specs.declared.Message.{Message}
use Rattle.lamport.specs.declared.Step.{Step}
use Rattle.lamport.specs.declared.Step.TheVariants.{Ask, Carry, Enter, Leave, Mark}
use Rattle.lamport.specs.Order.{limit, lc1, clock_after, ahead, own_first, late_enough, heard_all, entry_rule}
use Rattle.lamport.specs.Table.{Table, idle, waiting, holding}
use Rattle.lamport.specs.Steps.{first, rest, at2, acts, takes, replies, done}
use Rattle.lamport.specs.Refusals.{may_enter, answer, next}
use Rattle.lamport.proofs.Each.{and_left, and_right, or_out, or_false_left, or_false_right, other_at}
use Rattle.lamport.proofs.Granted.{Granted, granted, next-done}
use Rattle.lamport.proofs.Readings.{at1-here, at1-else, at2-here, at2-else}
use Rattle.exclusion.specs.Demand.{is_done}
use Rattle.exclusion.proofs.Enough.{enough-heard}
use Rattle.exclusion.proofs.Effects.{Two, Acts, Carries}
use Rattle.exclusion.proofs.Invariant.{flip}
use Rattle.exclusion.proofs.Moves.{Entered, Moves, refuses, asks, carries, enters, leaves, marks}

-- ---- the two changes of the rules

acts-meets : (s : Table) (p ph o : ℕ) (out : List Message) → lc1 (s.clock p) ≤ limit → Acts s.benches s (acts s p ph o out) p ph o out
unfolding acts
acts-meets s p ph o out fits =
    record {
      size = refl;
      fits = fits;
      clock-own = at1-here s.clock p _;
      clock-else = λ a h ne. at1-else s.clock p _ a ne;
      phase-own = at1-here s.phase p _;
      phase-else = λ a h ne. at1-else s.phase p _ a ne;
      entry-own = at2-here s.entry p p _;
      entry-else = λ a h ne. at2-else s.entry p p _ a a (λ e. ne e.0);
      entry-cross = λ a b t. at2-else s.entry p p _ a b (λ e. t.apart (e.0 ∙ sym e.1));
      heard-cross = λ a b t. refl;
      chan-own = λ b t. rw (eq-eqb p p refl, ne_eqb b p (flip t).apart, lt-ltb b s.benches t.right);
      chan-else = λ a b t ne. rw (ne_eqb a p ne);
    }

takes-meets : (n : ℕ) (s : Table) (p q : ℕ) (m : Message) (rest : List Message) → clock_after (s.clock q) m ≤ limit → Two n p q
    → s.messages p q ≡ m ∷ rest → Carries n s (takes s p q m rest) p q m rest
unfolding takes
takes-meets n s p q m left fits t taken =
    record {
      size = refl;
      fits = rw (at1-here s.clock q (clock_after (s.clock q) m)) fits;
      two = t;
      took = taken;
      left = at2-else (at2 s.messages p q left) q p _ p q (λ e. t.apart e.0) ∙ at2-here s.messages p q left;
      replied =
          at2-here (at2 s.messages p q left) q p _
          ∙ ap (λ (c : ℕ). s.messages q p ++ replies m.kind c) (sym (at1-here s.clock q (clock_after (s.clock q) m)));
      chan-else = λ a b u x y. at2-else (at2 s.messages p q left) q p _ a b y ∙ at2-else s.messages p q left a b x;
      clock-own = at1-here s.clock q _;
      clock-else = λ a h ne. at1-else s.clock q _ a ne;
      phase-all = λ a h. refl;
      entry-own = at2-here s.entry q p _;
      entry-self = λ a h. at2-else s.entry q p _ a a (λ e. t.apart (sym e.1 ∙ e.0));
      entry-else = λ a b u x. at2-else s.entry q p _ a b x;
      heard-own = at2-here s.heard q p _;
      heard-else = λ a b u x. at2-else s.heard q p _ a b x;
    }

-- ---- what the entry rule says

may_enter_lem : (s : Table) (p : ℕ) → may_enter s p ≡ true → Entered s.benches s p
unfolding entry_rule own_first heard_all
may_enter_lem s p t =
    record {
      ahead = λ q u nz.
          or_out (eqb (s.entry p q) 0) _ (ne_eqb (s.entry p q) 0 nz)
          (other_at p (ahead p (s.entry p)) s.benches q (and_left (own_first s.benches p (s.entry p)) _ t) u.right (flip u).apart);
      enough = λ q u.
          enough-heard p q (s.entry p p) (s.heard p q)
          (other_at p (λ a. late_enough p a (s.entry p p) (s.heard p a)) s.benches q (and_right (own_first s.benches p (s.entry p)) _ t) u.right (flip u).apart);
    }

-- ---- every step is a move

whole : (ms : List Message) → eqb (length ms) 0 ≡ false → ms ≡ first ms ∷ rest ms
whole [] e = cc
whole (m ∷ ms) e = refl

module _ (s : Table) where
  move_done : (k : Step) → is_done s k ≡ true → Granted s k → Moves s.benches s (done s k) k
  unfolding done
  move_done (Ask p) d g = asks d (leb-false _ p g.inside) (eqb-true (s.phase p) idle g.fit) (acts-meets s p _ _ _ g.fits)
  move_done (Carry p q) d g =
      let t : Two s.benches p q =
      record {
        left = leb-false _ p (or_false_left (leb s.benches p) _ g.inside);
        right = leb-false _ q (or_false_right (leb s.benches p) _ g.inside);
        apart = eqb-false p q g.apart;
      } in
      carries d (takes-meets s.benches s p q _ _ g.fits t (whole (s.messages p q) g.something))
  move_done (Enter p) d g =
      enters d (leb-false _ p g.inside) (eqb-true (s.phase p) waiting g.fit) (may_enter_lem s p (not-false _ g.ready)) (acts-meets s p _ _ _ g.fits)
  move_done (Leave p) d g = leaves d (leb-false _ p g.inside) (eqb-true (s.phase p) holding g.fit) (acts-meets s p _ _ _ g.fits)
  move_done (Mark p) d g = marks d (leb-false _ p g.inside) (acts-meets s p _ _ _ g.fits)

  next-moves : (k : Step) → Moves s.benches s (next s k) k
  unfolding next
  next-moves k = go (is_done s k) refl
    where
      go : (c : Bool) → is_done s k ≡ c → Moves s.benches s (cond (is_done s k) (done s k) s) k
      go true e = rw e (move_done k e (granted s k (eqb-true _ 0 e)))
      go false e = refuses e (rw e)

  pub step-moves : (n : ℕ) → s.benches ≡ n → (k : Step) → Moves n s (next s k) k
  step-moves n e k = subst (λ (m : ℕ). Moves m s (next s k) k) e (next-moves k)

-- a bench whose `enter` is done holds
pub enters-holds : (s : Table) (p : ℕ) → answer s (Enter p) ≡ 0 → (next s (Enter p)).phase p ≡ holding
unfolding done
enters-holds s p z = rw (next-done s (Enter p) z) (acts-meets s p holding (s.entry p p) [] (granted s (Enter p) z).fits).phase-own
