-- Overtaking: `Queued` says that a waiting bench's request stands in every other queue; it stays so until that bench is granted.
-- Meanwhile another bench enters only on an earlier stamp, and then it is `Past` the request: its next one is later.
use mathlib.Core.Path.{◌≡◌, refl, sym, ◌∙◌}
use mathlib.Core.Logic.{◌≢◌, ◌⊎◌, inl, inr}
use mathlib.Core.Bool.{true}
use mathlib.Core.List.{List, [], ◌∷◌}
use Prim.Native.Nat.{ℕ, ◌≤◌, ◌<◌}
use native.Mathlib.Omega.{arith}
use native.Mathlib.Decide.{ℕ_discrete}
use borrow.Author.Tests.{eq-eqb, ne_eqb}
use Rattle.lamport.specs.declared.Kind.{Kind}
use Rattle.lamport.specs.declared.Kind.TheVariants.{Request, Ack, Release}
use Rattle.lamport.specs.declared.Message.{Message}
use Rattle.lamport.specs.declared.Step.{Step}
use Rattle.lamport.specs.declared.Step.TheVariants.{Enter}
use Rattle.lamport.specs.Order.{entry_after, before}
use Rattle.lamport.specs.Table.{Table, waiting}
use Rattle.lamport.specs.Steps.{rest}
use Rattle.exclusion.specs.Demand.{Earlier, Each, granted, count, Waits}
use Rattle.exclusion.proofs.Streams.{deliver, requests_in, Rises, Link, old-or_later}
use Rattle.exclusion.proofs.Effects.{Two, Acts, Carries}
use Rattle.exclusion.proofs.Invariant.{Inv, flip}
use Rattle.exclusion.proofs.Moves.{before→key, Entered, Moves, refuses, asks, carries, enters, leaves, marks, refused-grants}

-- bench p waits with stamp t, and every other bench has that request in its queue
pub record Queued (n : ℕ) (s : Table) (p t : ℕ) : Type 0 where
  pub waits : s.phase p ≡ waiting
  pub own : s.entry p p ≡ t
  pub queued : (q : ℕ) → q < n → q ≢ p → s.entry q p ≡ t

-- ---- a request that is on no channel any more is in every queue

no-request : (ms : List Message) (e : ℕ) → requests_in ms ≡ 0 → (deliver ms e ≡ e) ⊎ (deliver ms e ≡ 0)
no-request [] e r = inl refl
no-request (m ∷ ms) e r = go m.kind refl (λ z. no-request ms (entry_after m.kind m.stamp e) z)
  where
    d : ℕ
    d = deliver ms (entry_after m.kind m.stamp e)

    go : (k : Kind) → m.kind ≡ k → (requests_in ms ≡ 0 → (d ≡ entry_after m.kind m.stamp e) ⊎ (d ≡ 0)) → (d ≡ e) ⊎ (d ≡ 0)
    go Request j f = absurd (omega (arith, rw j at r))
    go Ack j f = last (f (omega (arith, rw j at r)))
      where
        last : (d ≡ entry_after m.kind m.stamp e) ⊎ (d ≡ 0) → (d ≡ e) ⊎ (d ≡ 0)
        last (inl i) = inl (i ∙ rw j)
        last (inr z) = inr z
    go Release j f = last (f (omega (arith, rw j at r)))
      where
        last : (d ≡ entry_after m.kind m.stamp e) ⊎ (d ≡ 0) → (d ≡ e) ⊎ (d ≡ 0)
        last (inl i) = inr (i ∙ rw j)
        last (inr z) = inr z

pub all_queued : (n : ℕ) (s : Table) (p t : ℕ) → p < n → Inv n s → Waits s p t → ((q : ℕ) → Two n p q → requests_in (s.messages p q) ≡ 0) → Queued n s p t
all_queued n s p t hp iv w gone =
    record { waits = w.phase; own = w.stamp; queued = λ q h ne. go q (two q h ne) (no-request (s.messages p q) (s.entry q p) (gone q (two q h ne))) }
  where
    two : (q : ℕ) → q < n → q ≢ p → Two n p q
    two q h ne = record { left = hp; right = h; apart = λ e. ne (sym e) }

    go : (q : ℕ) → Two n p q → (deliver (s.messages p q) (s.entry q p) ≡ s.entry q p) ⊎ (deliver (s.messages p q) (s.entry q p) ≡ 0) → s.entry q p ≡ t
    go q u (inl i) = sym i ∙ (iv.links p q u).view ∙ w.stamp
    go q u (inr z) = absurd ((iv.benches p hp).busy (omega (arith, w.phase)) (sym (iv.links p q u).view ∙ z))

-- ---- it stays in every queue until p is granted

-- an entry that is the request already: the next message does not change it
unchanged : {h e : ℕ} {ms : List Message} {o c d l : ℕ} (m : Message) (rest : List Message) → Link h e ms o c d l → ms ≡ m ∷ rest → o ≢ 0 → e ≡ o
    → entry_after m.kind m.stamp e ≡ e
unchanged {h} {e} {ms} {o} {c} {d} {l} m rest k q nz eo = go m.kind refl
  where
    rs : Rises h (m ∷ rest)
    rs = rw q at k.rises

    view : deliver rest (entry_after m.kind m.stamp e) ≡ o
    view = simp q at k.view

    clash : (x : ℕ) → entry_after m.kind m.stamp e ≡ x → x ≢ o → ⊥
    clash x ex ne = last (old-or_later rest m.stamp x rs.1)
      where
        view' : deliver rest x ≡ o
        view' = rw ex at view

        last : (deliver rest x ≡ x) ⊎ ((deliver rest x ≡ 0) ⊎ (m.stamp < deliver rest x)) → ⊥
        last (inl i) = ne (sym i ∙ view')
        last (inr (inl z)) = nz (sym view' ∙ z)
        last (inr (inr g)) = omega (arith, view', rs.0, k.seen, g)

    go : (j : Kind) → m.kind ≡ j → entry_after m.kind m.stamp e ≡ e
    go Request j = absurd (clash m.stamp (rw j) (λ z. omega (arith, rs.0, k.seen, z)))
    go Ack j = rw j
    go Release j = absurd (clash 0 (rw j) (λ z. nz (sym z)))

module _ (n : ℕ) (s s' : Table) (p t : ℕ) (hp : p < n) (qd : Queued n s p t) where
  acts-queued : (a ph o : ℕ) (out : List Message) → a < n → Acts n s s' a ph o out → (p ≡ a → (ph ≡ waiting) × (o ≡ t)) → Queued n s' p t
  acts-queued a ph o out ha ac same =
      record {
        waits = wait (ℕ_discrete p a);
        own = owns (ℕ_discrete p a);
        queued = λ q h ne. ac.entry-cross q p (record { left = h; right = hp; apart = ne }) ∙ qd.queued q h ne;
      }
    where
      wait : Dec (p ≡ a) → s'.phase p ≡ waiting
      wait (yes e) = rw e (ac.phase-own ∙ (same e).0)
      wait (no ne) = ac.phase-else p hp ne ∙ qd.waits

      owns : Dec (p ≡ a) → s'.entry p p ≡ t
      owns (yes e) = rw e (ac.entry-own ∙ (same e).1)
      owns (no ne) = ac.entry-else p hp ne ∙ qd.own

  carries-queued : Inv n s → (a b : ℕ) (m : Message) (rest : List Message) → Carries n s s' a b m rest → Queued n s' p t
  carries-queued iv a b m rest ca =
      record {
        waits = ca.phase-all p hp ∙ qd.waits;
        own = ca.entry-self p hp ∙ qd.own;
        queued = λ q h ne. go q (record { left = h; right = hp; apart = ne }) (ℕ_discrete q b) (ℕ_discrete p a);
      }
    where
      go : (q : ℕ) → Two n q p → Dec (q ≡ b) → Dec (p ≡ a) → s'.entry q p ≡ t
      go q u (yes e) (yes d) =
          rw (e, d)
          (ca.entry-own
          ∙ unchanged m rest (iv.links a b ca.two) ca.took ((iv.benches a ca.two.left).busy (omega (arith, rw d at qd.waits))) (rw (e, d) at (qd.queued q u.left u.apart ∙ sym qd.own))
          ∙ (rw (e, d) at (qd.queued q u.left u.apart)))
      go q u (yes e) (no d) = ca.entry-else q p u (λ x. d x.1) ∙ qd.queued q u.left u.apart
      go q u (no e) d = ca.entry-else q p u (λ x. e x.0) ∙ qd.queued q u.left u.apart

  -- p itself does not enter by a step that grants it nothing
  not_granted : (a : ℕ) → count p (record { stamp = s.entry a a; bench = a } ∷ []) ≡ 0 → a ≢ p
  not_granted a z e = omega (arith, rw (eq-eqb a p e) at z)

  pub move_queued : {k : Step} → Moves n s s' k → Inv n s → count p (granted s k) ≡ 0 → Queued n s' p t
  move_queued (refuses d e) iv z = rw e qd
  move_queued (asks {p = a} d h ph ac) iv z = acts-queued a _ _ _ h ac (λ e. absurd (omega (arith, ph, rw e at qd.waits)))
  move_queued (carries {p = a} {q = b} d ca) iv z = carries-queued iv a b _ _ ca
  move_queued (enters {p = a} d h ph en ac) iv z = acts-queued a _ _ _ h ac (λ e. absurd (not_granted a (rw d at z) (sym e)))
  move_queued (leaves {p = a} d h ph ac) iv z = acts-queued a _ _ _ h ac (λ e. absurd (omega (arith, ph, rw e at qd.waits)))
  move_queued (marks {p = a} d h ac) iv z = acts-queued a _ _ _ h ac (λ e. (rw e at qd.waits, rw e at qd.own))

  -- a bench that enters before p has the earlier stamp
  enters-before : (a : ℕ) → a < n → a ≢ p → Entered n s a → t ≢ 0 → before (s.entry a a) a t p ≡ true
  enters-before a h ne en nz =
      rw (qd.queued a h ne) at (en.ahead p (record { left = h; right = hp; apart = ne }) (λ z. nz (sym (qd.queued a h ne) ∙ z)))

  pub move_before : {k : Step} → Moves n s s' k → t ≢ 0 → count p (granted s k) ≡ 0 → Each (λ g. Earlier g (record { stamp = t; bench = p })) (granted s k)
  move_before {k} (refuses d e) nz z = rw (refused-grants s k d) tt
  move_before (asks d h ph ac) nz z = tt
  move_before (carries d ca) nz z = tt
  move_before (enters {p = a} d h ph en ac) nz z = rw d (enters-before a h (not_granted a (rw d at z)) en nz, tt)
  move_before (leaves d h ph ac) nz z = tt
  move_before (marks d h ac) nz z = tt

-- ---- a bench that is past the request t: should it wait, then with a later stamp

abbrev pub Past : Table → ℕ → ℕ → Type 0
Past s q t = s.phase q ≡ waiting → t < s.entry q q

module _
    (n : ℕ) (n8 : n ≤ 8) (s s' : Table) (p t : ℕ) (hp : p < n) (qd : Queued n s p t) (nz : t ≢ 0) (iv : Inv n s) (q : ℕ) (hq : q < n) (np : q ≢ p)
  where
    two : Two n q p
    two = record { left = hq; right = hp; apart = np }

    acts-past : (a ph o : ℕ) (out : List Message) → a < n → Acts n s s' a ph o out → (q ≡ a → ph ≡ waiting → t < o) → (q ≢ a → Past s q t) → Past s' q t
    acts-past a ph o out h ac new old = go (ℕ_discrete q a)
      where
        go : Dec (q ≡ a) → Past s' q t
        go (yes e) = rw (e, ac.phase-own, ac.entry-own) (new e)
        go (no ne) = rw (ac.phase-else q hq ne, ac.entry-else q hq ne) (old ne)

    -- q's clock has passed the request that stands in its queue, so its next request is later
    asks-late : t ≤ s.clock q
    asks-late = omega (arith, qd.queued q hq np, (iv.links p q (flip two)).seen, (iv.links p q (flip two)).known)

    -- a bench that is past the request is not granted, and stays so
    pub move_past : {k : Step} → Moves n s s' k → Past s q t → (count q (granted s k) ≡ 0) × Past s' q t
    move_past {k} (refuses d e) ps = rw (refused-grants s k d, e) (refl, ps)
    move_past (asks {p = a} d h ph ac) ps = (refl, acts-past a _ _ _ h ac (λ e w. omega (arith, rw e at asks-late)) (λ ne. ps))
    move_past (carries d ca) ps = (refl, rw (ca.phase-all q hq, ca.entry-self q hq) ps)
    move_past (enters {p = a} d h ph en ac) ps = go (ℕ_discrete a q)
      where
        go : Dec (a ≡ q) → (count q (granted s (Enter a)) ≡ 0) × Past s' q t
        go (yes e) =
            absurd (omega (arith, np, rw e at (before→key (s.entry a a) a t p (omega arith) (omega arith) (enters-before n s s' p t hp qd a h (rw e np) en nz)), ps (rw e at ph)))
        go (no ne) = (rw (d, ne_eqb a q ne), acts-past a _ _ _ h ac (λ e. absurd (ne (sym e))) (λ x. ps))
    move_past (leaves {p = a} d h ph ac) ps = (refl, acts-past a _ _ _ h ac (λ e w. omega arith) (λ ne. ps))
    move_past (marks {p = a} d h ac) ps = (refl, acts-past a _ _ _ h ac (λ e. rw e at ps) (λ ne. ps))

    -- a step grants q not at all, or once, and then q is past the request
    pub move_once : {k : Step} → Moves n s s' k → (count q (granted s k) ≡ 0) ⊎ ((count q (granted s k) ≡ 1) × Past s' q t)
    move_once {k} (refuses d e) = inl (rw (refused-grants s k d))
    move_once (asks d h ph ac) = inl refl
    move_once (carries d ca) = inl refl
    move_once (enters {p = a} d h ph en ac) = go (ℕ_discrete a q)
      where
        go : Dec (a ≡ q) → (count q (granted s (Enter a)) ≡ 0) ⊎ ((count q (granted s (Enter a)) ≡ 1) × Past s' q t)
        go (yes e) = inr (rw (d, eq-eqb a q e), acts-past a _ _ _ h ac (λ j w. omega arith) (λ ne. absurd (ne (sym e))))
        go (no ne) = inl (rw (d, ne_eqb a q ne))
    move_once (leaves d h ph ac) = inl refl
    move_once (marks d h ac) = inl refl
