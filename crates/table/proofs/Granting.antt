-- What follows from words that are well formed, and from an answer of 0: the step's stores are the rules' change of the view.
use Prim.Native.Nat.{ℕ, ◌+◌, ◌<◌, ◌≤◌}
use native.Mathlib.Omega.{arith}
use mathlib.Core.Path.{◌≡◌, refl, sym, ap, ◌∙◌}
use mathlib.Core.Logic.{◌≢◌}
use mathlib.Core.Bool.{true, false}
use mathlib.Core.List.{List}
use borrow.Author.Tests.{leb-false, eqb-true, eqb-false}
use lib.Dec.{leb, eqb}
use lib.ListN.{length}
use Rattle.lamport.specs.declared.Kind.{Kind}
use Rattle.lamport.specs.declared.Kind.TheVariants.{Request, Release}
use Rattle.lamport.specs.declared.Step.{Step}
use Rattle.lamport.specs.declared.Step.TheVariants.{Ask, Carry, Enter, Leave, Mark}
use Rattle.lamport.specs.Order.{limit}
use Rattle.lamport.specs.Table.{Table}
use Rattle.lamport.specs.Steps.{actor, first, done}
use Rattle.lamport.specs.Refusals.{outside, full, any_full, is_request, no_room}
use Rattle.lamport.proofs.Granted.{Granted, done-sizes}
use Rattle.lamport.proofs.Each.{and_out, or_false_left, or_false_right, no-other_at}
use Rattle.words.specs.Places.{benches, capacity, clock, count, chan}
use Rattle.words.specs.View.{view}
use Rattle.words.specs.WellFormed.{well_formed}
use Rattle.words.proofs.Shut.{word}
use Rattle.words.proofs.Reading.{view-benches, view-clock, view-phase, view-count}
use Rattle.words.proofs.Formed.{Wf, Sizes, test_sizes, test_wf, wf-test, few}
use Rattle.store.specs.Stores.{Room, Carries, asked, left}
use Rattle.store.proofs.Steps.{told_wf, told_view, entered-wf, entered-view, marked-wf, marked-view, carried-wf, carried-view}
use Rattle.table.specs.Post.{stored}

-- ---- of well-formed words

module _ (t : List ℕ) (w : well_formed t ≡ true) where
  pub carry-inside : (p q : ℕ) → outside (view t) (Carry p q) ≡ false → (p < (view t).benches) × (q < (view t).benches)
  carry-inside p q o =
      let n = (view t).benches in
      (leb-false n p (or_false_left (leb n p) (leb n q) o), leb-false n q (or_false_right (leb n p) (leb n q) o))

  pub actor-in : (s : Step) → outside (view t) s ≡ false → actor s < (view t).benches
  actor-in (Ask p) o = leb-false _ p o
  actor-in (Carry p q) o = (carry-inside p q o).1
  actor-in (Enter p) o = leb-false _ p o
  actor-in (Leave p) o = leb-false _ p o
  actor-in (Mark p) o = leb-false _ p o

  pub actor-small : (s : Step) → outside (view t) s ≡ false → actor s < 8
  actor-small s o = omega (arith, few t w, actor-in s o)

  pub carry-small : (p q : ℕ) → outside (view t) (Carry p q) ≡ false → (p < 8) × (q < 8)
  carry-small p q o = let i = carry-inside p q o in (omega (arith, few t w), omega (arith, few t w))

  -- no channel from p is full
  free-slots : (p : ℕ) → p < 8 → any_full (view t) p ≡ false → (q : ℕ) → q < benches t → q ≢ p → count t (chan p q) < capacity t
  unfolding any_full view
  free-slots p h f q l other =
      let q8 : q < 8 = omega (arith, (test_sizes t w).most) in
      omega (arith, view-count t p q h q8, leb-false (capacity t) (length ((view t).messages p q)) (no-other_at p (full (view t) p) (benches t) q f l other))

  pub room : (p : ℕ) → p < 8 → any_full (view t) p ≡ false → Room t p
  room p h f =
      record {
        bench = h;
        few = (test_sizes t w).most;
        room = λ q l other. omega (arith, free-slots p h f q l other, (test_sizes t w).slots);
      }

-- ---- of an answer of 0

pub there : (x : ℕ) → eqb x 0 ≡ false → 0 < x
there x e = omega (arith, eqb-false x 0 e)

module _ (t : List ℕ) (w : well_formed t ≡ true) where
  ticks_on : (p : ℕ) → p < 8 → (view t).clock p + 1 ≤ limit → clock t p < limit
  ticks_on p h f = omega (arith, view-clock t p h)

  -- a request finds room for its acknowledgement
  back-room : (p q : ℕ) → p < 8 → q < 8 → no_room (view t) (Carry p q) ≡ false → is_request (first ((view t).messages p q)).kind ≡ true → count t (chan q p) < capacity t
  unfolding view
  back-room p q hp hq f e =
      omega (arith, view-count t q p hq hp, leb-false (capacity t) (length ((view t).messages q p)) (and_out (is_request (first ((view t).messages p q)).kind) (full (view t) q p) e f))

  pub may_carry : (p q : ℕ) → Granted (view t) (Carry p q) → Carries t p q
  may_carry p q g =
      let r = carry-small t w p q g.inside in
      record {
        from = r.0;
        to = r.1;
        apart = eqb-false p q g.apart;
        some = there (length ((view t).messages p q)) g.something;
        fits = g.fits;
        room = λ e. omega (arith, back-room p q r.0 r.1 g.room e, (test_sizes t w).slots, view-count t q p r.1 r.0);
      }

  pub may_ask : (p : ℕ) → Granted (view t) (Ask p) → Room t p × (clock t p < limit)
  may_ask p g = let h = actor-small t w (Ask p) g.inside in (room t w p h g.room, ticks_on p h g.fits)

  pub may_leave : (p : ℕ) → Granted (view t) (Leave p) → Room t p × (clock t p < limit)
  may_leave p g = let h = actor-small t w (Leave p) g.inside in (room t w p h g.room, ticks_on p h g.fits)

  pub may_go_in : (p : ℕ) → Granted (view t) (Enter p) → (p < 8) × (clock t p < limit)
  may_go_in p g = let h = actor-small t w (Enter p) g.inside in (h, ticks_on p h g.fits)

  pub may_mark : (p : ℕ) → Granted (view t) (Mark p) → (p < 8) × (clock t p < limit)
  may_mark p g = let h = actor-small t w (Mark p) g.inside in (h, ticks_on p h g.fits)

  -- ---- the stores are the rules' change, and keep the words well formed

  n8 : benches t ≤ 8
  n8 = (test_sizes t w).most

  c16 : capacity t ≤ 16
  c16 = (test_sizes t w).slots

  wf : Wf (benches t) (capacity t) t
  wf = test_wf t w

  in_table : (s : Step) → outside (view t) s ≡ false → actor s < benches t
  in_table s o = rw (view-benches t) at (actor-in t w s o)

  both-in_table : (p q : ℕ) → outside (view t) (Carry p q) ≡ false → (p < benches t) × (q < benches t)
  both-in_table p q o = rw (view-benches t) at (carry-inside t w p q o)

  request_kind : (k : Kind) → k ≡ Request → is_request k ≡ true
  request_kind k e = ap is_request e

  pub stored-view : (s : Step) → Granted (view t) s → view (stored t s) ≡ done (view t) s
  unfolding done asked left word
  stored-view (Ask p) g =
      let h = actor-small t w (Ask p) g.inside in
      rw (← view-clock t p h)
      (told_view t n8 c16 wf p (in_table (Ask p) g.inside) 1 ((view t).clock p + 1) (omega arith) (λ z. omega arith) (λ z. omega arith) (record { kind = Request; stamp = (view t).clock p + 1 }) (omega arith) (free-slots t w p h g.room))
  stored-view (Enter p) g = entered-view t n8 c16 wf p (in_table (Enter p) g.inside)
  stored-view (Leave p) g =
      let h = actor-small t w (Leave p) g.inside in
      rw (← view-clock t p h)
      (told_view t n8 c16 wf p (in_table (Leave p) g.inside) 0 0 (omega arith) (λ z. refl) (λ z. absurd (z refl)) (record { kind = Release; stamp = (view t).clock p + 1 }) (omega arith) (free-slots t w p h g.room))
  stored-view (Mark p) g = marked-view t n8 c16 wf p (in_table (Mark p) g.inside)
  stored-view (Carry p q) g =
      let r = carry-small t w p q g.inside in
      carried-view t n8 c16 wf p q (both-in_table p q g.inside).0 (both-in_table p q g.inside).1 (eqb-false p q g.apart)
      (omega (arith, view-count t p q r.0 r.1, there (length ((view t).messages p q)) g.something))
      (first ((view t).messages p q)) (λ e. back-room p q r.0 r.1 g.room (request_kind _ e))

  stored-formed : (s : Step) → Granted (view t) s → Wf (benches t) (capacity t) (stored t s)
  unfolding asked left word
  stored-formed (Ask p) g =
      let h = actor-small t w (Ask p) g.inside in
      told_wf t n8 c16 wf p (in_table (Ask p) g.inside) 1 (clock t p + 1) (omega arith) (λ z. omega arith) (λ z. omega arith) (record { kind = Request; stamp = clock t p + 1 }) (omega arith) (free-slots t w p h g.room)
  stored-formed (Enter p) g =
      let h = actor-small t w (Enter p) g.inside in
      entered-wf t n8 c16 wf p (in_table (Enter p) g.inside) (sym (view-phase t p h) ∙ eqb-true ((view t).phase p) 1 g.fit)
  stored-formed (Leave p) g =
      let h = actor-small t w (Leave p) g.inside in
      told_wf t n8 c16 wf p (in_table (Leave p) g.inside) 0 0 (omega arith) (λ z. refl) (λ z. absurd (z refl)) (record { kind = Release; stamp = clock t p + 1 }) (omega arith) (free-slots t w p h g.room)
  stored-formed (Mark p) g = marked-wf t n8 c16 wf p (in_table (Mark p) g.inside)
  stored-formed (Carry p q) g =
      let r = carry-small t w p q g.inside in
      carried-wf t n8 c16 wf p q (both-in_table p q g.inside).0 (both-in_table p q g.inside).1 (eqb-false p q g.apart)
      (omega (arith, view-count t p q r.0 r.1, there (length ((view t).messages p q)) g.something))
      (first ((view t).messages p q)) (λ e. back-room p q r.0 r.1 g.room (request_kind _ e))

  pub stored-wf : (s : Step) → Granted (view t) s → well_formed (stored t s) ≡ true
  stored-wf s g = wf-test (stored t s) sizes (rw (sn, sk) (stored-formed s g))
    where
      sn : benches (stored t s) ≡ benches t
      sn = unfold view in (ap (λ (x : Table). x.benches) (stored-view s g) ∙ (done-sizes (view t) s).0)

      sk : capacity (stored t s) ≡ capacity t
      sk = unfold view in (ap (λ (x : Table). x.capacity) (stored-view s g) ∙ (done-sizes (view t) s).1)

      sizes : Sizes (stored t s)
      sizes =
          let z = test_sizes t w in
          record { some = omega (arith, sn, z.some); most = omega (arith, sn, z.most); room = omega (arith, sk, z.room); slots = omega (arith, sk, z.slots) }
