-- What a step that is done stores is the rules' change of the larger table, and keeps it well formed.
use Prim.Native.Nat.{ℕ, suc, ◌/◌, ◌%◌, ◌<◌, ◌≤◌}
use native.Mathlib.Omega.{arith}
use mathlib.Core.Path.{◌≡◌, refl, sym, ap, ◌∙◌}
use mathlib.Core.Logic.{◌≢◌, ◌⊎◌, inl, inr}
use mathlib.Core.Bool.{Bool, true, false, cond}
use mathlib.Core.List.{List, [], ◌∷◌}
use lib.Dec.{eqb}
use lib.ListN.{length}
use borrow.Author.Tests.{eq-eqb, eqb-true, eqb-false, ltb-false}
use Rattle.lamport.specs.declared.Kind.{Kind}
use Rattle.lamport.specs.declared.Kind.TheVariants.{Request, Release}
use Rattle.lamport.specs.declared.Message.{Message}
use Rattle.lamport.specs.declared.Step.{Step}
use Rattle.lamport.specs.declared.Step.TheVariants.{Ask, Carry, Enter, Leave, Mark}
use Rattle.lamport.specs.Order.{limit, lc1, clock_after}
use Rattle.lamport.specs.Table.{Table}
use Rattle.lamport.specs.Steps.{actor, first, sends, acts, takes, done}
use Rattle.lamport.specs.Refusals.{is_request, answer}
use Rattle.lamport.specs.Vectors.{vc1, counts_in}
use Rattle.lamport.specs.Counted.{Counted, counts_then, brought_then, counted_done, count_spent, counted_answer}
use Rattle.lamport.proofs.Granted.{Granted, done-sizes}
use Rattle.lamport.proofs.Readings.{Other}
use Rattle.words.specs.Places.{chan, benches, capacity, count}
use Rattle.words.specs.View.{view}
use Rattle.words.specs.WellFormed.{well_formed}
use Rattle.words.proofs.Shut.{word}
use Rattle.words.proofs.Reading.{view-benches, view-count}
use Rattle.words.proofs.Formed.{test_sizes, test_wf}
use Rattle.store.specs.Stores.{Room, Carries}
use Rattle.table.specs.Post.{stored}
use Rattle.table.proofs.Granting.{actor-in, carry-inside, may_ask, may_leave, may_carry, stored-view}
use Rattle.vectors.specs.Rows.{row, counts, brought, counted}
use Rattle.vectors.specs.Formed.{counts_ok}
use Rattle.vectors.specs.Stores.{ticked, sent_counts, carried_counts, stored_counts}
use Rattle.vectors.proofs.Row.{counts_at}
use Rattle.vectors.proofs.Zero.{Good, good-out, good-in}
use Rattle.vectors.proofs.Stored.{alone-counts, alone-brought, alone-good, sent-counted, sent-brought, sent-good}
use Rattle.vectors.proofs.Carried.{rows-after, carried-counted, carried-brought, carried-good}
use Rattle.counted.proofs.Lengths.{sent-none, sent-one, sent-else, one-fewer, answered-one, carried-else}

-- an answer of 0: no refusal applies, and no count would pass the limit
pub both-fit : (s : Counted) (k : Step) → counted_answer s k ≡ 0 → (answer s.table k ≡ 0) × (counts_then s k (actor k) ≤ limit)
unfolding counted_answer
both-fit s k e = go (eqb (answer s.table k) 0) refl (count_spent s k) refl e
  where
    go : (a : Bool) → eqb (answer s.table k) 0 ≡ a → (b : Bool) → count_spent s k ≡ b → cond a (cond b 8 0) (answer s.table k) ≡ 0 → (answer s.table k ≡ 0) × (counts_then s k (actor k) ≤ limit)
    go true x true y z = absurd (omega arith)
    go true x false y z = (eqb-true (answer s.table k) 0 x, ltb-false limit (counts_then s k (actor k)) y)
    go false x b y z = absurd (eqb-false (answer s.table k) 0 x z)

-- an event that is no receipt fits where its count does
pub event-fits : (r : List (List ℕ)) (p : ℕ) → p < 8 → vc1 p (counts r p) p ≤ limit → counts_in (row r p) p < limit
event-fits r p h l = omega (arith, counts_at r p p h, rw (eq-eqb p p refl) at l)

-- two larger tables with the same parts are one
pub same-parts : {a b : Table} {u v : ℕ → ℕ → ℕ} {x y : ℕ → ℕ → List (ℕ → ℕ)} → a ≡ b → u ≡ v → x ≡ y
    → ◌≡◌ {A = Counted} (record { table = a; counts = u; brought = x }) (record { table = b; counts = v; brought = y })
same-parts e f g = rw (e, f, g)

-- a channel has no more messages than there is room for
pub channel-few : (t : List ℕ) → well_formed t ≡ true → (c : ℕ) → c < 64 → count t c ≤ 16
channel-few t w c l =
    let is : chan (c / 8) (c % 8) ≡ c = omega arith in
    let f : count t (chan (c / 8) (c % 8)) ≤ capacity t = unfold word in ((test_wf t w).slots (c / 8) (c % 8) (omega arith) (omega arith)).few in
    omega (arith, rw is at f, (test_sizes t w).slots)

module _ (t : List ℕ) (r : List (List ℕ)) (w : well_formed t ≡ true) (ok : counts_ok t r ≡ true) where
  g : Good t r
  g = good-out t r ok

  n8 : benches t ≤ 8
  n8 = (test_sizes t w).most

  few : (c : ℕ) → c < 64 → count t c ≤ 16
  few = channel-few t w

  module _ (s : Step) (o : Granted (view t) s) where
    then-benches : benches (stored t s) ≡ benches t
    then-benches = unfold view in (ap (λ (x : Table). x.benches) (stored-view t w s o) ∙ (done-sizes (view t) s).0)

    then-count : (a b : ℕ) → a < 8 → b < 8 → count (stored t s) (chan a b) ≡ length ((done (view t) s).messages a b)
    then-count a b ha hb = sym (view-count (stored t s) a b ha hb) ∙ ap (λ (x : Table). length (x.messages a b)) (stored-view t w s o)

    present : actor s < benches t
    present = rw (view-benches t) at (actor-in t w s o.inside)

    -- a step that sends nothing, of bench p
    module _ (p : ℕ) (hp : p < benches t) (quiet : (a b : ℕ) → length ((done (view t) s).messages a b) ≡ length ((view t).messages a b)) where
      same-count : (c : ℕ) → c < 64 → count (stored t s) c ≡ count t c
      same-count c l =
          let is : chan (c / 8) (c % 8) ≡ c = omega arith in
          rw is at (then-count (c / 8) (c % 8) (omega arith) (omega arith) ∙ quiet (c / 8) (c % 8) ∙ view-count t (c / 8) (c % 8) (omega arith) (omega arith))

      quiet-counts : counts (ticked r p) ≡ (λ a. cond (eqb a p) (vc1 p (counts r p)) (counts r a))
      quiet-counts = alone-counts t (stored t s) r g n8 then-benches few p hp same-count

      quiet-brought : brought (stored t s) (ticked r p) ≡ brought t r
      quiet-brought = alone-brought t (stored t s) r g n8 then-benches few p hp same-count

      quiet-good : Good (stored t s) (ticked r p)
      quiet-good = alone-good t (stored t s) r g n8 then-benches few p hp same-count

    -- a step that sends the message m to every other bench
    module _ (p : ℕ) (hp : p < benches t) (m : Message) (room : Room t p)
        (told : (a b : ℕ) → (done (view t) s).messages a b ≡ sends (benches t) (view t).messages p (m ∷ []) a b) where
      p8 : p < 8
      p8 = room.bench

      more : (q : ℕ) → q < benches t → q ≢ p → count (stored t s) (chan p q) ≡ suc (count t (chan p q))
      more q l ne =
          let q8 : q < 8 = omega (arith, l, n8) in
          then-count p q p8 q8 ∙ ap length (told p q) ∙ sent-one (benches t) (view t).messages p m q l ne ∙ ap suc (view-count t p q p8 q8)

      same : (a b : ℕ) → a < 8 → b < 8 → ((a ≡ p) × ((b ≢ p) × (b < benches t)) → ⊥) → count (stored t s) (chan a b) ≡ count t (chan a b)
      same a b ha hb no-message =
          then-count a b ha hb ∙ ap length (told a b) ∙ sent-else (benches t) (view t).messages p m a b no-message ∙ view-count t a b ha hb

      told-counts : counts (sent_counts t r p) ≡ (λ a. cond (eqb a p) (vc1 p (counts r p)) (counts r a))
      told-counts = sent-counted t (stored t s) r g n8 then-benches few p hp room.room more same

      told-brought : brought (stored t s) (sent_counts t r p) ≡ sends (benches t) (brought t r) p (vc1 p (counts r p) ∷ [])
      told-brought = sent-brought t (stored t s) r g n8 then-benches few p hp room.room more same

      told-good : Good (stored t s) (sent_counts t r p)
      told-good = sent-good t (stored t s) r g n8 then-benches few p hp room.room more same

  -- ---- a carry

  module _ (p q : ℕ) (o : Granted (view t) (Carry p q)) where
    K : Kind
    K = (first ((view t).messages p q)).kind

    takes-it : Carries t p q
    takes-it = may_carry t w p q o

    inside : (p < benches t) × (q < benches t)
    inside = rw (view-benches t) at (carry-inside t w p q o.inside)

    some : 0 < count t (chan p q)
    some = rw (view-count t p q takes-it.from takes-it.to) at takes-it.some

    room : K ≡ Request → count t (chan q p) < 16
    unfolding K
    room e = rw (view-count t q p takes-it.to takes-it.from) at (takes-it.room (ap is_request e))

    less : suc (count (stored t (Carry p q)) (chan p q)) ≡ count t (chan p q)
    unfolding done takes
    less =
        ap suc (then-count (Carry p q) o p q takes-it.from takes-it.to) ∙ one-fewer (view t).messages p q takes-it.apart _ _ takes-it.some
        ∙ view-count t p q takes-it.from takes-it.to

    back : (K ≡ Request) × (count (stored t (Carry p q)) (chan q p) ≡ suc (count t (chan q p))) ⊎ (K ≢ Request) × (count (stored t (Carry p q)) (chan q p) ≡ count t (chan q p))
    unfolding done takes K
    back = go (answered-one (view t).messages p q takes-it.apart (clock_after ((view t).clock q) (first ((view t).messages p q))) (first ((view t).messages p q)).kind)
      where
        now : ℕ
        now = length ((done (view t) (Carry p q)).messages q p)

        go : ((first ((view t).messages p q)).kind ≡ Request) × (now ≡ suc (length ((view t).messages q p))) ⊎ ((first ((view t).messages p q)).kind ≢ Request) × (now ≡ length ((view t).messages q p))
            → ((first ((view t).messages p q)).kind ≡ Request) × (count (stored t (Carry p q)) (chan q p) ≡ suc (count t (chan q p))) ⊎ ((first ((view t).messages p q)).kind ≢ Request) × (count (stored t (Carry p q)) (chan q p) ≡ count t (chan q p))
        go (inl e) = inl (e.0, then-count (Carry p q) o q p takes-it.to takes-it.from ∙ e.1 ∙ ap suc (view-count t q p takes-it.to takes-it.from))
        go (inr e) = inr (e.0, then-count (Carry p q) o q p takes-it.to takes-it.from ∙ e.1 ∙ view-count t q p takes-it.to takes-it.from)

    same-else : (a b : ℕ) → a < 8 → b < 8 → Other a b p q → Other a b q p → count (stored t (Carry p q)) (chan a b) ≡ count t (chan a b)
    unfolding done takes
    same-else a b ha hb x y =
        then-count (Carry p q) o a b ha hb
        ∙ carried-else (view t).messages p q takes-it.apart (clock_after ((view t).clock q) (first ((view t).messages p q))) (first ((view t).messages p q)).kind a b x y
        ∙ view-count t a b ha hb

    then-counts : counts (carried_counts t r p q) ≡ (λ a. cond (eqb a q) (counts_then (counted t r) (Carry p q)) (counts r a))
    unfolding carried_counts K
    then-counts =
        carried-counted t (stored t (Carry p q)) r g n8 (then-benches (Carry p q) o) few p q inside.0 inside.1 takes-it.apart some (first ((view t).messages p q)).kind _
        (rows-after t (stored t (Carry p q)) r g n8 (then-benches (Carry p q) o) few p q inside.0 inside.1 takes-it.apart some (first ((view t).messages p q)).kind room) room less back same-else

    then-brought : brought (stored t (Carry p q)) (carried_counts t r p q) ≡ brought_then (counted t r) (Carry p q)
    unfolding carried_counts K
    then-brought =
        carried-brought t (stored t (Carry p q)) r g n8 (then-benches (Carry p q) o) few p q inside.0 inside.1 takes-it.apart some (first ((view t).messages p q)).kind _
        (rows-after t (stored t (Carry p q)) r g n8 (then-benches (Carry p q) o) few p q inside.0 inside.1 takes-it.apart some (first ((view t).messages p q)).kind room) room less back same-else

    then-good : Good (stored t (Carry p q)) (carried_counts t r p q)
    unfolding carried_counts K
    then-good =
        carried-good t (stored t (Carry p q)) r g n8 (then-benches (Carry p q) o) few p q inside.0 inside.1 takes-it.apart some (first ((view t).messages p q)).kind _
        (rows-after t (stored t (Carry p q)) r g n8 (then-benches (Carry p q) o) few p q inside.0 inside.1 takes-it.apart some (first ((view t).messages p q)).kind room) room less back same-else

  -- ---- each of the five

  -- an event that sends nothing leaves every channel
  quiet-entry : (p : ℕ) (a b : ℕ) → length ((done (view t) (Enter p)).messages a b) ≡ length ((view t).messages a b)
  unfolding done acts
  quiet-entry p a b = sent-none (view t).benches (view t).messages p a b

  quiet-mark : (p : ℕ) (a b : ℕ) → length ((done (view t) (Mark p)).messages a b) ≡ length ((view t).messages a b)
  unfolding done acts
  quiet-mark p a b = sent-none (view t).benches (view t).messages p a b

  told-asking : (p a b : ℕ) → (done (view t) (Ask p)).messages a b ≡ sends (benches t) (view t).messages p (record { kind = Request; stamp = lc1 ((view t).clock p) } ∷ []) a b
  unfolding done acts view
  told-asking p a b = refl

  told-leaving : (p a b : ℕ) → (done (view t) (Leave p)).messages a b ≡ sends (benches t) (view t).messages p (record { kind = Release; stamp = lc1 ((view t).clock p) } ∷ []) a b
  unfolding done acts view
  told-leaving p a b = refl

  pub stored-counted : (s : Step) → Granted (view t) s → counted (stored t s) (stored_counts t r s) ≡ counted_done (counted t r) s
  unfolding counted_done stored_counts
  stored-counted (Ask p) o =
      same-parts (stored-view t w (Ask p) o) (told-counts (Ask p) o p (present (Ask p) o) _ (may_ask t w p o).0 (told-asking p))
      (told-brought (Ask p) o p (present (Ask p) o) _ (may_ask t w p o).0 (told-asking p) ∙ rw (view-benches t) refl)
  stored-counted (Carry p q) o = same-parts (stored-view t w (Carry p q) o) (then-counts p q o) (then-brought p q o)
  stored-counted (Enter p) o =
      same-parts (stored-view t w (Enter p) o) (quiet-counts (Enter p) o p (present (Enter p) o) (quiet-entry p)) (quiet-brought (Enter p) o p (present (Enter p) o) (quiet-entry p))
  stored-counted (Leave p) o =
      same-parts (stored-view t w (Leave p) o) (told-counts (Leave p) o p (present (Leave p) o) _ (may_leave t w p o).0 (told-leaving p))
      (told-brought (Leave p) o p (present (Leave p) o) _ (may_leave t w p o).0 (told-leaving p) ∙ rw (view-benches t) refl)
  stored-counted (Mark p) o =
      same-parts (stored-view t w (Mark p) o) (quiet-counts (Mark p) o p (present (Mark p) o) (quiet-mark p)) (quiet-brought (Mark p) o p (present (Mark p) o) (quiet-mark p))

  pub stored-ok : (s : Step) → Granted (view t) s → counts_ok (stored t s) (stored_counts t r s) ≡ true
  unfolding stored_counts
  stored-ok (Ask p) o = good-in _ _ (told-good (Ask p) o p (present (Ask p) o) _ (may_ask t w p o).0 (told-asking p))
  stored-ok (Carry p q) o = good-in _ _ (then-good p q o)
  stored-ok (Enter p) o = good-in _ _ (quiet-good (Enter p) o p (present (Enter p) o) (quiet-entry p))
  stored-ok (Leave p) o = good-in _ _ (told-good (Leave p) o p (present (Leave p) o) _ (may_leave t w p o).0 (told-leaving p))
  stored-ok (Mark p) o = good-in _ _ (quiet-good (Mark p) o p (present (Mark p) o) (quiet-mark p))
