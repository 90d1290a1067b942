-- Theorems: Demand3, of every list of steps from a fresh table, from what each step keeps.
use mathlib.Core.Path.{◌≡◌, refl, sym, ◌∙◌, subst}
use mathlib.Core.Logic.{◌≢◌, ◌⊎◌, inl, inr}
use mathlib.Core.Bool.{Bool, true, false, cond}
use mathlib.Core.List.{List, [], ◌∷◌, ◌++◌}
use Prim.Native.Nat.{ℕ, ◌+◌, ◌≤◌, ◌<◌}
use native.Mathlib.Omega.{arith}
use native.Mathlib.Decide.{ℕ_discrete}
use lib.Dec.{leb}
use borrow.Author.Tests.{lt-ltb, leb-true, eq-eqb}
use Rattle.lamport.specs.declared.Step.{Step}
use Rattle.lamport.specs.declared.Step.TheVariants.{Ask}
use Rattle.lamport.specs.Order.{limit}
use Rattle.lamport.specs.Table.{Table, within, fresh}
use Rattle.lamport.specs.Refusals.{answer, next, after}
use Rattle.lamport.proofs.Each.{and_left, and_right}
use Rattle.exclusion.specs.Demand.{Grant, Earlier, granted, grants, count, Each, Rising, request_sent, request_taken, counted, sent, taken, Reached, Waits, Carried, LastCopy, overtakings, Demand3, Demanded}
use Rattle.exclusion.proofs.Streams.{requests_in}
use Rattle.exclusion.proofs.Effects.{Two}
use Rattle.exclusion.proofs.Invariant.{Inv}
use Rattle.exclusion.proofs.Moves.{key→before, Moves, move_inv}
use Rattle.exclusion.proofs.Meets.{step-moves, enters-holds}
use Rattle.exclusion.proofs.Order.{key_of, Order, last_of, Climbs, move_order}
use Rattle.exclusion.proofs.Progress.{some_first, only_first, enter-answer}
use Rattle.exclusion.proofs.Overtaking.{Queued, all_queued, move_queued, move_before, Past, move_past, move_once}
use Rattle.exclusion.proofs.Copies.{move_copies, who_takes, takes-alone, takes_two, takes-waits, waits-silent}

-- ---- lists of grants

climbs_append : (g : Grant) (xs ys : List Grant) → Climbs g xs → Climbs (last_of g xs) ys → Climbs g (xs ++ ys)
climbs_append g [] ys c d = d
climbs_append g (x ∷ xs) ys c d = (c.0, climbs_append x xs ys c.1 d)

-- all that climb from h come after g, where g is h or before it
later-than : (g : Grant) → g.bench < 8 → (h : Grant) (gs : List Grant) → key_of g ≤ key_of h → Climbs h gs → Each (Earlier g) gs
later-than g b h [] le c = tt
later-than g b h (x ∷ gs) le c =
    (key→before g.stamp g.bench x.stamp x.bench b c.0.1 (omega (arith, c.0.0)), later-than g b x gs (omega (arith, c.0.0)) c.1)

climbs_rising : (g : Grant) (gs : List Grant) → Climbs g gs → Rising gs
climbs_rising g [] c = tt
climbs_rising g (h ∷ gs) c = (later-than h c.0.1 h gs (omega arith) c.1, climbs_rising h gs c.1)

count-append : (q : ℕ) (xs ys : List Grant) → count q (xs ++ ys) ≡ count q xs + count q ys
count-append q [] ys = omega arith
count-append q (x ∷ xs) ys = omega (arith, count-append q xs ys)

each_append : (P : Grant → Type 0) (xs ys : List Grant) → Each P xs → Each P ys → Each P (xs ++ ys)
each_append P [] ys e f = f
each_append P (x ∷ xs) ys e f = (e.0, each_append P xs ys e.1 f)

-- ---- one step more

after_more : (s : Table) (ks : List Step) (k : Step) → after s (ks ++ k ∷ []) ≡ next (after s ks) k
after_more s [] k = refl
after_more s (j ∷ ks) k = after_more (next s j) ks k

counted-more : (test : Table → Step → Bool) (s : Table) (ks : List Step) (k : Step) → counted test s (ks ++ k ∷ []) ≡ counted test s ks + cond (test (after s ks) k) 1 0
counted-more test s [] k = omega arith
counted-more test s (j ∷ ks) k = omega (arith, counted-more test (next s j) ks k)

-- ---- what the steps keep, step by step

module _ (n : ℕ) (n8 : n ≤ 8) where
  step : (s : Table) (k : Step) → Inv n s → Moves n s (next s k) k
  step s k iv = step-moves s n iv.size k

  next-inv : (s : Table) (k : Step) → Inv n s → Inv n (next s k)
  next-inv s k iv = move_inv n s (next s k) (step s k iv) iv

  after-inv : (s : Table) (ks : List Step) → Inv n s → Inv n (after s ks)
  after-inv s [] iv = iv
  after-inv s (k ∷ ks) iv = after-inv (next s k) ks (next-inv s k iv)

  after-order : (s : Table) (ks : List Step) → Inv n s → (g : Grant) → Order n s g → Climbs g (grants s ks) × ((h : Grant) × Order n (after s ks) h)
  after-order s [] iv g or = (tt, (g, or))
  after-order s (k ∷ ks) iv g or =
      let m = move_order n n8 s (next s k) (step s k iv) iv g or in
      let r = after-order (next s k) ks (next-inv s k iv) (last_of g (granted s k)) m.1 in
      (climbs_append g (granted s k) (grants (next s k) ks) m.0 r.0, r.1)

  -- requests sent, and those on the channel at first, are requests taken, and those on the channel at last
  after-copies : (s : Table) (ks : List Step) (p q : ℕ) → Two n p q → Inv n s
      → sent s ks p + requests_in (s.messages p q) ≡ taken s ks p q + requests_in ((after s ks).messages p q)
  after-copies s [] p q t iv = refl
  after-copies s (k ∷ ks) p q t iv =
      omega (arith, move_copies n s (next s k) p q t (step s k iv), after-copies (next s k) ks p q t (next-inv s k iv))

  -- ---- overtaking: p waits with the request t in every queue, and is not granted by the steps

  module _ (p t : ℕ) (hp : p < n) (nz : t ≢ 0) where
    record Still (s : Table) : Type 0 where
      inv : Inv n s
      queued : Queued n s p t

    head : (s : Table) (k : Step) (ks : List Step) → count p (grants s (k ∷ ks)) ≡ 0 → count p (granted s k) ≡ 0
    head s k ks z = omega (arith, z, count-append p (granted s k) (grants (next s k) ks))

    tail : (s : Table) (k : Step) (ks : List Step) → count p (grants s (k ∷ ks)) ≡ 0 → count p (grants (next s k) ks) ≡ 0
    tail s k ks z = omega (arith, z, count-append p (granted s k) (grants (next s k) ks))

    still : (s : Table) (k : Step) (ks : List Step) → Still s → count p (grants s (k ∷ ks)) ≡ 0 → Still (next s k)
    still s k ks st z =
        record {
          inv = next-inv s k st.inv;
          queued = move_queued n s (next s k) p t hp st.queued (step s k st.inv) st.inv (head s k ks z);
        }

    all_before : (s : Table) (ks : List Step) → Still s → count p (grants s ks) ≡ 0 → Each (λ g. Earlier g (record { stamp = t; bench = p })) (grants s ks)
    all_before s [] st z = tt
    all_before s (k ∷ ks) st z =
        each_append _ (granted s k) (grants (next s k) ks) (move_before n s (next s k) p t hp st.queued (step s k st.inv) nz (head s k ks z))
        (all_before (next s k) ks (still s k ks st z) (tail s k ks z))

    never : (q : ℕ) → q < n → q ≢ p → (s : Table) (ks : List Step) → Still s → count p (grants s ks) ≡ 0 → Past s q t → count q (grants s ks) ≡ 0
    never q hq np s [] st z ps = refl
    never q hq np s (k ∷ ks) st z ps =
        let m = move_past n n8 s (next s k) p t hp st.queued nz st.inv q hq np (step s k st.inv) ps in
        omega (arith, count-append q (granted s k) (grants (next s k) ks), m.0, never q hq np (next s k) ks (still s k ks st z) (tail s k ks z) m.1)

    once : (q : ℕ) → q < n → q ≢ p → (s : Table) (ks : List Step) → Still s → count p (grants s ks) ≡ 0 → count q (grants s ks) ≤ overtakings
    once q hq np s [] st z = omega arith
    once q hq np s (k ∷ ks) st z =
        go (move_once n n8 s (next s k) p t hp st.queued nz st.inv q hq np (step s k st.inv))
        (once q hq np (next s k) ks (still s k ks st z) (tail s k ks z))
      where
        go : (count q (granted s k) ≡ 0) ⊎ ((count q (granted s k) ≡ 1) × Past (next s k) q t) → count q (grants (next s k) ks) ≤ overtakings → count q (grants s (k ∷ ks)) ≤ overtakings
        go (inl e) r = omega (arith, e, r, count-append q (granted s k) (grants (next s k) ks))
        go (inr e) r = omega (arith, e.0, never q hq np (next s k) ks (still s k ks st z) (tail s k ks z) e.1, count-append q (granted s k) (grants (next s k) ks))

-- ---- a fresh table

module _ (n capacity start : ℕ) (n8 : n ≤ 8) (low : start ≤ limit) where
  abbrev s₀ : Table
  s₀ = fresh n capacity start

  fresh-inv : Inv n s₀
  fresh-inv =
      record {
        size = refl;
        benches = λ a h. record { limited = rw (lt-ltb a n h) low; past = omega arith; proper = omega arith; quiet = λ e. refl; busy = λ e z. e refl };
        links = λ a b t. record { rises = tt; sent = omega arith; known = omega arith; view = refl; seen = omega arith; acked = λ nz e. absurd (nz refl) };
      }

  -- before the first grant, (0, 0) does for the last
  none : Grant
  none = record { stamp = 0; bench = 0 }

  fresh-order : Order n s₀ none
  unfolding none
  fresh-order = record { bench = omega arith; past = λ a h. omega arith; waiters = λ a h e. absurd (omega arith); holder = λ a h e. absurd (omega arith) }

  reached : (ks : List Step) → Inv n (after s₀ ks)
  reached ks = after-inv n n8 s₀ ks fresh-inv

  ordered : (ks : List Step) → Climbs none (grants s₀ ks) × ((h : Grant) × Order n (after s₀ ks) h)
  ordered ks = after-order n n8 s₀ ks fresh-inv none fresh-order

  -- ---- carried to all others

  module _ (ks : List Step) (p T : ℕ) (hp : p < n) where
    -- no copy is on a channel any more
    arrived : Carried s₀ ks p T → (q : ℕ) → Two n p q → requests_in ((after s₀ ks).messages p q) ≡ 0
    arrived ca q t = omega (arith, after-copies n n8 s₀ ks p q t fresh-inv, ca.reached q t.right (λ e. t.apart (sym e)))

    overtaken : Carried s₀ ks p T → (ls : List Step) → count p (grants (after s₀ ks) ls) ≡ 0
        → ((q : ℕ) → q < n → q ≢ p → count q (grants (after s₀ ks) ls) ≤ overtakings)
        × Each (λ g. Earlier g (record { stamp = T; bench = p })) (grants (after s₀ ks) ls)
    overtaken ca ls z = (λ q hq ne. once n n8 p T hp nz q hq ne (after s₀ ks) ls st z, all_before n n8 p T hp nz (after s₀ ks) ls st z)
      where
        nz : T ≢ 0
        nz e = ((reached ks).benches p hp).busy (omega (arith, ca.waits.phase)) (ca.waits.stamp ∙ e)

        st : Still n n8 p T hp nz (after s₀ ks)
        st = record { inv = reached ks; queued = all_queued n (after s₀ ks) p T hp (reached ks) ca.waits (arrived ca) }

    module _ (k : Step) (w : Waits (after s₀ ks) p T) where
      moves : Moves n (after s₀ ks) (next (after s₀ ks) k) k
      moves = step n n8 (after s₀ ks) k (reached ks)

      sent-same : sent s₀ (ks ++ k ∷ []) p ≡ sent s₀ ks p
      sent-same = rw (counted-more (request_sent p) s₀ ks k, waits-silent n (after s₀ ks) (next (after s₀ ks) k) p moves w.phase) (omega arith)

      taken-same : (q : ℕ) → request_taken p q (after s₀ ks) k ≡ false → taken s₀ (ks ++ k ∷ []) p q ≡ taken s₀ ks p q
      taken-same q e = rw (counted-more (request_taken p q) s₀ ks k, e) (omega arith)

      taken_more : (q : ℕ) → request_taken p q (after s₀ ks) k ≡ true → taken s₀ (ks ++ k ∷ []) p q ≡ taken s₀ ks p q + 1
      taken_more q e = rw (counted-more (request_taken p q) s₀ ks k, e)

      only_then : ¬ Carried s₀ ks p T → Carried s₀ (ks ++ k ∷ []) p T → LastCopy s₀ ks k p
      only_then not ca = go (who_takes (after s₀ ks) p k)
        where
          go : ((q : ℕ) × (request_taken p q (after s₀ ks) k ≡ true)) ⊎ ((q : ℕ) → request_taken p q (after s₀ ks) k ≡ false) → LastCopy s₀ ks k p
          go (inl (q, e)) =
              let t = takes_two n (after s₀ ks) (next (after s₀ ks) k) p q moves e in
              let ne : q ≢ p = λ d. t.apart (sym d) in
              record {
                taker = q;
                inside = t.right;
                other = ne;
                takes = e;
                lacks = sym (taken_more q e) ∙ ca.reached q t.right ne ∙ sent-same;
                reached = λ r h np nq. sym (taken-same r (takes-alone (after s₀ ks) p q r k e nq)) ∙ ca.reached r h np ∙ sent-same;
              }
          go (inr f) = absurd (not (record { waits = w; reached = λ q h ne. sym (taken-same q (f q)) ∙ ca.reached q h ne ∙ sent-same }))

      then : LastCopy s₀ ks k p → ¬ Carried s₀ ks p T × Carried s₀ (ks ++ k ∷ []) p T
      then la = (
        λ ca. omega (arith, la.lacks, ca.reached la.taker la.inside la.other),
        record {
          waits = rw (after_more s₀ ks k) (takes-waits n (after s₀ ks) (next (after s₀ ks) k) p la.taker T hp moves la.takes w);
          reached = λ q h ne. go q h ne (ℕ_discrete q la.taker);
        },
      )
        where
          go : (q : ℕ) → q < n → q ≢ p → Dec (q ≡ la.taker) → Reached s₀ (ks ++ k ∷ []) p q
          go q h ne (yes e) = rw e (taken_more la.taker la.takes ∙ la.lacks ∙ sym sent-same)
          go q h ne (no nq) = taken-same q (takes-alone (after s₀ ks) p la.taker q k la.takes nq) ∙ la.reached q h ne nq ∙ sym sent-same

  -- a bench that asks has sent one copy more, and nobody has taken it
  asks-first : (ks : List Step) (p q : ℕ) → p < n → q < n → q ≢ p → answer (after s₀ ks) (Ask p) ≡ 0
      → taken s₀ (ks ++ Ask p ∷ []) p q < sent s₀ (ks ++ Ask p ∷ []) p
  asks-first ks p q hp hq ne z =
      rw (counted-more (request_sent p) s₀ ks (Ask p), counted-more (request_taken p q) s₀ ks (Ask p), eq-eqb p p refl, eq-eqb (answer (after s₀ ks) (Ask p)) 0 z)
      (omega (arith, after-copies n n8 s₀ ks p q (record { left = hp; right = hq; apart = λ e. ne (sym e) }) fresh-inv))

  -- ---- the demand

  small : (ks : List Step) → (after s₀ ks).benches ≤ 8
  small ks = omega (arith, (reached ks).size)

  sized : (ks : List Step) → Inv (after s₀ ks).benches (after s₀ ks)
  sized ks = subst (λ (m : ℕ). Inv m (after s₀ ks)) (sym (reached ks).size) (reached ks)

  demanded : Demand3 s₀
  demanded =
      record {
        exclusion = λ ks p q hp hq wp wq. ((ordered ks).1.1.holder p hp wp).0 ∙ sym ((ordered ks).1.1.holder q hq wq).0;
        order = λ ks. climbs_rising none (grants s₀ ks) (ordered ks).0;
        asking = asks-first;
        last_copy = λ ks k p T hp w. (λ c. only_then ks p T hp k w c.0 c.1, then ks p T hp k w);
        overtaking = λ ks p T hp. overtaken ks p T hp;
        somebody = λ ks qu. some_first (after s₀ ks) (small ks) qu.waiter qu.inside qu.waits;
        nobody_else = λ ks. only_first (after s₀ ks) (small ks);
        let_in = λ ks p qu e. enter-answer (after s₀ ks) (sized ks) qu p e;
        holds = λ ks p z. enters-holds (after s₀ ks) p z;
      }

-- Demand3, of every table that is fresh
pub demand3 : Demanded
demand3 n capacity start ok low = demanded n capacity start (leb-true n 8 (and_right (leb 1 n) (leb n 8) (and_left (within 1 n 8) _ ok))) low
