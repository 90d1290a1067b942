-- Laws of a carry.
use Prim.Native.Nat.{ℕ, zero, suc, ◌<◌, ◌≤◌}
use native.Mathlib.Omega.{arith}
use mathlib.Core.Path.{◌≡◌, refl, sym, ap, ◌∙◌}
use mathlib.Core.List.{List}
use lib.ListN.{get_or}
use lib.Seq.{get_or-set_other}
use Rattle.lamport.specs.declared.Kind.{Kind}
use Rattle.lamport.specs.declared.Kind.TheVariants.{Request}
use Rattle.lamport.specs.declared.Message.{Message}
use Rattle.lamport.specs.Each.{up_to}
use Rattle.lamport.specs.Order.{limit, clock_after}
use Rattle.lamport.specs.Steps.{first}
use Rattle.lamport.specs.Refusals.{is_request}
use Rattle.words.specs.Places.{first_kind, clock_at, heard_at, entry_at, kind_at, stamp_at, count_at, chan, clock, count}
use Rattle.words.specs.View.{view}
use Rattle.words.proofs.Reading.{view-clock, view-count}
use Rattle.store.specs.Stores.{moved, popped, received, replied, carried, Carries}

-- taking a message off a channel leaves every word below the slots but that channel's count
up-moved : (c j i : ℕ) (t : List ℕ) → j < first_kind → get_or (up_to (moved c) i t) j 0 ≡ get_or t j 0
unfolding up_to
up-moved c j zero t l = refl
up-moved c j (suc i) t l =
    let a : j ≡ kind_at c i → ⊥ = omega arith in
    let b : j ≡ stamp_at c i → ⊥ = omega arith in
    rw (get_or-set_other, get_or-set_other) (up-moved c j i t l)

pub popped-other : (t : List ℕ) (c j : ℕ) → j < first_kind → (j ≡ count_at c → ⊥) → get_or (popped t c) j 0 ≡ get_or t j 0
unfolding popped
popped-other t c j l n =
    let a : j ≡ kind_at c 15 → ⊥ = omega arith in
    let b : j ≡ stamp_at c 15 → ⊥ = omega arith in
    rw (get_or-set_other, get_or-set_other, get_or-set_other) (up-moved c j 15 t l)

pub received-count : (t : List ℕ) (p q : ℕ) (m : Message) (c d : ℕ) → p < 8 → q < 8 → d < 64 → (d ≡ chan p q → ⊥) → count (received t p q m c) d ≡ count t d
unfolding received
received-count t p q m c d hp hq hd n =
    let a : count_at d ≡ clock_at q → ⊥ = omega arith in
    let b : count_at d ≡ heard_at q p → ⊥ = omega arith in
    let e : count_at d ≡ entry_at q p → ⊥ = omega arith in
    let k : count_at d ≡ count_at (chan p q) → ⊥ = λ e. n (omega arith) in
    rw (get_or-set_other, get_or-set_other, get_or-set_other) (popped-other t (chan p q) (count_at d) (omega arith) k)

-- ---- what a carry has of its table

module _ {t : List ℕ} {p q : ℕ} (r : Carries t p q) where
  pub takes-some : 0 < count t (chan p q)
  takes-some = rw (view-count t p q r.from r.to) at r.some

  pub takes-fits : (m : Message) → m ≡ first ((view t).messages p q) → clock_after (clock t q) m ≤ limit
  takes-fits m e = rw (e, ← view-clock t q r.to) r.fits

  pub takes-room : (m : Message) → m ≡ first ((view t).messages p q) → m.kind ≡ Request → count t (chan q p) < 16
  takes-room m e k =
      rw (view-count t q p r.to r.from) at (r.room (ap (λ (x : Message). is_request x.kind) (sym e) ∙ ap is_request k))

pub carried-as : (t u : List ℕ) (p q c : ℕ) (k : Kind) (m m' : Message) → m ≡ m' → m.kind ≡ k → c ≡ clock_after (clock t q) m → u ≡ received t p q m c
    → replied u p q c k ≡ carried t p q m'
unfolding carried
carried-as t u p q c k m m' e f g h = rw (h, g, ← f, e)
