-- What a view reads, at bench numbers.
use Prim.Native.Nat.{ℕ, ◌<◌}
use native.Mathlib.Omega.{arith}
use mathlib.Core.Path.{◌≡◌, refl, ap, ◌∙◌}
use mathlib.Core.List.{List}
use borrow.Author.Tests.{lt-ltb}
use lib.ListN.{length}
use Rattle.lamport.specs.Steps.{first}
use Rattle.words.specs.Places.{chan, benches, capacity, clock, phase, entry, heard, count}
use Rattle.words.specs.View.{slot, channel, view}
use Rattle.words.proofs.Listed.{listed-length, listed-first}

module _ (t : List ℕ) where
  pub view-benches : (view t).benches ≡ benches t
  unfolding view
  view-benches = refl

  pub view-capacity : (view t).capacity ≡ capacity t
  unfolding view
  view-capacity = refl

  pub channel-length : (c : ℕ) → length (channel t c) ≡ count t c
  unfolding channel
  channel-length c = listed-length (slot t c) (count t c)

module _ (t : List ℕ) (p : ℕ) (hp : p < 8) where
  pub view-clock : (view t).clock p ≡ clock t p
  unfolding view
  view-clock = rw (lt-ltb p 8 hp)

  pub view-phase : (view t).phase p ≡ phase t p
  unfolding view
  view-phase = rw (lt-ltb p 8 hp)

module _ (t : List ℕ) (p q : ℕ) (hp : p < 8) (hq : q < 8) where
  pub view-entry : (view t).entry p q ≡ entry t p q
  unfolding view
  view-entry = rw (lt-ltb p 8 hp, lt-ltb q 8 hq)

  pub view-heard : (view t).heard p q ≡ heard t p q
  unfolding view
  view-heard = rw (lt-ltb p 8 hp, lt-ltb q 8 hq)

  pub view-messages : (view t).messages p q ≡ channel t (chan p q)
  unfolding view
  view-messages = rw (lt-ltb p 8 hp, lt-ltb q 8 hq)

  pub view-count : length ((view t).messages p q) ≡ count t (chan p q)
  view-count = ap length view-messages ∙ channel-length t (chan p q)

  pub view_first : 0 < length ((view t).messages p q) → first ((view t).messages p q) ≡ slot t (chan p q) 0
  unfolding channel
  view_first h = ap first view-messages ∙ listed-first (slot t (chan p q)) (count t (chan p q)) (omega (arith, view-count))
