-- Counting: how many of the first events pass a test.
use mathlib.Core.Path.{◌≡◌}
use mathlib.Core.Bool.{Bool, true, false}
use Prim.Native.Nat.{ℕ, zero, suc, ◌≤◌, ◌<◌}
use native.Mathlib.Omega.{arith}
use native.Mathlib.Decide.{ℕ_discrete, dec_lt}
use Rattle.causal.specs.Events.{Event}
use Rattle.causal.specs.Happened.{counted}

module _ (test : Event → Bool) (event : ℕ → Event) where
  pub counted-yes : (i : ℕ) → test (event i) ≡ true → counted test event (suc i) ≡ suc (counted test event i)
  counted-yes i e = rw e (omega arith)

  pub counted-no : (i : ℕ) → test (event i) ≡ false → counted test event (suc i) ≡ counted test event i
  counted-no i e = rw e (omega arith)

  -- of more events no fewer pass
  counted-up : (i j : ℕ) → i ≤ j → counted test event i ≤ counted test event j
  counted-up i zero l = let z : i ≡ 0 = omega arith in rw z (omega arith)
  counted-up i (suc j) l = go (ℕ_discrete i (suc j)) (counted-up i j)
    where
      go : Dec (i ≡ suc j) → (i ≤ j → counted test event i ≤ counted test event j) → counted test event i ≤ counted test event (suc j)
      go (yes e) r = rw e (omega arith)
      go (no ne) r = let k : counted test event i ≤ counted test event j = r (omega arith) in omega arith

  -- an event that passes is counted before a later one
  pub counted-before : (i j : ℕ) → i < j → test (event i) ≡ true → counted test event i < counted test event j
  counted-before i j l e = omega (arith, counted-yes i e, counted-up (suc i) j l)

  -- two events that pass, with as many before the one as before the other, are the same
  pub counted-same : (i j : ℕ) → test (event i) ≡ true → test (event j) ≡ true → counted test event i ≡ counted test event j → i ≡ j
  counted-same i j e d c = go (dec_lt i j) (dec_lt j i)
    where
      go : Dec (i < j) → Dec (j < i) → i ≡ j
      go (yes l) k = absurd (omega (arith, counted-before i j l e))
      go (no nl) (yes k) = absurd (omega (arith, counted-before j i k d))
      go (no nl) (no nk) = omega arith
