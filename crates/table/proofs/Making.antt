-- The two ways out of a fresh table, as the promise's record.
use Prim.Native.Nat.{ℕ, ◌<◌, ◌≤◌}
use mathlib.Core.Path.{◌≡◌, sym, ap, ◌∙◌}
use mathlib.Core.Bool.{Bool, true, false, cond}
use mathlib.Core.List.{List}
use lib.Dec.{leb}
use lib.ListN.{set, replicate, length-replicate, get_or-replicate}
use borrow.Author.Tests.{leb-true}
use Rattle.lamport.specs.Each.{up_to}
use Rattle.lamport.specs.Table.{within, sizes_ok}
use Rattle.lamport.proofs.Each.{and_left, and_right}
use Rattle.words.specs.Places.{size}
use Rattle.words.specs.View.{view}
use Rattle.words.specs.WellFormed.{well_formed}
use Rattle.words.proofs.Shut.{word, put, size_of}
use Rattle.store.specs.Stores.{started}
use Rattle.store.proofs.Started.{started-wf, started-view}
use Rattle.table.specs.Post.{Made}

-- ---- a fresh table

module _ (n k : ℕ) (e : sizes_ok n k ≡ true) where
  pub some : 1 ≤ n
  some = leb-true 1 n (and_left (leb 1 n) _ (and_left (within 1 n 8) _ e))

  pub few : n ≤ 8
  few = leb-true n 8 (and_right (leb 1 n) _ (and_left (within 1 n 8) _ e))

  pub room : 1 ≤ k
  room = leb-true 1 k (and_left (leb 1 k) _ (and_right (within 1 n 8) _ e))

  pub slots : k ≤ 16
  slots = leb-true k 16 (and_right (leb 1 k) _ (and_right (within 1 n 8) _ e))

module _ (n k c : ℕ) (z : List ℕ) (zs : z ≡ replicate size 0) where
  sz : size_of z ≡ size
  unfolding size_of
  sz = rw zs (length-replicate {A = ℕ} size 0)

  nought : (j : ℕ) → j < size → word z j ≡ 0
  unfolding word
  nought j h = rw zs (get_or-replicate {A = ℕ} size j 0 0 h)

  pub made : (e : sizes_ok n k ≡ true) (u : List ℕ) → u ≡ up_to (started c) n (set (set z 0 n) 1 k) → Made n k c 0 u
  unfolding put
  made e u q =
      record {
        answered = ap (λ (x : Bool). cond {A = ℕ} x 0 9) (sym e);
        zero = λ f. let bad : true ≡ false = sym e ∙ f in cc;
        done = λ _. ap view q ∙ started-view z sz nought n k c (some n k e) (few n k e) (room n k e) (slots n k e);
        formed = λ _. ap well_formed q ∙ started-wf z sz nought n k c (some n k e) (few n k e) (room n k e) (slots n k e);
      }
