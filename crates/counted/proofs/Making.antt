-- A fresh table: its words as they are made, and rows that are all zero.
use Prim.Native.Nat.{ℕ, ◌<◌}
use native.Mathlib.Omega.{arith}
use native.Mathlib.Decide.{dec_lt}
use mathlib.Core.Path.{◌≡◌, refl, sym, ap, ◌∙◌, fun_ext}
use mathlib.Core.Bool.{true}
use mathlib.Core.List.{List, []}
use lib.ListN.{length, replicate, length-replicate, get_or-replicate}
use Rattle.lamport.specs.Table.{Table}
use Rattle.words.specs.View.{listed, view}
use Rattle.words.proofs.Reading.{view-count}
use Rattle.vectors.specs.Rows.{row, slot_row, zeros, counts, brought}
use Rattle.vectors.specs.Formed.{counts_ok}
use Rattle.vectors.proofs.Row.{counts_at, counts-out}
use Rattle.vectors.proofs.Zero.{zero-in, zero-zeros, all-zero, good-in}
use Rattle.vectors.proofs.Channels.{brought-is}
use Rattle.table.specs.Post as words
use Rattle.counted.specs.declared.Lent.{Lent}
use Rattle.counted.specs.Post.{Made}
use Rattle.counted.proofs.Counting.{same-parts}
use Rattle.counted.proofs.Stepping.{both-formed}
use Rattle.counted.proofs.Determined.{parts}

module _ (t : List ℕ) (r : List (List ℕ)) (z : r ≡ replicate 1032 zeros) where
  zero-row : (i : ℕ) → i < 1032 → row r i ≡ zeros
  zero-row i h = rw z (get_or-replicate {A = List ℕ} 1032 i zeros [] h)

  pub no-counts : counts r ≡ (λ p q. 0)
  no-counts = fun_ext (λ p. fun_ext (λ q. go p q (dec_lt p 8)))
    where
      go : (p q : ℕ) → Dec (p < 8) → counts r p q ≡ 0
      go p q (yes l) = counts_at r p q l ∙ rw (zero-row p (omega arith)) (all-zero 0 zeros (zero-zeros 0) q (omega arith))
      go p q (no nl) = counts-out r p q (omega arith)

  pub no-rows : counts_ok t r ≡ true
  no-rows =
      good-in t r
      (record {
        long = rw z (length-replicate {A = List ℕ} 1032 zeros);
        own = λ p h. rw (zero-row p (omega arith)) (zero-in _ zeros (zero-zeros _));
        slots = λ c i h l. rw (zero-row (slot_row c i) (omega arith)) (zero-in _ zeros (zero-zeros _));
      })

  pub nothing-brought : ((a b : ℕ) → (view t).messages a b ≡ []) → brought t r ≡ (λ p q. [])
  unfolding listed
  nothing-brought e = brought-is t r (λ p q. []) (λ a b ha hb. rw (sym (view-count t a b ha hb) ∙ ap length (e a b)) refl) (λ a b l. refl) (λ a b l. refl)

pub made : (n k c r : ℕ) (u : Lent) → words.Made n k c r u.words → u.counts ≡ replicate 1032 zeros → Made n k c r u
made n k c r u m z =
    record {
      answered = m.answered;
      zero = λ e. parts (m.zero e) z;
      done = λ e. same-parts (m.done e) (no-counts u.words u.counts z) (nothing-brought u.words u.counts z (λ a b. ap (λ (s : Table). s.messages a b) (m.done e)));
      formed = λ e. both-formed u (m.formed e) (no-rows u.words u.counts z);
    }
