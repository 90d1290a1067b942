-- A text whose lines are read one after the other.
use mathlib.Core.Path.{◌≡◌, refl, sym, ap, ◌∙◌, fun_ext}
use mathlib.Core.Bool.{true, false}
use mathlib.Core.List.{List, [], ◌∷◌, ◌++◌}
use Prim.Native.Nat.{ℕ, zero, suc, ◌-◌}
use native.Mathlib.Omega.{arith}
use borrow.Author.Tests.{eq-eqb, ne_eqb}
use lib.Dec.{eqb}
use lib.ListN.{length, get_or, replicate}
use Rattle.std.specs.Prelude.{Result, Ok, Err}
use Rattle.std.specs.Borrow.{Bor}
use Rattle.lamport.specs.Vectors.{counts_in}
use Rattle.stamps.specs.Compare.{comparison}
use Rattle.schedule.specs.Parts.{lf, parts}
use Rattle.schedule.specs.Schedule.{bad_line}
use Rattle.schedule.specs.declared.Refused.{Refused}
use Rattle.verdict.specs.Reading.{padded}
use Rattle.verdict.specs.Verdict.{on_reading, compared, second_line, verdict_of, reading_then, reading_in}
use Rattle.verdict.specs.declared.Reading.{Reading}
use Rattle.verdict.proofs.Opened.{ended-parts, Opened, opened, unopened}

-- what `first_reading` answers
abbrev pub Answer : Type 0
Answer = Result (Reading × Bor (List ℕ)) Refused

-- zeros behind some counts are what is read past their end
zeros : (n a : ℕ) → get_or {A = ℕ} (replicate n 0) a 0 ≡ 0
zeros zero a = refl
zeros (suc n) zero = refl
zeros (suc n) (suc a) = zeros n a

padding : (v : List ℕ) (n a : ℕ) → counts_in (v ++ replicate n 0) a ≡ counts_in v a
padding [] n a = zeros n a
padding (x ∷ v) n zero = refl
padding (x ∷ v) n (suc a) = padding v n a

same-counts : (v : List ℕ) → counts_in (padded 8 v) ≡ counts_in v
same-counts v = fun_ext (padding v (8 - length v))

-- what the call for the first line answered
module _ (text : List ℕ) {a : Answer} (one : reading_in a ≡ on_reading (parts lf text) reading_then (bad_line 1)) where
  pub first_bad : {x : Refused} → a ≡ Err x → verdict_of text ≡ Err x
  unfolding verdict_of
  first_bad e = unopened (parts lf text) 1 (sym one ∙ ap reading_in e) second_line

  module _ {first : Reading} {rest : Bor (List ℕ)} (ok : a ≡ Ok (first, rest)) where
    o : Opened (parts lf text) first (parts lf rest.now)
    o = opened (parts lf text) 1 (sym one ∙ ap reading_in ok)

    go_on : verdict_of text ≡ second_line o.counts (parts lf rest.now)
    unfolding verdict_of
    go_on = o.on second_line (bad_line 1)

    -- and that for the second
    module _ {b : Answer} (two : reading_in b ≡ on_reading (parts lf rest.now) reading_then (bad_line 2)) where
      pub second_bad : {x : Refused} → b ≡ Err x → verdict_of text ≡ Err x
      unfolding second_line
      second_bad e = go_on ∙ unopened (parts lf rest.now) 2 (sym two ∙ ap reading_in e) (compared o.counts)

      module _ {second : Reading} {after : Bor (List ℕ)} (ok' : b ≡ Ok (second, after)) where
        p : Opened (parts lf rest.now) second (parts lf after.now)
        p = opened (parts lf rest.now) 2 (sym two ∙ ap reading_in ok')

        both : verdict_of text ≡ compared o.counts p.counts (parts lf after.now)
        unfolding second_line
        both = go_on ∙ p.on (compared o.counts) (bad_line 2)

        many : (length o.counts ≡ first.benches) × (length p.counts ≡ second.benches)
        many = (ap (λ r. r.benches) o.kept, ap (λ r. r.benches) p.kept)

        pub other_table : (second.benches ≡ first.benches → ⊥) → verdict_of text ≡ bad_line 2
        unfolding compared
        other_table ne =
            let n : length p.counts ≡ length o.counts → ⊥ = λ e. ne (omega (arith, many.0, many.1)) in
            rw (ne_eqb (length p.counts) (length o.counts) n) at both

        module _ (same : second.benches ≡ first.benches) where
          alike : eqb (length p.counts) (length o.counts) ≡ true
          alike = eq-eqb (length p.counts) (length o.counts) (omega (arith, many.0, many.1))

          pub more_follows : false ≡ eqb (length after.now) 0 → verdict_of text ≡ bad_line 3
          unfolding compared
          more_follows e = rw (alike, ended-parts after.now, ← e) at both

          pub said : true ≡ eqb (length after.now) 0 → verdict_of text ≡ Ok (comparison (counts_in first.counts) (counts_in second.counts))
          unfolding compared
          said e =
              let k = rw (alike, ended-parts after.now, ← e) at both in
              rw (← o.kept, ← p.kept, same-counts o.counts, same-counts p.counts) k
