-- How many bytes a good schedule has: each of its lines has a word, a tab, a number and an LF.
use mathlib.Core.Bool.{Bool, true, false, cond}
use mathlib.Core.List.{List, [], ◌∷◌, ◌++◌}
use mathlib.Core.Path.{◌≡◌, refl, ap, ◌∙◌}
use Prim.Native.Nat.{ℕ, suc, ◌+◌, ◌*◌, ◌≤◌, ◌<◌}
use native.Mathlib.Omega.{arith}
use lib.Dec.{eqb}
use lib.ListN.{length, drop, length-drop}
use Rattle.std.specs.Prelude.{Option, Some, None, Ok, Err}
use Rattle.std.proofs.Common.{⊎_elim}
use native.Mathlib.Nat.{eq-or-lt_of_le}
use Rattle.lamport.specs.declared.Setup.{Setup}
use Rattle.lamport.specs.declared.Refusal.TheVariants.{BadSizes, BadLine}
use Rattle.lamport.specs.Table.{sizes_ok}
use Rattle.schedule.specs.Parts.{lf, tab, parts, on_first, same}
use Rattle.schedule.specs.Number.{begins_ill, number_of}
use Rattle.schedule.specs.Lines.{table, ask, enter, leave, mark, carry, header, one_bench, two_benches, line_for, on_number, reading, fields_line, line_of}
use Rattle.schedule.specs.Schedule.{if_step, check_steps, check_header, check_lines, check_of, SixBytes}
use Rattle.schedule.specs.declared.Line.{Line}
use Rattle.schedule.specs.declared.Line.TheVariants as L
use Rattle.schedule.proofs.PartsLaws.{up_to, up_to-short, parts-cons, parts-one, parts_cut, parts-count}

-- ---- a word and a number

same-long : (s t : List ℕ) → same s t ≡ true → length s ≡ length t
unfolding same
same-long [] [] e = refl
same-long [] (y ∷ ys) e = cc
same-long (x ∷ xs) [] e = cc
same-long (x ∷ xs) (y ∷ ys) e = go (eqb x y) (same-long xs ys) e
  where
    go : (b : Bool) → (same xs ys ≡ true → length xs ≡ length ys) → cond b (same xs ys) false ≡ true → suc (length xs) ≡ suc (length ys)
    go true f k = ap suc (f k)
    go false f k = cc

-- where a word is the one that is asked for, it is as long; else the rest decides
worded : {o : Option Line} (word v : List ℕ) (found : Option Line) {l : Line} → 3 ≤ length v → (o ≡ Some l → 3 ≤ length word) → (b : Bool) → same word v ≡ b → cond b found o ≡ Some l → 3 ≤ length word
worded word v found h f true e k = omega (arith, same-long word v e, h)
worded word v found h f false e k = f k

none-worded : (word : List ℕ) {l : Line} → None ≡ Some l → 3 ≤ length word
none-worded word k = absurd (cc)

word_long : (word ns : List ℕ) {l : Line} → line_for word ns ≡ Some l → 3 ≤ length word
unfolding line_for one_bench two_benches header
word_long word [] e = cc
word_long word (p ∷ []) e =
    worded word ask _ (omega arith)
    (worded word enter _ (omega arith) (worded word leave _ (omega arith) (worded word mark _ (omega arith) (none-worded word) _ refl) _ refl) _ refl) _ refl e
word_long word (p ∷ q ∷ []) e = worded word carry _ (omega arith) (none-worded word) _ refl e
word_long word (n ∷ c ∷ s ∷ []) e = worded word table _ (omega arith) (none-worded word) _ refl e
word_long word (n ∷ c ∷ s ∷ x ∷ xs) e = cc

reading_long : (word ns : List ℕ) (fs : List (List ℕ)) {l : Line} → reading word ns fs ≡ Some l → 3 ≤ length word
unfolding reading on_number
reading_long word ns [] e = word_long word ns e
reading_long word ns (f ∷ fs) {l} e = go (number_of f) (λ x. reading_long word (ns ++ (x ∷ [])) fs) e
  where
    go : (o : Option ℕ) → ((x : ℕ) → reading word (ns ++ (x ∷ [])) fs ≡ Some l → 3 ≤ length word) → on_number o (λ x. reading word (ns ++ (x ∷ [])) fs) ≡ Some l → 3 ≤ length word
    go (Some x) g k = g x k
    go None g k = cc

number_long : (f : List ℕ) {x : ℕ} → number_of f ≡ Some x → 1 ≤ length f
unfolding number_of begins_ill
number_long [] e = cc
number_long (b ∷ bs) e = omega arith

-- ---- a line

number_read : (f : List ℕ) (g : ℕ → Option Line) {l : Line} → on_number (number_of f) g ≡ Some l → 1 ≤ length f
unfolding on_number
number_read f g {l} e = go (number_of f) refl e
  where
    go : (o : Option ℕ) → number_of f ≡ o → on_number o g ≡ Some l → 1 ≤ length f
    go (Some x) h k = number_long f h
    go None h k = cc

line_long : (s : List ℕ) {l : Line} → line_of s ≡ Some l → 5 ≤ length s
unfolding line_of fields_line reading line_for
line_long s {l} e = ⊎_elim one more (eq-or-lt_of_le (up_to-short tab s))
  where
    one : length (up_to tab s) ≡ length s → 5 ≤ length s
    one h = absurd (let k = rw (parts-one tab s h) at e in cc)

    more : length (up_to tab s) < length s → 5 ≤ length s
    more h =
        let word = up_to tab s in
        let rest = drop (length word + 1) s in
        let k = rw (parts_cut tab s h, parts-cons tab rest) at e in
        let w = reading_long word [] (up_to tab rest ∷ drop 1 (parts tab rest)) k in
        let f = number_read (up_to tab rest) _ k in
        let short = up_to-short tab rest in
        let left = length-drop (length word + 1) s in
        omega arith

-- ---- the lines of a text

bytes : List (List ℕ) → ℕ
bytes [] = 0
bytes (l ∷ []) = length l
bytes (l ∷ m ∷ ls) = length l + 1 + bytes (m ∷ ls)

bytes_first : (x : ℕ) (ps : List (List ℕ)) → bytes (on_first x ps) ≡ suc (bytes ps)
unfolding on_first bytes
bytes_first x [] = refl
bytes_first x (p ∷ []) = refl
bytes_first x (p ∷ q ∷ ps) = omega arith

length-bytes : (b : ℕ) (s : List ℕ) → bytes (parts b s) ≡ length s
unfolding parts bytes
length-bytes b [] = refl
length-bytes b (x ∷ xs) = go (eqb x b) (length-bytes b xs)
  where
    go : (t : Bool) → bytes (parts b xs) ≡ length xs → bytes (cond t ([] ∷ parts b xs) (on_first x (parts b xs))) ≡ suc (length xs)
    go true e = rw (parts-cons b xs) (let k = rw (parts-cons b xs) at e in omega arith)
    go false e = bytes_first x (parts b xs) ∙ ap suc e

steps_long : {A : Type 0} (a c : A) (k : ℕ) (ls : List (List ℕ)) → check_steps (Ok a) k ls ≡ Ok c → 6 * length ls ≤ bytes ls + 6
unfolding check_steps if_step bytes
steps_long a c k [] e = omega arith
steps_long a c k (l ∷ []) e = omega arith
steps_long a c k (l ∷ m ∷ ls) e = go (line_of l) refl (λ h. steps_long a c (suc k) (m ∷ ls) h) e
  where
    go : (o : Option Line) → line_of l ≡ o → (check_steps (Ok a) (suc k) (m ∷ ls) ≡ Ok c → 6 * suc (length ls) ≤ bytes (m ∷ ls) + 6)
        → if_step o (λ x. check_steps (Ok a) (suc k) (m ∷ ls)) (Err (record { refusal = BadLine; line = k })) ≡ Ok c → 6 * suc (suc (length ls)) ≤ length l + 1 + bytes (m ∷ ls) + 6
    go (Some (L.Step x)) h f k = let j = line_long l h in let r = f k in omega arith
    go (Some (L.Header x)) h f k = cc
    go None h f k = cc

headed : (o : Option Line) (h : List ℕ) (ls : List (List ℕ)) (setup : Setup) → line_of h ≡ o → check_header o ls ≡ Ok setup → (5 ≤ length h) × (6 * length ls ≤ bytes ls + 6)
unfolding check_header
headed (Some (L.Header x)) h ls setup e k = (line_long h e, go (sizes_ok x.benches x.capacity) k)
  where
    go : (b : Bool) → cond b (check_steps (Ok x) 2 ls) (Err (record { refusal = BadSizes; line = 1 })) ≡ Ok setup → 6 * length ls ≤ bytes ls + 6
    go true f = steps_long x setup 2 ls f
    go false f = absurd (cc)
headed (Some (L.Step x)) h ls setup e k = absurd (cc)
headed None h ls setup e k = absurd (cc)

lines_long : (ls : List (List ℕ)) (setup : Setup) → check_lines ls ≡ Ok setup → 6 * length ls ≤ bytes ls + 6
unfolding check_lines bytes
lines_long [] setup e = absurd (cc)
lines_long (h ∷ []) setup e = absurd (cc)
lines_long (h ∷ l ∷ ls) setup e = let k = headed (line_of h) h (l ∷ ls) setup refl e in omega (arith, k.0, k.1)

pub six_bytes : SixBytes
unfolding check_of
six_bytes s setup e = omega (arith, lines_long (parts lf s) setup e, length-bytes lf s, parts-count lf s)
