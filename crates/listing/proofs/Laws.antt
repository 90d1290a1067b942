-- Writing one text over the rest that another has left; how long the texts are.
use mathlib.Core.Path.{◌≡◌, refl, sym, ap, ◌∙◌}
use mathlib.Core.Bool.{Bool, true, false, cond}
use mathlib.Core.List.{List, [], ◌∷◌, ◌++◌, append_assoc, append-nil}
use Prim.Native.Nat.{ℕ, zero, suc, ◌+◌, ◌/◌, ◌%◌, ◌^◌, ◌-◌, ◌≤◌, ◌<◌, zero-le}
use native.Mathlib.Omega.{arith}
use native.Mathlib.Numerals.{add-one}
use native.Mathlib.Nat.{div-lt_iff_lt-mul, pow-suc}
use lib.Dec.{ltb, lit<}
use lib.ListN.{length, take, drop, set, length-append, length-drop, drop_of_length-le}
use lib.Seq.{drop-cons, append_snoc, set_at, take_at, drop_at, drop-drop, take_all, take-append_seam}
use borrow.Rule.Slice.PartMut.{put_mid}
use borrow.Author.Tests.{lt-ltb, le-ltb}
use Rattle.std.specs.Prelude.{Option, Some, None, slice_index_or}
use Rattle.listing.specs.Write.{digits, digits_in, over, Wrote}
use Rattle.listing.specs.Record.{tab, cell_text, fields, record_text, word_line, end_text, refused_text}
use Rattle.listing.specs.declared.Record.{Record}

-- the digits of a number below ten, and of any other
pub digits-small : (x : ℕ) → x < 10 → digits x ≡ (48 + x) ∷ []
unfolding digits digits_in
digits-small x h = simp (lt-ltb _ _ h)

-- a place more changes nothing where there are places enough
enough : (k x : ℕ) → x < 10 ^ suc k → digits_in (suc k) x ≡ digits_in (suc (suc k)) x
unfolding digits_in
enough zero x h = simp (lt-ltb x 10 h)
enough (suc k) x h =
    ap (λ (l : List ℕ). cond (ltb x 10) ((48 + x) ∷ []) (l ++ ((48 + x % 10) ∷ [])))
    (enough k (x / 10) ((div-lt_iff_lt-mul (lit< tt)).1 (rw pow-suc at h)))

pub digits-large : (x : ℕ) → 10 ≤ x → x < 2 ^ 64 → digits x ≡ digits (x / 10) ++ ((48 + x % 10) ∷ [])
unfolding digits digits_in
digits-large x h f =
    let s : x / 10 < 10 ^ 19 = omega arith in
    rw (le-ltb x 10 h) (ap (λ (l : List ℕ). l ++ ((48 + x % 10) ∷ [])) (enough 18 (x / 10) s))

-- the last two digits, of a number that has no more and of any other
pub digits-two : (x : ℕ) → 10 ≤ x → x < 100 → digits x ≡ ((48 + x % 100 / 10) ∷ []) ++ ((48 + x % 100 % 10) ∷ [])
digits-two x h k =
    let tens : x % 100 / 10 ≡ x / 10 = omega arith in
    let ones : x % 100 % 10 ≡ x % 10 = omega arith in
    rw (digits-large x h (omega (arith, k)), digits-small (x / 10) (omega (arith, k)), tens, ones) refl

pub digits-more : (x : ℕ) → 100 ≤ x → x < 2 ^ 64 → digits x ≡ (digits (x / 100) ++ ((48 + x % 100 / 10) ∷ [])) ++ ((48 + x % 100 % 10) ∷ [])
digits-more x h f =
    let front : x / 10 / 10 ≡ x / 100 = omega arith in
    let tens : x % 100 / 10 ≡ x / 10 % 10 = omega arith in
    let ones : x % 100 % 10 ≡ x % 10 = omega arith in
    rw (digits-large x (omega (arith, h)) f, digits-large (x / 10) (omega (arith, h)) (omega (arith, f)), front, tens, ones) refl

-- how many digits that is
pub length_small : (x : ℕ) → x < 10 → length (digits x) ≡ 1
length_small x h = ap length (digits-small x h)

pub length_more : (x : ℕ) → 100 ≤ x → x < 2 ^ 64 → length (digits x) ≡ length (digits (x / 100)) + 2
length_more x h f =
    rw (digits-more x h f, length-append (digits (x / 100) ++ ((48 + x % 100 / 10) ∷ [])) ((48 + x % 100 % 10) ∷ []), length-append (digits (x / 100)) ((48 + x % 100 / 10) ∷ [])) (omega arith)

-- a number below 10 ^ (k + 1) has at most k + 1 digits
either_short : (b : Bool) (l m : List ℕ) (n : ℕ) → length l ≤ n → length m ≤ n → length (cond b l m) ≤ n
either_short true l m n h k = h
either_short false l m n h k = k

within : (f k x : ℕ) → x < 10 ^ suc k → length (digits_in f x) ≤ suc k
unfolding digits_in
within zero k x h = zero-le
within (suc f) zero x h = rw (lt-ltb x 10 h) (omega arith)
within (suc f) (suc k) x h =
    let r = within f k (x / 10) ((div-lt_iff_lt-mul (lit< tt)).1 (rw pow-suc at h)) in
    either_short (ltb x 10) _ _ (suc (suc k)) (omega arith) (simp length-append (omega arith))

pub digits-within : (k x : ℕ) → x < 10 ^ suc k → length (digits x) ≤ suc k
unfolding digits
digits-within k x h = within 20 k x h

-- and no number more than there are places
short : (k x : ℕ) → length (digits_in k x) ≤ k
unfolding digits_in
short zero x = zero-le
short (suc k) x =
    let h : length (digits_in k (x / 10)) ≤ k = short k (x / 10) in
    either_short (ltb x 10) _ _ (suc k) (omega arith) (simp length-append (omega arith))

pub digits-short : (x : ℕ) → length (digits x) ≤ 20
unfolding digits
digits-short x = short 20 x

-- what is written over the front of `out` keeps its length
pub over-length : (w out : List ℕ) → length w ≤ length out → length (over w out) ≡ length out
unfolding over
over-length w out h = simp (length-append, length-drop) (omega arith)

-- one byte more, stored after what was written
pub over-snoc : (w out l : List ℕ) (at b : ℕ) → Wrote w at out l → at < length out → Wrote (w ++ (b ∷ [])) (at + 1) out (set l at b)
unfolding over
over-snoc w out l at b did h =
    let k : length w < length out = omega (arith, did.bytes) in
    record {
      bytes = rw length-append (omega (arith, did.bytes));
      text = rw (did.text, drop-cons out (length w) 0 k, set_at w _ _ b at (sym did.bytes), length-append, append_snoc, add-one);
    }

-- nothing is written
pub over-none : (out : List ℕ) → Wrote [] 0 out out
unfolding over
over-none out = record { bytes = refl; text = refl }

-- one byte, stored at the front
pub over-one : (out : List ℕ) (b : ℕ) (w : List ℕ) → 0 < length out → w ≡ b ∷ [] → Wrote w 1 out (set out 0 b)
unfolding over
over-one (x ∷ xs) b w h e = rw e (record { bytes = refl; text = refl })
over-one [] b w h e = absurd (omega arith)

-- what is written is no longer than the output, and is its front
pub written-within : {w out after : List ℕ} {n : ℕ} → Wrote w n out after → n ≤ length after
unfolding over
written-within {w} {out} {after} {n} a = let l = length-append w (drop (length w) out) in omega (arith, a.bytes, ap length a.text, l)

pub written-front : {w out after : List ℕ} {n : ℕ} → Wrote w n out after → take n after ≡ w
unfolding over
written-front {w} {out} a = rw (a.bytes, a.text, take-append_seam w (drop (length w) out))

-- w was written over the front of `out`, which gave l, and the rest of l is lent from `at` on for v
pub record Lent (w v text out l : List ℕ) (at : ℕ) : Type 0 where
  pub starts : at ≤ length l
  pub room : length v ≤ length (take (length l - at) (drop at l))
  -- v over the rest makes the whole text over `out`
  pub then : (n : ℕ) (t : List ℕ) → Wrote v n (take (length l - at) (drop at l)) t → Wrote text (at + n) out (put_mid at (length l - at) l t)

module _ (w v text out : List ℕ) (splits : text ≡ w ++ v) (fits : length text ≤ length out) where
  both : length w + length v ≤ length out
  both = omega (arith, simp length-append at (ap length splits))

  pub front_fits : length w ≤ length out
  front_fits = omega (arith, both)

  module _ (l : List ℕ) (at : ℕ) (did : Wrote w at out l) where
    room-length : length l ≡ length out
    room-length = ap length did.text ∙ over-length w out front_fits

    kept : take at l ≡ w
    unfolding over
    kept = rw did.text (take_at w _ at (sym did.bytes))

    gone : drop (length l - at) (drop at l) ≡ []
    gone = drop_of_length-le (drop at l) {i = length l - at} (simp length-drop (omega arith))

    rest-is : take (length l - at) (drop at l) ≡ drop (length w) out
    unfolding over
    rest-is =
        let d : drop at l ≡ drop (length w) out = rw did.text (drop_at w _ at (sym did.bytes)) in
        rw d (take_all (length l - at) (drop (length w) out) (simp length-drop (omega (arith, room-length))))

    pub lend : Lent w v text out l at
    unfolding over
    lend =
        record {
          starts = omega (arith, both, room-length);
          room = rw (rest-is, length-drop) (omega (arith, both));
          then = λ n t next.
              let s : t ≡ v ++ drop (length v) (drop (length w) out) = rw rest-is at next.text in
              record {
                bytes = rw (splits, length-append) (omega (arith, did.bytes, next.bytes));
                text = rw (splits, kept, gone, s) (simp (append-nil, append_assoc, drop-drop, length-append));
              };
        }

-- fields behind others
pub fields_split : (c : Option ℕ) (cs : List (Option ℕ)) (d : Option ℕ) (ds : List (Option ℕ)) (end : ℕ) → fields ((c ∷ cs) ++ (d ∷ ds)) end ≡ fields (c ∷ cs) tab ++ fields (d ∷ ds) end
unfolding fields
fields_split c [] d ds end = simp append_assoc
fields_split c (e ∷ cs) d ds end = rw (fields_split e cs d ds end) (simp append_assoc)

-- of two fields or more, the first and those behind it
pub fields_first : (cs : List (Option ℕ)) (end : ℕ) → 2 ≤ length cs → fields cs end ≡ fields (slice_index_or cs 0 None ∷ []) tab ++ fields (take (length cs - 1) (drop 1 cs)) end
unfolding fields
fields_first [] end h = absurd (omega arith)
fields_first (c ∷ []) end h = absurd (omega arith)
fields_first (c ∷ d ∷ ds) end h = rw (take_all (suc (suc (length ds)) - 1) (d ∷ ds) (omega arith)) (fields_split c [] d ds end)

-- and how long they are together
pub fields_length : (cs : List (Option ℕ)) (end : ℕ) → 2 ≤ length cs → length (fields cs end) ≡ length (fields (slice_index_or cs 0 None ∷ []) tab) + length (fields (take (length cs - 1) (drop 1 cs)) end)
fields_length cs end h = rw (fields_first cs end h) (length-append (fields (slice_index_or cs 0 None ∷ []) tab) _)

-- cells: a number below 10 ^ (k + 1), a clock, a dash
pub number_short : (k x : ℕ) → x < 10 ^ suc k → length (cell_text (Some x)) ≤ suc k
unfolding cell_text
number_short k x h = digits-within k x h

pub dash_short : length (cell_text None) ≤ 1
unfolding cell_text
dash_short = omega arith

-- no line is longer than 32 bytes
pub record_short : (r : Record) → r.step < 100000 → r.answer < 10 → length (cell_text r.bench) ≤ 1 → length (cell_text r.clock) ≤ 10
    → length (cell_text r.phase) ≤ 1 → length (cell_text r.place) ≤ 1 → length (cell_text r.holder) ≤ 1 → length (record_text r) ≤ 32
unfolding record_text fields
record_short r s a b k p l h = simp length-append (omega (arith, number_short 4 r.step s, number_short 0 r.answer a))

line-length : (word : List ℕ) (a b : ℕ) → length (word_line word a b) ≡ length word + length (cell_text (Some a)) + length (cell_text (Some b)) + 2
unfolding word_line fields
line-length word a b = simp length-append (omega arith)

pub end_short : (taken refused : ℕ) → taken < 100000 → refused < 100000 → length (end_text taken refused) ≤ 32
unfolding end_text
end_short k f h g = rw (line-length _ k f) (omega (arith, number_short 4 k h, number_short 4 f g))

-- whatever the numbers
pub refused-fits : (number line : ℕ) → length (refused_text number line) ≤ 50
unfolding refused_text cell_text
refused-fits k f = rw (line-length _ k f) (omega (arith, digits-short k, digits-short f))
