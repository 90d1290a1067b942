use Rattle.std.proofs.Common.{rules, ◌≡◌, ◌+◌, ◌%◌, ◌/◌, [], ◌∷◌, ◌++◌, List, ℕ, length, length-set, length-append, arith}
use Rattle.listing.specs.Write.{digits, Wrote}
use Rattle.listing.proofs.Laws.{digits-two, digits-more, digits-short, length_more, over-none, over-snoc}
use Rattle.listing.proofs.+put_long.Goals as goal
use Rattle.listing.proofs.+put_long.Goals.{Joined-front-eq0, then-front-eq0, else-front-eq0+then-front-lt10, else-front-eq0+else-front-lt10}

-- what is written before the last two digits
record Before (t : ℕ) (c : Joined-front-eq0 t) : Type 0 where
  front : List ℕ
  wrote : Wrote front c.if-front-eq0.at c.args.out.now c.if-front-eq0.out
  whole : digits c.args.x ≡ (front ++ ((48 + c.args.x % 100 / 10) ∷ [])) ++ ((48 + c.args.x % 100 % 10) ∷ [])

before : (t : ℕ) (c : Joined-front-eq0 t) → Before t c
before t c =
    elim c.if-front-eq0.branch [
      | then-front-eq0 w ↦ record { front = []; wrote = rw (w.at-is, w.out-is) (over-none _); whole = digits-two c.args.x c.requires.long (omega (arith, w.if-front-eq0.true)) }
      | else-front-eq0+then-front-lt10 w ↦
          record { front = digits (c.args.x / 100); wrote = rw (w.at-is, w.out-is) w.put_digit.ensures; whole = digits-more c.args.x (omega (arith, w.if-front-eq0.false)) c.ranges.x.fits }
      | else-front-eq0+else-front-lt10 w ↦
          record { front = digits (c.args.x / 100); wrote = rw (w.at-is, w.out-is) w.put_long.ensures; whole = digits-more c.args.x (omega (arith, w.if-front-eq0.false)) c.ranges.x.fits }
    ]

-- these two end the number
ends : (t : ℕ) (c : Joined-front-eq0 t) → c.if-front-eq0.at + 2 ≡ length (digits c.args.x)
ends t c =
    let b = before t c in
    rw (b.whole, length-append (b.front ++ ((48 + c.args.x % 100 / 10) ∷ [])) ((48 + c.args.x % 100 % 10) ∷ []), length-append b.front ((48 + c.args.x % 100 / 10) ∷ []))
    (omega (arith, b.wrote.bytes))

pub put_digit-requires-clause-room : goal.put_digit-requires-clause-room
put_digit-requires-clause-room t c = omega (arith, c.requires.room, length_more c.args.x (omega (arith, c.if-front-eq0.false)) c.ranges.x.fits)

pub put_long-requires : goal.put_long-requires
put_long-requires t c =
    (search rules, (omega (arith, c.if-front-lt10.false), omega (arith, c.requires.room, length_more c.args.x (omega (arith, c.if-front-eq0.false)) c.ranges.x.fits)))

pub bounds-out-at : goal.bounds-out-at
bounds-out-at t c = omega (arith, ends t c, c.requires.room, c.if-front-eq0.auto.out)

pub overflow_add-out-3 : goal.overflow_add-out-3
overflow_add-out-3 t c = omega (arith, ends t (goal.at.overflow_add-out-3 t c).Joined-front-eq0, digits-short c.args.x)

pub bounds-out-at-2 : goal.bounds-out-at-2
bounds-out-at-2 t c =
    omega (arith, ends t (goal.at.bounds-out-at-2 t c).Joined-front-eq0, c.requires.room, c.if-front-eq0.auto.out, length-set c.if-front-eq0.out c.if-front-eq0.at (48 + c.args.x % 100 / 10))

pub overflow_add-result : goal.overflow_add-result
overflow_add-result t c = omega (arith, ends t (goal.at.overflow_add-result t c).Joined-front-eq0, digits-short c.args.x)

pub returns : goal.returns
returns t c =
    let j = (goal.at.returns t c).Joined-front-eq0 in
    let b = before t j in
    let room = ends t j in
    let two : c.if-front-eq0.at + 2 ≡ c.if-front-eq0.at + 1 + 1 = omega arith in
    let tens : Wrote (b.front ++ ((48 + c.args.x % 100 / 10) ∷ [])) _ _ _ = over-snoc b.front _ _ _ _ b.wrote (omega (arith, room, c.requires.room)) in
    rw (b.whole, two) (over-snoc _ _ _ _ _ tens (omega (arith, room, c.requires.room)))
