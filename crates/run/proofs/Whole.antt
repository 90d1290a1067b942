-- What is answered to a schedule, in each case, whatever is written of it.
use Prim.Native.Nat.{ℕ, ◌+◌, ◌*◌, ◌^◌, ◌≤◌, ◌<◌}
use native.Mathlib.Omega.{arith}
use mathlib.Core.Path.{◌≡◌, refl, sym, ap, ◌∙◌}
use mathlib.Core.Bool.{true}
use mathlib.Core.List.{List}
use borrow.Author.Tests.{lt-ltb, le-ltb}
use lib.ListN.{length, take}
use Rattle.std.specs.Prelude.{Ok, Err}
use Rattle.std.proofs.Common.{⊎_elim, length-take-le, take_all}
use Rattle.std.proofs.Math.Nat.{mul-le-mul_left}
use Rattle.std.proofs.lemmas.Bool.{cases_lt}
use Rattle.lamport.specs.Table.{sizes_ok}
use Rattle.lamport.specs.declared.Refusal.TheVariants.{TooLong, NoRoom}
use Rattle.lamport.specs.declared.Setup.{Setup}
use Rattle.lamport.specs.declared.Step.{Step}
use Rattle.listing.proofs.Laws.{over-none}
use Rattle.schedule.specs.Parts.{lf, count, IsCut}
use Rattle.schedule.specs.Schedule.{check_of}
use Rattle.schedule.specs.declared.Refused.{Refused}
use Rattle.schedule.proofs.Bytes.{six_bytes}
use Rattle.schedule.proofs.PartsLaws.{count-short, count_cut, length_cut}
use Rattle.schedule.proofs.ScheduleLaws.{check_empty, steps_headed}
use Rattle.run.specs.Run.{checked, outcome_of, Answers, Refuses, Admits}

module _ (line_room : ℕ) (s : List ℕ) (room : ℕ) where
  pub refuses_long : 12288 < length s → Refuses line_room s room (record { refusal = TooLong; line = 0 })
  unfolding outcome_of
  refuses_long h text = rw (lt-ltb 12288 (length s) h)

  pub refuses_ill : {r : Refused} → check_of s ≡ Err r → length s ≤ 12288 → Refuses line_room s room r
  unfolding outcome_of checked
  refuses_ill e short text = rw (le-ltb 12288 (length s) short, e)

  pub refuses_cramped : {setup : Setup} → check_of s ≡ Ok setup → length s ≤ 12288 → room < line_room * count lf s → Refuses line_room s room (record { refusal = NoRoom; line = 0 })
  unfolding outcome_of checked
  refuses_cramped well short h text = rw (le-ltb 12288 (length s) short, well, lt-ltb room (line_room * count lf s) h)

  pub admits : {setup : Setup} {header lines : List ℕ} → check_of s ≡ Ok setup → IsCut lf s header lines → length s ≤ 12288 → line_room * count lf s ≤ room →
      sizes_ok setup.benches setup.capacity ≡ true → Admits line_room s room setup lines
  unfolding outcome_of checked
  admits {setup} {header} {lines} well cut short h sizes =
      let more : count lf s ≡ count lf lines + 1 = omega (arith, count_cut cut) in
      record {
        outcome = λ text. rw (le-ltb 12288 (length s) short, well, le-ltb room (line_room * count lf s) h, steps_headed s header lines cut.parted);
        sizes = sizes;
        short = omega (arith, length_cut cut);
        roomy = rw (← more) h;
      }

-- the room for all lines is a number of 64 bits
pub room_fits : (line_room : ℕ) (s : List ℕ) → length s ≤ 12288 → line_room < 2 ^ 32 → line_room * count lf s < 2 ^ 64
room_fits line_room s short h =
    let few : count lf s ≤ 12288 = omega (arith, count-short lf s) in
    omega (arith, mul-le-mul_left line_room few)

pub ruleset admitting = (refuses_long, refuses_ill, refuses_cramped, room_fits, check_empty)

module _ (line_room : ℕ) (text : Setup → List Step → List ℕ) (s : List ℕ) where
  -- what is refused is answered, and nothing is written
  pub refused_so : (room : ℕ) (r : Refused) (out : List ℕ) → Refuses line_room s room r → Answers (outcome_of line_room text s room) (Err r) out out
  refused_so room r out h = rw (h text) (record { no = refl; line = refl; wrote = over-none out })

  -- a byte more than the longest schedule is enough to tell that it is too long
  pub same_front : (n room : ℕ) → 12289 ≤ n → outcome_of line_room text (take n s) room ≡ outcome_of line_room text s room
  same_front n room enough =
      ⊎_elim
      (λ h. refuses_long line_room (take n s) room (rw (length-take-le n s (omega arith)) (omega arith)) text ∙ sym (refuses_long line_room s room (omega arith) text))
      (λ h. ap (λ t. outcome_of line_room text t room) (take_all n s h))
      (cases_lt n (length s))

  -- 12,288 bytes have no more than 2,048 lines of six, so that a good schedule has room in that of so many
  pub good_is_done : (setup : Setup) → length s ≤ 12288 → check_of s ≡ Ok setup → (outcome_of line_room text s (line_room * 2048)).no ≡ 0
  unfolding outcome_of checked
  good_is_done setup short good =
      let few : count lf s ≤ 2048 = omega (arith, short, six_bytes s setup good) in
      rw (le-ltb 12288 (length s) short, good, le-ltb (line_room * 2048) (line_room * count lf s) (mul-le-mul_left line_room few))
