-- Small cases, computed.
use mathlib.Core.Path.{◌≡◌, refl}
use mathlib.Core.List.{List, [], ◌∷◌, ◌++◌}
use Prim.Native.Nat.{ℕ}
use Rattle.std.specs.Prelude.{Some, None, Ok}
use Rattle.lamport.specs.declared.Step.TheVariants.{Ask}
use Rattle.schedule.specs.Parts.{lf, tab, parts, on_first, same}
use Rattle.schedule.specs.Number.{digit_on, grow, begins_ill, number_of}
use Rattle.schedule.specs.Lines.{table, ask, one_bench, two_benches, header, line_for, on_number, reading, fields_line, line_of}
use Rattle.schedule.specs.Schedule.{if_step, bad_line, bad_sizes, check_steps, check_header, check_lines, check_of, steps_of, schedule_steps}

-- 4294967295 and 4294967296; 0 and 00
largest : number_of (52 ∷ 50 ∷ 57 ∷ 52 ∷ 57 ∷ 54 ∷ 55 ∷ 50 ∷ 57 ∷ 53 ∷ []) ≡ Some 4294967295
unfolding number_of begins_ill grow digit_on
largest = refl

too_large : number_of (52 ∷ 50 ∷ 57 ∷ 52 ∷ 57 ∷ 54 ∷ 55 ∷ 50 ∷ 57 ∷ 54 ∷ []) ≡ None
unfolding number_of begins_ill grow digit_on
too_large = refl

nought : number_of (48 ∷ []) ≡ Some 0
unfolding number_of begins_ill grow digit_on
nought = refl

needless : number_of (48 ∷ 48 ∷ []) ≡ None
unfolding number_of begins_ill grow digit_on
needless = refl

-- `table n 4 0`, and `ask 0`
abbrev headed : ℕ → List ℕ
headed n = table ++ (tab ∷ n ∷ tab ∷ 52 ∷ tab ∷ 48 ∷ lf ∷ [])

abbrev asks : List ℕ
asks = ask ++ (tab ∷ 48 ∷ lf ∷ [])

-- an empty file; a header alone, of 2 benches and of 9; an empty third line, and the steps before it
empty : check_of [] ≡ bad_line 1
unfolding check_of check_lines parts
empty = refl

alone : check_of (headed 50) ≡ Ok (record { benches = 2; capacity = 4; start = 0 })
unfolding check_of check_lines check_header check_steps if_step line_of fields_line reading on_number line_for one_bench two_benches header parts on_first same number_of begins_ill grow digit_on
alone = refl

sizes : check_of (headed 57) ≡ bad_sizes
unfolding check_of check_lines check_header check_steps if_step line_of fields_line reading on_number line_for one_bench two_benches header parts on_first same number_of begins_ill grow digit_on
sizes = refl

third : check_of (headed 50 ++ asks ++ (lf ∷ asks)) ≡ bad_line 3
unfolding check_of check_lines check_header check_steps if_step line_of fields_line reading on_number line_for one_bench two_benches header parts on_first same number_of begins_ill grow digit_on
third = refl

before-third : schedule_steps (headed 50 ++ asks ++ (lf ∷ asks)) ≡ Ask 0 ∷ []
unfolding schedule_steps steps_of if_step line_of fields_line reading on_number line_for one_bench two_benches header parts on_first same number_of begins_ill grow digit_on
before-third = refl
