-- Small cases, computed.
use mathlib.Core.Path.{◌≡◌, refl}
use mathlib.Core.List.{[], ◌∷◌}
use Rattle.std.specs.Prelude.{Some, None}
use Rattle.listing.specs.Write.{digits, digits_in}
use Rattle.listing.specs.Record.{lf, tab, cell_text, fields, record_text, word_line, end_text}

-- 4294967295
largest : digits 4294967295 ≡ 52 ∷ 50 ∷ 57 ∷ 52 ∷ 57 ∷ 54 ∷ 55 ∷ 50 ∷ 57 ∷ 53 ∷ []
unfolding digits digits_in
largest = refl

-- step 14 of the whole run: `14 2 - - - - 1`
fourteenth : record_text (record { step = 14; answer = 2; bench = None; clock = None; phase = None; place = None; holder = Some 1 })
    ≡ 49 ∷ 52 ∷ tab ∷ 50 ∷ tab ∷ 45 ∷ tab ∷ 45 ∷ tab ∷ 45 ∷ tab ∷ 45 ∷ tab ∷ 49 ∷ lf ∷ []
unfolding record_text fields cell_text digits digits_in
fourteenth = refl

-- `end 0 0` is 8 bytes
last : end_text 0 0 ≡ 101 ∷ 110 ∷ 100 ∷ tab ∷ 48 ∷ tab ∷ 48 ∷ lf ∷ []
unfolding end_text word_line fields cell_text digits digits_in
last = refl
