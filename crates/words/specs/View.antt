-- The table that words stand for. What is no bench reads as zero, and as no message.
use Rattle.std.specs.Prelude.{ℕ, zero, suc, ◌<◌, ◌≡◌, Bool, cond, ◌&&◌, List, [], ◌∷◌, ◌++◌, ltb, length, get_or}
use Rattle.lamport.specs.Table.{Table}
use Rattle.lamport.specs.declared.Message.{Message}
use Rattle.words.specs.Places.{most, chan, benches, capacity, clock, phase, entry, heard, count, kind, stamp, kind_of}

-- f 0, f 1, .. f (k - 1)
unfoldable pub listed : {A : Type 0} → (ℕ → A) → ℕ → List A
listed f zero = []
listed f (suc k) = listed f k ++ f k ∷ []

-- the message in slot i of channel c
abbrev pub slot : List ℕ → ℕ → ℕ → Message
slot t c i = record { kind = kind_of (kind t c i); stamp = stamp t c i }

-- the messages of channel c, the oldest first
unfoldable pub channel : List ℕ → ℕ → List Message
channel t c = listed (slot t c) (count t c)

abbrev pub two : ℕ → ℕ → Bool
two p q = ltb p most && ltb q most

unfoldable pub view : List ℕ → Table
view t =
    record {
      benches = benches t;
      capacity = capacity t;
      clock = λ p. cond (ltb p most) (clock t p) 0;
      phase = λ p. cond (ltb p most) (phase t p) 0;
      entry = λ p q. cond (two p q) (entry t p q) 0;
      heard = λ p q. cond (two p q) (heard t p q) 0;
      messages = λ p q. cond (two p q) (channel t (chan p q)) [];
    }

-- a row of words, one for each bench number, that reads as f
pub record Row (row : List ℕ) (f : ℕ → ℕ) : Type 0 where
  pub long : length row ≡ most
  pub reads : (q : ℕ) → q < most → get_or row q 0 ≡ f q
