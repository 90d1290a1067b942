-- Where each reading of a table stands among its 32-bit words.
use Rattle.std.specs.Prelude.{ℕ, ◌+◌, ◌-◌, ◌*◌, cond, List, eqb, get_or}
use Rattle.lamport.specs.Codes.{code_of}
use Rattle.lamport.specs.Table.{most_benches, most_messages}
use Rattle.lamport.specs.declared.Kind.{Kind}
use Rattle.lamport.specs.declared.Kind.TheVariants.{Request, Ack, Release}

-- there is room for 8 benches, and for 16 messages of 2 words in each channel
abbrev pub most : ℕ
most = most_benches

abbrev pub slots : ℕ
slots = most_messages

abbrev pub last_slot : ℕ
last_slot = slots - 1

abbrev pub slot_words : ℕ
slot_words = 2

abbrev pub channel_words : ℕ
channel_words = slots * slot_words

-- ---- where each block begins, one behind the other: the sizes, a word for each bench, for each pair of benches, for each channel, and the channels' slots

abbrev pub benches_at : ℕ
benches_at = 0

abbrev pub capacity_at : ℕ
capacity_at = 1

abbrev pub first_clock : ℕ
first_clock = 2

abbrev pub first_phase : ℕ
first_phase = first_clock + most

abbrev pub first_entry : ℕ
first_entry = first_phase + most

abbrev pub first_heard : ℕ
first_heard = first_entry + most * most

abbrev pub first_count : ℕ
first_count = first_heard + most * most

abbrev pub first_kind : ℕ
first_kind = first_count + most * most

abbrev pub first_stamp : ℕ
first_stamp = first_kind + 1

-- 2,258 words in all
abbrev pub size : ℕ
size = first_kind + most * most * channel_words

-- ---- the places

abbrev pub clock_at : ℕ → ℕ
clock_at p = first_clock + p

abbrev pub phase_at : ℕ → ℕ
phase_at p = first_phase + p

abbrev pub entry_at : ℕ → ℕ → ℕ
entry_at p q = first_entry + p * most + q

abbrev pub heard_at : ℕ → ℕ → ℕ
heard_at p q = first_heard + p * most + q

-- the channel from p to q
abbrev pub chan : ℕ → ℕ → ℕ
chan p q = p * most + q

abbrev pub count_at : ℕ → ℕ
count_at c = first_count + c

-- slot i of channel c: the kind, and behind it the stamp
abbrev pub kind_at : ℕ → ℕ → ℕ
kind_at c i = first_kind + c * channel_words + i * slot_words

abbrev pub stamp_at : ℕ → ℕ → ℕ
stamp_at c i = first_stamp + c * channel_words + i * slot_words

-- ---- what stands there

abbrev pub benches : List ℕ → ℕ
benches t = get_or t benches_at 0

abbrev pub capacity : List ℕ → ℕ
capacity t = get_or t capacity_at 0

abbrev pub clock : List ℕ → ℕ → ℕ
clock t p = get_or t (clock_at p) 0

abbrev pub phase : List ℕ → ℕ → ℕ
phase t p = get_or t (phase_at p) 0

abbrev pub entry : List ℕ → ℕ → ℕ → ℕ
entry t p q = get_or t (entry_at p q) 0

abbrev pub heard : List ℕ → ℕ → ℕ → ℕ
heard t p q = get_or t (heard_at p q) 0

-- how many messages channel c has
abbrev pub count : List ℕ → ℕ → ℕ
count t c = get_or t (count_at c) 0

abbrev pub kind : List ℕ → ℕ → ℕ → ℕ
kind t c i = get_or t (kind_at c i) 0

abbrev pub stamp : List ℕ → ℕ → ℕ → ℕ
stamp t c i = get_or t (stamp_at c i) 0

-- the kind that a word is
abbrev pub kind_of : ℕ → Kind
kind_of code = cond (eqb code (code_of Request)) Request (cond (eqb code (code_of Ack)) Ack Release)
