-- Boundaries of the receive buffer: document 01, "From packets to the reader". Reads are in ReadRows.antt.
use Rattle.std.specs.Prelude.{ℕ, ◌-◌, ◌^◌, ◌≡◌, Bool, true, false, List, [], ◌∷◌, map, replicate}
use Rattle.std.proofs.Math.Option.{none, some}
use Rattle.refusal.specs.Said.{Said, answers, refuses}
use Rattle.ordered_bytes.specs.declared.OrderedBytes.{OrderedBytes}
use Rattle.ordered_bytes.specs.Buffer.{Buffer}
use Rattle.ordered_bytes.specs.Calls.{creating, starting, accepting, peeking}
use Rattle.samples.specs.Inputs.{lent}

-- W, the front slot, the front number, the carry-over length
abbrev pub state_of : ℕ → ℕ → ℕ → ℕ → OrderedBytes
state_of w slot number carry = record { slot_width = w; front_slot = slot; front_number = number; carry_len = carry }

-- a buffer by its state and the lent lists: marks, lengths, store
abbrev pub buffer_of : OrderedBytes → List Bool → List ℕ → List ℕ → Buffer
buffer_of state marks lengths store = record { state = state; marks = marks; lengths = lengths; store = store }

-- two slots of three bytes, which hold nothing from 100 on; the third three bytes of the store are for carry-over
abbrev pub nothing : Buffer
nothing = buffer_of (state_of 3 0 100 0) (false ∷ false ∷ []) (0 ∷ 0 ∷ []) (lent 9)

-- ---- refusal 12

-- "N, W, store, front slot, slot or carry-over length out of range": no slot, 2,001 slots, W of 0 and of 65,536, a store one byte short and one too long, lengths for another
-- number of slots, a front slot of N, a carry-over of W + 1, a slot's length of W + 1, held or not. "a held number above 2^64 − 2": at the front, behind it, and round the end.
abbrev pub malformed : List Buffer
malformed =
    buffer_of (state_of 3 0 100 0) [] [] (lent 3)
    ∷ buffer_of (state_of 1 0 100 0) (replicate 2001 false) (replicate 2001 0) (lent 2002)
    ∷ buffer_of (state_of 0 0 100 0) (false ∷ false ∷ []) (0 ∷ 0 ∷ []) []
    ∷ buffer_of (state_of 65536 0 100 0) (false ∷ []) (0 ∷ []) (lent 131072)
    ∷ buffer_of (state_of 3 0 100 0) (false ∷ false ∷ []) (0 ∷ 0 ∷ []) (lent 8)
    ∷ buffer_of (state_of 3 0 100 0) (false ∷ false ∷ []) (0 ∷ 0 ∷ []) (lent 10)
    ∷ buffer_of (state_of 3 0 100 0) (false ∷ false ∷ []) (0 ∷ []) (lent 9)
    ∷ buffer_of (state_of 3 0 100 0) (false ∷ false ∷ []) (0 ∷ 0 ∷ 0 ∷ []) (lent 9)
    ∷ buffer_of (state_of 3 2 100 0) (false ∷ false ∷ []) (0 ∷ 0 ∷ []) (lent 9)
    ∷ buffer_of (state_of 3 0 100 4) (false ∷ false ∷ []) (0 ∷ 0 ∷ []) (lent 9)
    ∷ buffer_of (state_of 3 0 100 0) (false ∷ true ∷ []) (0 ∷ 4 ∷ []) (lent 9)
    ∷ buffer_of (state_of 3 0 100 0) (false ∷ false ∷ []) (4 ∷ 0 ∷ []) (lent 9)
    ∷ buffer_of (state_of 3 0 (2 ^ 64 - 1) 0) (true ∷ false ∷ []) (0 ∷ 0 ∷ []) (lent 9)
    ∷ buffer_of (state_of 3 0 (2 ^ 64 - 2) 0) (false ∷ true ∷ []) (0 ∷ 0 ∷ []) (lent 9)
    ∷ buffer_of (state_of 3 1 (2 ^ 64 - 2) 0) (true ∷ true ∷ []) (0 ∷ 0 ∷ []) (lent 9)
    ∷ []

-- ---- `new`, from number 7 on: what is said, and the marks and lengths left
abbrev pub Creates : ℕ → List Bool → List ℕ → List ℕ → Said OrderedBytes → List Bool → List ℕ → Type 0
Creates w marks lengths store said marks_left lengths_left = creating w 7 marks lengths store ≡ record { said = said; marks = marks_left; lengths = lengths_left }

-- "all unchanged"
abbrev pub NotCreated : ℕ → List Bool → List ℕ → List ℕ → Type 0
NotCreated w marks lengths store = Creates w marks lengths store (refuses 12) marks lengths

pub record NewRows : Type 0 where
  -- "N slots (1 to 2,000 ..), each W bytes wide (1 to 65,535), in a lent store of (N + 1) × W bytes"; the slots are empty, whatever stood there
  pub slots_0 : NotCreated 1 [] [] (lent 1)
  pub slots_1 : Creates 1 (true ∷ []) (99 ∷ []) (lent 2) (answers (state_of 1 0 7 0)) (false ∷ []) (0 ∷ [])
  pub slots_2000 : Creates 1 (replicate 2000 true) (lent 2000) (lent 2001) (answers (state_of 1 0 7 0)) (replicate 2000 false) (replicate 2000 0)
  pub slots_2001 : NotCreated 1 (replicate 2001 true) (lent 2001) (lent 2002)
  pub width_0 : NotCreated 0 (true ∷ []) (99 ∷ []) []
  pub width_65535 : Creates 65535 (true ∷ []) (99 ∷ []) (lent 131070) (answers (state_of 65535 0 7 0)) (false ∷ []) (0 ∷ [])
  pub width_65536 : NotCreated 65536 (true ∷ []) (99 ∷ []) (lent 131072)
  pub store_short : NotCreated 3 (true ∷ true ∷ []) (99 ∷ 99 ∷ []) (lent 8)
  pub store_9 : Creates 3 (true ∷ true ∷ []) (99 ∷ 99 ∷ []) (lent 9) (answers (state_of 3 0 7 0)) (false ∷ false ∷ []) (0 ∷ 0 ∷ [])
  pub store_long : NotCreated 3 (true ∷ true ∷ []) (99 ∷ 99 ∷ []) (lent 10)
  pub lengths_short : NotCreated 3 (true ∷ true ∷ []) (99 ∷ []) (lent 9)
  pub lengths_long : NotCreated 3 (true ∷ true ∷ []) (99 ∷ 99 ∷ 99 ∷ []) (lent 9)

-- ---- `set_start_packet_number`
pub record StartRows : Type 0 where
  -- "`set_start_packet_number` with a packet held is 13": at the front, behind it, or an empty one; carry-over alone is no packet held
  pub nothing_held : starting nothing 7 ≡ answers (state_of 3 0 7 0)
  pub last_number : starting nothing (2 ^ 64 - 1) ≡ answers (state_of 3 0 (2 ^ 64 - 1) 0)
  pub carry_over : starting (buffer_of (state_of 3 1 100 2) (false ∷ false ∷ []) (0 ∷ 0 ∷ []) (lent 9)) 7 ≡ answers (state_of 3 1 7 2)
  pub front_held_row : starting (buffer_of (state_of 3 0 100 0) (true ∷ false ∷ []) (2 ∷ 0 ∷ []) (lent 9)) 7 ≡ refuses 13
  pub later_held : starting (buffer_of (state_of 3 0 100 0) (false ∷ true ∷ []) (0 ∷ 2 ∷ []) (lent 9)) 7 ≡ refuses 13
  pub empty_held : starting (buffer_of (state_of 3 0 100 0) (true ∷ false ∷ []) (0 ∷ 0 ∷ []) (lent 9)) 7 ≡ refuses 13
  -- "12 comes first everywhere": some of these hold a packet
  pub each_12 : map (λ b. starting b 7) malformed ≡ replicate 15 (refuses 12)

-- ---- accepting a number with a payload: what is said, and the buffer left; no ack
abbrev pub Accepts : Buffer → ℕ → List ℕ → Buffer → Type 0
Accepts b n payload left = accepting b n payload ≡ record { said = answers tt; ack = none; buffer = left }

-- "all unchanged", and no ack
abbrev pub Refuses : Buffer → ℕ → List ℕ → ℕ → Type 0
Refuses b n payload r = accepting b n payload ≡ record { said = refuses r; ack = none; buffer = b }

-- refused with 5, all unchanged, and an ack: packets, base, bytes
abbrev pub Acks : Buffer → ℕ → List ℕ → ℕ × ℕ × ℕ → Type 0
Acks b n payload ack = accepting b n payload ≡ record { said = refuses 5; ack = some ack; buffer = b }

-- two slots that hold nothing, from a number on
abbrev pub nothing_from : ℕ → Buffer
nothing_from number = buffer_of (state_of 3 0 number 0) (false ∷ false ∷ []) (0 ∷ 0 ∷ []) (lent 9)

-- 5 and 6 held at 100; and nothing held, with slot 1 at the front and a carry-over
abbrev pub front_held : Buffer
front_held = buffer_of (state_of 3 0 100 0) (true ∷ false ∷ []) (2 ∷ 0 ∷ []) (5 ∷ 6 ∷ 99 ∷ 99 ∷ 99 ∷ 99 ∷ 99 ∷ 99 ∷ 99 ∷ [])

abbrev pub second_slot_first : Buffer
second_slot_first = buffer_of (state_of 3 1 100 2) (false ∷ false ∷ []) (3 ∷ 3 ∷ []) (lent 9)

pub record AcceptRows : Type 0 where
  -- a payload goes to its number's slot: its mark, its length, and its bytes from the slot's start on. "No other store bytes change"
  pub front : Accepts nothing 100 (1 ∷ 2 ∷ [])
      (buffer_of (state_of 3 0 100 0) (true ∷ false ∷ []) (2 ∷ 0 ∷ []) (1 ∷ 2 ∷ 99 ∷ 99 ∷ 99 ∷ 99 ∷ 99 ∷ 99 ∷ 99 ∷ []))
  pub behind_held : Accepts front_held 101 (1 ∷ [])
      (buffer_of (state_of 3 0 100 0) (true ∷ true ∷ []) (2 ∷ 1 ∷ []) (5 ∷ 6 ∷ 99 ∷ 1 ∷ 99 ∷ 99 ∷ 99 ∷ 99 ∷ 99 ∷ []))
  pub empty_payload : Accepts second_slot_first 100 [] (buffer_of (state_of 3 1 100 2) (false ∷ true ∷ []) (3 ∷ 0 ∷ []) (lent 9))
  pub round_the_end_row : Accepts second_slot_first 101 (1 ∷ 2 ∷ [])
      (buffer_of (state_of 3 1 100 2) (true ∷ false ∷ []) (2 ∷ 3 ∷ []) (1 ∷ 2 ∷ 99 ∷ 99 ∷ 99 ∷ 99 ∷ 99 ∷ 99 ∷ 99 ∷ []))
  -- "n below the front number, 5": before 11. 02 §3: "Accepting's refusal 5 also gives an ack of that number, count 1"
  pub below : Acks nothing 99 (1 ∷ []) (1, 99, 0)
  pub below_before_long : Acks nothing 99 (replicate 4 1) (1, 99, 0)
  pub below_the_last : Acks (nothing_from (2 ^ 64 - 1)) (2 ^ 64 - 2) (1 ∷ []) (1, 2 ^ 64 - 2, 0)
  -- "n − front at least N, 6": before 9, before 7 where the number N places earlier has its slot, and before 11
  pub distance_1 : Accepts nothing 101 (1 ∷ 2 ∷ [])
      (buffer_of (state_of 3 0 100 0) (false ∷ true ∷ []) (0 ∷ 2 ∷ []) (99 ∷ 99 ∷ 99 ∷ 1 ∷ 2 ∷ 99 ∷ 99 ∷ 99 ∷ 99 ∷ []))
  pub distance_2 : Refuses nothing 102 (1 ∷ []) 6
  pub distance_2_round_the_end : Refuses second_slot_first 102 (1 ∷ []) 6
  pub distance_before_exhausted : Refuses (nothing_from (2 ^ 64 - 3)) (2 ^ 64 - 1) (1 ∷ []) 6
  pub distance_before_held : Refuses front_held 102 (1 ∷ []) 6
  pub distance_before_long : Refuses nothing 102 (replicate 4 1) 6
  -- "n = 2^64 − 1, 9": before 11
  pub exhausted : Refuses (nothing_from (2 ^ 64 - 2)) (2 ^ 64 - 1) (1 ∷ []) 9
  pub exhausted_at_the_front : Refuses (nothing_from (2 ^ 64 - 1)) (2 ^ 64 - 1) (1 ∷ []) 9
  pub exhausted_before_long : Refuses (nothing_from (2 ^ 64 - 2)) (2 ^ 64 - 1) (replicate 4 1) 9
  pub last_number : Accepts (nothing_from (2 ^ 64 - 3)) (2 ^ 64 - 2) (1 ∷ [])
      (buffer_of (state_of 3 0 (2 ^ 64 - 3) 0) (false ∷ true ∷ []) (0 ∷ 1 ∷ []) (99 ∷ 99 ∷ 99 ∷ 1 ∷ 99 ∷ 99 ∷ 99 ∷ 99 ∷ 99 ∷ []))
  -- "slot held, 7": before 11, and by an empty packet too
  pub held : Refuses front_held 100 (5 ∷ 6 ∷ []) 7
  pub held_before_long : Refuses front_held 100 (replicate 4 1) 7
  pub empty_held : Refuses (buffer_of (state_of 3 0 100 0) (true ∷ false ∷ []) (0 ∷ 0 ∷ []) (lent 9)) 100 (1 ∷ []) 7
  -- "payload longer than W, 11"
  pub payload_3 : Accepts nothing 100 (1 ∷ 2 ∷ 3 ∷ []) (buffer_of (state_of 3 0 100 0) (true ∷ false ∷ []) (3 ∷ 0 ∷ []) (1 ∷ 2 ∷ 3 ∷ 99 ∷ 99 ∷ 99 ∷ 99 ∷ 99 ∷ 99 ∷ []))
  pub payload_4 : Refuses nothing 100 (replicate 4 1) 11
  -- "12 comes first everywhere": before 5 and 11
  pub each_12 : map (λ b. accepting b 99 (1 ∷ [])) malformed ≡ map (λ b. record { said = refuses 12; ack = none; buffer = b }) malformed

-- ---- `peek`
pub record PeekRows : Type 0 where
  -- "yes if carry-over or the front slot is held, else 8": an empty packet is held, one behind a hole is not at the front
  pub carry_over : peeking (buffer_of (state_of 3 0 100 1) (false ∷ false ∷ []) (0 ∷ 0 ∷ []) (lent 9)) ≡ answers tt
  pub front_held_row : peeking front_held ≡ answers tt
  pub empty_held : peeking (buffer_of (state_of 3 0 100 0) (true ∷ false ∷ []) (0 ∷ 0 ∷ []) (lent 9)) ≡ answers tt
  pub second_slot_first_row : peeking (buffer_of (state_of 3 1 100 0) (false ∷ true ∷ []) (0 ∷ 2 ∷ []) (lent 9)) ≡ answers tt
  pub nothing_held : peeking nothing ≡ refuses 8
  pub behind_a_hole : peeking (buffer_of (state_of 3 0 100 0) (false ∷ true ∷ []) (0 ∷ 2 ∷ []) (lent 9)) ≡ refuses 8
  pub behind_a_hole_round_the_end : peeking (buffer_of (state_of 3 1 100 0) (true ∷ false ∷ []) (2 ∷ 0 ∷ []) (lent 9)) ≡ refuses 8
  -- 12, and the bounds themselves: a carry-over of W, a slot's length of W, the last slot at the front, 2^64 − 2 held, nothing held from 2^64 − 1 on
  pub each_12 : map peeking malformed ≡ replicate 15 (refuses 12)
  pub carry_over_3 : peeking (buffer_of (state_of 3 1 100 3) (false ∷ false ∷ []) (3 ∷ 3 ∷ []) (lent 9)) ≡ answers tt
  pub last_number_held : peeking (buffer_of (state_of 3 0 (2 ^ 64 - 2) 0) (true ∷ false ∷ []) (3 ∷ 0 ∷ []) (lent 9)) ≡ answers tt
  pub last_number_held_behind : peeking (buffer_of (state_of 3 1 (2 ^ 64 - 3) 0) (true ∷ false ∷ []) (3 ∷ 0 ∷ []) (lent 9)) ≡ refuses 8
  pub no_number_left : peeking (nothing_from (2 ^ 64 - 1)) ≡ refuses 8
