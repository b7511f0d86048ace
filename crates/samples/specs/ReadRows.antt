-- Boundaries of the reads of the receive buffer, `consume` and `consume_bytes`: document 01, "From packets to the reader".
use Rattle.std.specs.Prelude.{ℕ, ◌-◌, ◌^◌, ◌≡◌, true, false, List, [], ◌∷◌, map}
use Rattle.refusal.specs.Said.{answers, refuses}
use Rattle.ordered_bytes.specs.Buffer.{Buffer}
use Rattle.ordered_bytes.specs.Calls.{consuming, consuming_bytes}
use Rattle.samples.specs.Inputs.{lent}
use Rattle.samples.specs.BufferRows.{state_of, buffer_of, nothing, malformed}

-- Two slots of three bytes from 100 on, and three bytes for carry-over: 1 and 2 held at 100, and 3, 4 and 5 at 101.
abbrev pub bytes : List ℕ
bytes = 1 ∷ 2 ∷ 99 ∷ 3 ∷ 4 ∷ 5 ∷ 99 ∷ 99 ∷ 99 ∷ []

abbrev pub both : Buffer
both = buffer_of (state_of 3 0 100 0) (true ∷ true ∷ []) (2 ∷ 3 ∷ []) bytes

-- only 100 held, and only 101
abbrev pub hundred : Buffer
hundred = buffer_of (state_of 3 0 100 0) (true ∷ false ∷ []) (2 ∷ 0 ∷ []) bytes

abbrev pub hole : Buffer
hole = buffer_of (state_of 3 0 100 0) (false ∷ true ∷ []) (0 ∷ 3 ∷ []) bytes

-- 7 and 8 carried over, and with them nothing held, or 100
abbrev pub carried : List ℕ
carried = 1 ∷ 2 ∷ 99 ∷ 3 ∷ 4 ∷ 5 ∷ 7 ∷ 8 ∷ 99 ∷ []

abbrev pub carry : Buffer
carry = buffer_of (state_of 3 0 100 2) (false ∷ false ∷ []) (0 ∷ 0 ∷ []) carried

abbrev pub carry_and_hundred : Buffer
carry_and_hundred = buffer_of (state_of 3 0 100 2) (true ∷ false ∷ []) (2 ∷ 0 ∷ []) carried

-- an empty packet at 100 before 3, 4 and 5; 1 and 2 before an empty packet at 101; empty packets at both
abbrev pub empty_first : Buffer
empty_first = buffer_of (state_of 3 0 100 0) (true ∷ true ∷ []) (0 ∷ 3 ∷ []) bytes

abbrev pub empty_last : Buffer
empty_last = buffer_of (state_of 3 0 100 0) (true ∷ true ∷ []) (2 ∷ 0 ∷ []) bytes

abbrev pub empties : Buffer
empties = buffer_of (state_of 3 0 100 0) (true ∷ true ∷ []) (0 ∷ 0 ∷ []) bytes

-- slot 1 at the front: 3, 4 and 5 at 100, and 1 and 2 at 101
abbrev pub round_the_end : Buffer
round_the_end = buffer_of (state_of 3 1 100 0) (true ∷ true ∷ []) (2 ∷ 3 ∷ []) bytes

-- nothing held, from a slot and a number on, with a carry-over of so many bytes
abbrev pub left : ℕ → ℕ → ℕ → List ℕ → Buffer
left slot number carry store = buffer_of (state_of 3 slot number carry) (false ∷ false ∷ []) (0 ∷ 0 ∷ []) store

-- `consume` with a length and lent bytes: what is said (packets, base, bytes), and the buffer and the bytes left
abbrev pub Reads : Buffer → ℕ → List ℕ → ℕ × ℕ × ℕ → Buffer → List ℕ → Type 0
Reads b len out said after out_left = consuming b len out ≡ record { said = answers said; buffer = after; out = out_left }

-- "all unchanged"
abbrev pub Refuses : Buffer → ℕ → List ℕ → ℕ → Type 0
Refuses b len out r = consuming b len out ≡ record { said = refuses r; buffer = b; out = out }

pub record ConsumeRows : Type 0 where
  -- "10 if the length exceeds the buffer": before 8
  pub length_above_buffer : Refuses both 4 (lent 3) 10
  pub length_before_empty : Refuses nothing 1 [] 10
  -- "held packets from the front while bytes given are fewer than the length"; "A taken slot loses its mark, its length becomes 0"; output bytes past those given stay
  pub one_packet : Reads both 2 (lent 4) (1, 100, 2) (buffer_of (state_of 3 1 101 0) (false ∷ true ∷ []) (0 ∷ 3 ∷ []) bytes) (1 ∷ 2 ∷ 99 ∷ 99 ∷ [])
  pub both_packets : Reads both 5 (lent 5) (2, 100, 5) (left 0 102 0 bytes) (1 ∷ 2 ∷ 3 ∷ 4 ∷ 5 ∷ [])
  pub length_above_held : Reads both 7 (lent 8) (2, 100, 5) (left 0 102 0 bytes) (1 ∷ 2 ∷ 3 ∷ 4 ∷ 5 ∷ 99 ∷ 99 ∷ 99 ∷ [])
  pub up_to_a_hole : Reads hundred 9 (lent 9) (1, 100, 2) (left 1 101 0 bytes) (1 ∷ 2 ∷ 99 ∷ 99 ∷ 99 ∷ 99 ∷ 99 ∷ 99 ∷ 99 ∷ [])
  pub round_the_end_row : Reads round_the_end 5 (lent 5) (2, 100, 5) (left 1 102 0 bytes) (3 ∷ 4 ∷ 5 ∷ 1 ∷ 2 ∷ [])
  pub one_round_the_end : Reads round_the_end 3 (lent 3) (1, 100, 3) (buffer_of (state_of 3 0 101 0) (true ∷ false ∷ []) (2 ∷ 0 ∷ []) bytes) (3 ∷ 4 ∷ 5 ∷ [])
  pub last_number : Reads (buffer_of (state_of 3 0 (2 ^ 64 - 2) 0) (true ∷ false ∷ []) (2 ∷ 0 ∷ []) bytes) 2 (lent 2) (1, 2 ^ 64 - 2, 2) (left 1 (2 ^ 64 - 1) 0 bytes) (1 ∷ 2 ∷ [])
  -- "A packet too long for the rest is split, leaves its slot, counts as taken, and its rest becomes carry-over." "Carry-over begins at the extra W's start"
  pub splits_first : Reads both 1 (lent 1) (1, 100, 1)
      (buffer_of (state_of 3 1 101 1) (false ∷ true ∷ []) (0 ∷ 3 ∷ []) (1 ∷ 2 ∷ 99 ∷ 3 ∷ 4 ∷ 5 ∷ 2 ∷ 99 ∷ 99 ∷ [])) (1 ∷ [])
  pub splits_second : Reads both 3 (lent 3) (2, 100, 3) (left 0 102 2 (1 ∷ 2 ∷ 99 ∷ 3 ∷ 4 ∷ 5 ∷ 4 ∷ 5 ∷ 99 ∷ [])) (1 ∷ 2 ∷ 3 ∷ [])
  pub splits_last_byte : Reads both 4 (lent 4) (2, 100, 4) (left 0 102 1 (1 ∷ 2 ∷ 99 ∷ 3 ∷ 4 ∷ 5 ∷ 5 ∷ 99 ∷ 99 ∷ [])) (1 ∷ 2 ∷ 3 ∷ 4 ∷ [])
  -- "A carry-over longer than the length gives that many bytes and answers (0 packets, base 0, length)", "its rest moved there after each read"
  pub carry_longer : Reads carry 1 (lent 2) (0, 0, 1) (left 0 100 1 (1 ∷ 2 ∷ 99 ∷ 3 ∷ 4 ∷ 5 ∷ 8 ∷ 8 ∷ 99 ∷ [])) (7 ∷ 99 ∷ [])
  pub carry_longer_and_held : Reads carry_and_hundred 1 (lent 1) (0, 0, 1)
      (buffer_of (state_of 3 0 100 1) (true ∷ false ∷ []) (2 ∷ 0 ∷ []) (1 ∷ 2 ∷ 99 ∷ 3 ∷ 4 ∷ 5 ∷ 8 ∷ 8 ∷ 99 ∷ [])) (7 ∷ [])
  -- "Otherwise the carry-over is taken whole, then held packets": a carry-over as long as the length takes no packet. "Base is the front packet's number before the walk, or 0 if none is held."
  pub carry_equal : Reads carry 2 (lent 2) (0, 0, 2) (left 0 100 0 carried) (7 ∷ 8 ∷ [])
  pub carry_equal_and_held : Reads carry_and_hundred 2 (lent 2) (0, 100, 2) (buffer_of (state_of 3 0 100 0) (true ∷ false ∷ []) (2 ∷ 0 ∷ []) carried) (7 ∷ 8 ∷ [])
  pub carry_then_split : Reads carry_and_hundred 3 (lent 3) (1, 100, 3) (left 1 101 1 (1 ∷ 2 ∷ 99 ∷ 3 ∷ 4 ∷ 5 ∷ 2 ∷ 8 ∷ 99 ∷ [])) (7 ∷ 8 ∷ 1 ∷ [])
  pub carry_then_packet : Reads carry_and_hundred 4 (lent 4) (1, 100, 4) (left 1 101 0 carried) (7 ∷ 8 ∷ 1 ∷ 2 ∷ [])
  pub carry_alone : Reads carry 9 (lent 9) (0, 0, 2) (left 0 100 0 carried) (7 ∷ 8 ∷ 99 ∷ 99 ∷ 99 ∷ 99 ∷ 99 ∷ 99 ∷ 99 ∷ [])
  pub carry_before_a_hole : Reads (buffer_of (state_of 3 0 100 2) (false ∷ true ∷ []) (0 ∷ 3 ∷ []) carried) 5 (lent 5) (0, 0, 2)
      (buffer_of (state_of 3 0 100 0) (false ∷ true ∷ []) (0 ∷ 3 ∷ []) carried) (7 ∷ 8 ∷ 99 ∷ 99 ∷ 99 ∷ [])
  -- "If no byte was given: 8, though empty packets met on the way are taken."
  pub nothing_held : Refuses nothing 1 (lent 1) 8
  pub behind_a_hole : Refuses hole 1 (lent 1) 8
  pub length_0 : Refuses both 0 (lent 1) 8
  pub length_0_nothing_held : Refuses nothing 0 [] 8
  pub length_0_empty_packet : Refuses empties 0 [] 8
  pub takes_empty_packets : consuming empties 1 (lent 1) ≡ record { said = refuses 8; buffer = left 0 102 0 bytes; out = lent 1 }
  pub takes_one_empty_packet : consuming (buffer_of (state_of 3 0 100 0) (true ∷ false ∷ []) (0 ∷ 0 ∷ []) bytes) 1 (lent 1)
      ≡ record { said = refuses 8; buffer = left 1 101 0 bytes; out = lent 1 }
  -- .. and where bytes were given, empty packets met while they were too few
  pub empty_before : Reads empty_first 3 (lent 3) (2, 100, 3) (left 0 102 0 bytes) (3 ∷ 4 ∷ 5 ∷ [])
  pub empty_behind_stays : Reads empty_last 2 (lent 2) (1, 100, 2) (buffer_of (state_of 3 1 101 0) (false ∷ true ∷ []) (0 ∷ 0 ∷ []) bytes) (1 ∷ 2 ∷ [])
  pub empty_behind_goes : Reads empty_last 3 (lent 3) (2, 100, 2) (left 0 102 0 bytes) (1 ∷ 2 ∷ 99 ∷ [])
  pub empty_after_carry : Reads (buffer_of (state_of 3 0 100 2) (true ∷ false ∷ []) (0 ∷ 0 ∷ []) carried) 3 (lent 3) (1, 100, 2) (left 1 101 0 carried) (7 ∷ 8 ∷ 99 ∷ [])
  -- "12 comes first everywhere": before 10 and 8
  pub each_12 : map (λ b. consuming b 1 []) malformed ≡ map (λ b. record { said = refuses 12; buffer = b; out = [] }) malformed

-- `consume_bytes` with a limit, lent bytes and a lent list: what is said (packets, base, bytes; pieces), and the buffer, the bytes and the list left
abbrev pub ReadsPieces : Buffer → ℕ → List ℕ → List ℕ → ℕ × ℕ × ℕ → ℕ → Buffer → List ℕ → List ℕ → Type 0
ReadsPieces b limit out list said pieces after out_left list_left =
    consuming_bytes b limit out list ≡ record { said = answers (said, pieces); buffer = after; out = out_left; list = list_left }

-- "all unchanged"
abbrev pub RefusesPieces : Buffer → ℕ → List ℕ → List ℕ → ℕ → Type 0
RefusesPieces b limit out list r = consuming_bytes b limit out list ≡ record { said = refuses r; buffer = b; out = out; list = list }

pub record ConsumeBytesRows : Type 0 where
  -- "held packets while pieces are fewer than the limit"; "Pieces are copied to a lent buffer, their lengths to a lent list"
  pub one_piece : ReadsPieces both 1 (lent 3) (lent 2) (1, 100, 2) 1 (buffer_of (state_of 3 1 101 0) (false ∷ true ∷ []) (0 ∷ 3 ∷ []) bytes) (1 ∷ 2 ∷ 99 ∷ []) (2 ∷ 99 ∷ [])
  pub two_pieces : ReadsPieces both 2 (lent 5) (lent 2) (2, 100, 5) 2 (left 0 102 0 bytes) (1 ∷ 2 ∷ 3 ∷ 4 ∷ 5 ∷ []) (2 ∷ 3 ∷ [])
  pub limit_above_held : ReadsPieces both 9 (lent 6) (lent 3) (2, 100, 5) 2 (left 0 102 0 bytes) (1 ∷ 2 ∷ 3 ∷ 4 ∷ 5 ∷ 99 ∷ []) (2 ∷ 3 ∷ 99 ∷ [])
  pub up_to_a_hole : ReadsPieces hundred 2 (lent 2) (lent 1) (1, 100, 2) 1 (left 1 101 0 bytes) (1 ∷ 2 ∷ []) (2 ∷ [])
  pub round_the_end_row : ReadsPieces round_the_end 2 (lent 5) (lent 2) (2, 100, 5) 2 (left 1 102 0 bytes) (3 ∷ 4 ∷ 5 ∷ 1 ∷ 2 ∷ []) (3 ∷ 2 ∷ [])
  pub last_number : ReadsPieces (buffer_of (state_of 3 0 (2 ^ 64 - 2) 0) (true ∷ false ∷ []) (2 ∷ 0 ∷ []) bytes) 1 (lent 2) (lent 1)
      (1, 2 ^ 64 - 2, 2) 1 (left 1 (2 ^ 64 - 1) 0 bytes) (1 ∷ 2 ∷ []) (2 ∷ [])
  -- "carry-over is one piece"; "carry-over goes even at limit 0". "The answer is `consume`'s": base is the front packet's number, or 0 if none is held
  pub carry_limit_0 : ReadsPieces carry 0 (lent 3) (lent 2) (0, 0, 2) 1 (left 0 100 0 carried) (7 ∷ 8 ∷ 99 ∷ []) (2 ∷ 99 ∷ [])
  pub carry_limit_0_and_held : ReadsPieces carry_and_hundred 0 (lent 2) (lent 1) (0, 100, 2) 1
      (buffer_of (state_of 3 0 100 0) (true ∷ false ∷ []) (2 ∷ 0 ∷ []) carried) (7 ∷ 8 ∷ []) (2 ∷ [])
  pub carry_limit_1 : ReadsPieces carry_and_hundred 1 (lent 2) (lent 1) (0, 100, 2) 1
      (buffer_of (state_of 3 0 100 0) (true ∷ false ∷ []) (2 ∷ 0 ∷ []) carried) (7 ∷ 8 ∷ []) (2 ∷ [])
  pub carry_limit_2 : ReadsPieces carry_and_hundred 2 (lent 4) (lent 2) (1, 100, 4) 2 (left 1 101 0 carried) (7 ∷ 8 ∷ 1 ∷ 2 ∷ []) (2 ∷ 2 ∷ [])
  -- an empty packet is a piece
  pub empty_piece : ReadsPieces empties 1 [] (lent 1) (1, 100, 0) 1 (buffer_of (state_of 3 1 101 0) (false ∷ true ∷ []) (0 ∷ 0 ∷ []) bytes) [] (0 ∷ [])
  pub empty_and_filled : ReadsPieces empty_first 2 (lent 3) (lent 2) (2, 100, 3) 2 (left 0 102 0 bytes) (3 ∷ 4 ∷ 5 ∷ []) (0 ∷ 3 ∷ [])
  -- "10 if either is short"
  pub bytes_short : RefusesPieces both 2 (lent 4) (lent 2) 10
  pub list_short : RefusesPieces both 2 (lent 5) (lent 1) 10
  pub carry_bytes_short : RefusesPieces carry 0 (lent 1) (lent 1) 10
  pub carry_list_short : RefusesPieces carry 0 (lent 2) [] 10
  pub empty_piece_list_short : RefusesPieces empties 1 (lent 3) [] 10
  -- "No piece: 8."
  pub nothing_held : RefusesPieces nothing 2 (lent 2) (lent 2) 8
  pub behind_a_hole : RefusesPieces hole 2 (lent 2) (lent 2) 8
  pub limit_0 : RefusesPieces both 0 (lent 5) (lent 2) 8
  pub limit_0_empty_packet : RefusesPieces empties 0 [] [] 8
  pub no_room_needed : RefusesPieces nothing 2 [] [] 8
  -- "12 comes first everywhere": before 10 and 8
  pub each_12 : map (λ b. consuming_bytes b 1 [] []) malformed ≡ map (λ b. record { said = refuses 12; buffer = b; out = []; list = [] }) malformed
