-- Boundaries of a packet alone and of both parsers: document 01, "The header, last leaf" and "From a datagram to packets", with the reading limit of document 02 §1.
use Rattle.std.specs.Prelude.{ℕ, ◌-◌, ◌*◌, ◌/◌, ◌≡◌, false, List, [], ◌∷◌, ◌++◌, replicate}
use Rattle.refusal.specs.Said.{Said, answers, refuses, refuses_at}
use Rattle.header.specs.declared.PacketType.TheVariants.{UnencryptedData, Ack, FinAck}
use Rattle.header.specs.declared.BluefinHeader.{BluefinHeader}
use Rattle.packet.specs.Packet.{serialises_into, deserialises, payload_of}
use Rattle.packet.specs.Datagram.{reading_limit, parses, parses_into}
use Rattle.samples.specs.Inputs.{Leaves, lent, security, header, head_of, head}

-- ---- a packet alone

-- a data header with a field
abbrev pub data_with : ℕ → BluefinHeader
data_with field = header 0 UnencryptedData field (security false 0) 1 2 7

-- a packet by its header and payload, written to lent bytes: what is said, and the bytes left
abbrev pub WritesPacket : BluefinHeader → List ℕ → List ℕ → Said ℕ → List ℕ → Type 0
WritesPacket h payload buf said left = Leaves (serialises_into (record { header = h; payload = payload }) buf) said left

pub record PacketRows : Type 0 where
  -- "buffer short: 10", for the payload too. "Writing answers the bytes written; those after them stay."
  pub writes_22 : WritesPacket (data_with 2) (1 ∷ 2 ∷ []) (lent 22) (answers 22) (head 3 2 7 ++ (1 ∷ 2 ∷ []))
  pub writes_21 : WritesPacket (data_with 2) (1 ∷ 2 ∷ []) (lent 21) (refuses 10) (lent 21)
  pub writes_23 : WritesPacket (data_with 2) (1 ∷ 2 ∷ []) (lent 23) (answers 22) (head 3 2 7 ++ (1 ∷ 2 ∷ 99 ∷ []))
  pub writes_header_alone : WritesPacket (header 0 Ack 3 (security false 0) 1 2 9) [] (lent 20) (answers 20) (head 4 3 9)
  pub writes_header_alone_short : WritesPacket (header 0 Ack 3 (security false 0) 1 2 9) [] (lent 19) (refuses 10) (lent 19)
  -- "A packet's field isn't checked against its payload on writing."
  pub field_below : WritesPacket (data_with 0) (1 ∷ 2 ∷ []) (lent 22) (answers 22) (head 3 0 7 ++ (1 ∷ 2 ∷ []))
  pub field_above : WritesPacket (data_with 9) (1 ∷ 2 ∷ []) (lent 22) (answers 22) (head 3 9 7 ++ (1 ∷ 2 ∷ []))
  -- "Writing version above 15 or mask above 127: 11; then buffer short: 10."
  pub version_15 : WritesPacket (header 15 UnencryptedData 1 (security false 127) 1 2 7) (8 ∷ []) (lent 21) (answers 21)
      (243 ∷ 0 ∷ 1 ∷ 127 ∷ 0 ∷ 0 ∷ 0 ∷ 1 ∷ 0 ∷ 0 ∷ 0 ∷ 2 ∷ 0 ∷ 0 ∷ 0 ∷ 0 ∷ 0 ∷ 0 ∷ 0 ∷ 7 ∷ 8 ∷ [])
  pub version_16 : WritesPacket (header 16 UnencryptedData 1 (security false 0) 1 2 7) (8 ∷ []) (lent 21) (refuses 11) (lent 21)
  pub mask_128 : WritesPacket (header 0 UnencryptedData 1 (security false 128) 1 2 7) (8 ∷ []) (lent 21) (refuses 11) (lent 21)
  pub version_before_room : WritesPacket (header 16 UnencryptedData 1 (security false 0) 1 2 7) (8 ∷ []) (lent 20) (refuses 11) (lent 20)
  pub mask_before_room : WritesPacket (header 0 UnencryptedData 1 (security false 128) 1 2 7) (8 ∷ []) (lent 20) (refuses 11) (lent 20)
  -- "A packet read alone .. is a header and all bytes after it; under 20 bytes: 1." The field is not looked at; "Types 7 to 15 are refusal 4", after the length.
  pub reads_no_byte : deserialises [] ≡ refuses_at 1 0
  pub reads_19 : deserialises (replicate 19 0) ≡ refuses_at 1 0
  pub reads_20 : deserialises (head 3 2 7) ≡ answers (data_with 2)
  pub reads_25 : deserialises (head 3 2 7 ++ replicate 5 8) ≡ answers (data_with 2)
  pub reads_type_6 : deserialises (6 ∷ replicate 19 0) ≡ answers (header 0 FinAck 0 (security false 0) 0 0 0)
  pub reads_type_7 : deserialises (7 ∷ replicate 19 0) ≡ refuses_at 4 0
  pub reads_type_15 : deserialises (15 ∷ replicate 24 0) ≡ refuses_at 4 0
  pub type_7_in_19 : deserialises (7 ∷ replicate 18 0) ≡ refuses_at 1 0
  -- "all bytes after it", which `payload_of` gives
  pub bytes_after : payload_of (head 3 2 7 ++ replicate 5 8) ≡ replicate 5 8
  pub no_byte_after : payload_of (head 3 2 7) ≡ []

-- ---- both parsers

-- what both parsers say of a datagram and an index, and the index that `from_bytes` leaves, and `from_bytes_into`
abbrev pub Parses : List ℕ → List ℕ → Said ℕ → List ℕ → List ℕ → Type 0
Parses datagram index said left left_into = Leaves (parses datagram index) said left × Leaves (parses_into datagram index) said left_into

-- both leave the same
abbrev pub BothParse : List ℕ → List ℕ → Said ℕ → List ℕ → Type 0
BothParse datagram index said left = Parses datagram index said left left

-- an index of three cells, and none
abbrev pub three : List ℕ
three = lent 6

-- an ack of field 3: a packet of 20 bytes
abbrev pub ack : List ℕ
ack = head 4 3 9

-- data with 2 bytes: a packet of 22 bytes
abbrev pub two : List ℕ
two = head 3 2 7 ++ (1 ∷ 2 ∷ [])

-- a header of an unknown type
abbrev pub unknown : List ℕ
unknown = head 7 0 7

-- one data packet of 65,507 bytes: its payload's 65,487 are 255 * 256 + 207
abbrev pub longest : List ℕ
longest = head_of 3 255 207 7 ++ replicate 65487 0

-- the longest datagram, and one byte more
pub record LongestRows : Type 0 where
  -- 02 §1: "IPv4, whose total length of 65,535 includes at least 20 header bytes, then UDP's 8"
  pub limit : reading_limit ≡ 65535 - 20 - 8
  -- the numbers of an index that has room for every datagram, as include/bluefin.h has it (`room_enough` of packet/proofs/Index.antt): packets have 20 bytes or more
  pub room : reading_limit / 20 * 2 ≡ 6550
  pub bytes_65507 : BothParse longest three (answers 1) (0 ∷ 65487 ∷ 99 ∷ 99 ∷ 99 ∷ 99 ∷ [])
  -- "11 covers 65,508 and up": a packet to the very end, which 01 read, as it did 65,527 bytes
  pub bytes_65508 : BothParse (head_of 3 255 208 7 ++ replicate 65488 0) three (refuses 11) three
  pub bytes_65527 : BothParse (head_of 3 255 227 7 ++ replicate 65507 0) three (refuses 11) three
  -- before 3 (a byte too many), 4 (type 7), 2 (field 65,535) and 10 (no cell); 1 is under 20 bytes and meets it nowhere
  pub too_long_before_tail : BothParse (longest ++ (0 ∷ [])) three (refuses 11) three
  pub too_long_before_type : BothParse (head_of 7 0 0 7 ++ replicate 65488 0) three (refuses 11) three
  pub too_long_before_payload : BothParse (head_of 3 255 255 7 ++ replicate 65488 0) three (refuses 11) three
  pub too_long_before_cell : BothParse (longest ++ (0 ∷ [])) [] (refuses 11) []

pub record ParserRows : Type 0 where
  pub longest_ones : LongestRows
  -- "Then under 20 bytes: 1": before 4 and 10
  pub no_byte : BothParse [] three (refuses_at 1 0) three
  pub bytes_19 : BothParse (replicate 19 0) three (refuses_at 1 0) three
  pub short_before_type : BothParse (7 ∷ replicate 18 0) three (refuses_at 1 0) three
  pub short_before_cell : BothParse (replicate 19 0) [] (refuses_at 1 0) []
  pub bytes_20 : BothParse ack three (answers 1) (0 ∷ 0 ∷ 99 ∷ 99 ∷ 99 ∷ 99 ∷ [])
  -- "Types 0, 1, 2, 4, 5, 6 have no payload, whatever the field says." "Types 7 to 15 are refusal 4"
  pub types_alone : BothParse (head 0 9 7 ++ head 1 9 7 ++ head 2 9 7 ++ head_of 4 255 255 7 ++ head 5 9 7 ++ head 6 9 7) (lent 12)
      (answers 6) (0 ∷ 0 ∷ 20 ∷ 0 ∷ 40 ∷ 0 ∷ 60 ∷ 0 ∷ 80 ∷ 0 ∷ 100 ∷ 0 ∷ [])
  pub type_7 : BothParse unknown three (refuses_at 4 0) three
  pub type_15 : BothParse (head 15 0 7) three (refuses_at 4 0) three
  -- "refusal 2 if cursor + 20, or cursor + 19 + field, reaches the length or more": a payload to the very end is read, one byte short is 2
  pub to_the_end : BothParse two three (answers 1) (0 ∷ 2 ∷ 99 ∷ 99 ∷ 99 ∷ 99 ∷ [])
  pub one_byte_short : BothParse (head 3 2 7 ++ (1 ∷ [])) three (refuses_at 2 0) three
  pub field_above : BothParse (head_of 3 255 255 7 ++ (1 ∷ 2 ∷ [])) three (refuses_at 2 0) three
  pub second_to_the_end : BothParse (two ++ two) three (answers 2) (0 ∷ 2 ∷ 22 ∷ 2 ∷ 99 ∷ 99 ∷ [])
  pub second_short : Parses (two ++ head 3 2 7 ++ (1 ∷ [])) three (refuses_at 2 22) three (0 ∷ 2 ∷ 99 ∷ 99 ∷ 99 ∷ 99 ∷ [])
  pub second_empty : Parses (two ++ head 3 0 8) three (refuses_at 2 22) three (0 ∷ 2 ∷ 99 ∷ 99 ∷ 99 ∷ 99 ∷ [])
  -- "One to 19 bytes at the end are 3", with the cursor; a data packet of field 0 before a tail is sound
  pub tail_1 : Parses (ack ++ (7 ∷ [])) three (refuses_at 3 20) three (0 ∷ 0 ∷ 99 ∷ 99 ∷ 99 ∷ 99 ∷ [])
  pub tail_19 : Parses (two ++ (7 ∷ replicate 18 0)) three (refuses_at 3 22) three (0 ∷ 2 ∷ 99 ∷ 99 ∷ 99 ∷ 99 ∷ [])
  pub empty_before_tail : Parses (head 3 0 7 ++ (1 ∷ [])) three (refuses_at 3 20) three (0 ∷ 0 ∷ 99 ∷ 99 ∷ 99 ∷ 99 ∷ [])
  -- "Refusals 1 to 4 also give the cursor": an unknown type after two packets
  pub type_7_later : Parses (two ++ ack ++ unknown) three (refuses_at 4 42) three (0 ∷ 2 ∷ 22 ∷ 0 ∷ 99 ∷ 99 ∷ [])
  -- "Each packet is written to a lent index, from its start, as header offset and payload length ..; later cells stay."
  pub three_packets : BothParse (two ++ ack ++ two) (lent 7) (answers 3) (0 ∷ 2 ∷ 22 ∷ 0 ∷ 42 ∷ 2 ∷ 99 ∷ [])
  -- "Where the next cell is missing: 10, after that packet's other checks." A fault is said before the missing cell of its own packet ..
  pub type_before_cell : BothParse unknown [] (refuses_at 4 0) []
  pub payload_before_cell : BothParse (head 3 2 7) [] (refuses_at 2 0) []
  pub later_type_before_cell : Parses (ack ++ unknown) (lent 2) (refuses_at 4 20) (lent 2) (0 ∷ 0 ∷ [])
  pub later_payload_before_cell : Parses (ack ++ head 3 2 7) (lent 2) (refuses_at 2 20) (lent 2) (0 ∷ 0 ∷ [])
  pub tail_before_cell : Parses (ack ++ (7 ∷ [])) (lent 2) (refuses_at 3 20) (lent 2) (0 ∷ 0 ∷ [])
  -- .. and the missing cell of a sound packet before a fault further on. "10 in `from_bytes_into` keeps the index so far."
  pub no_cell : BothParse ack [] (refuses 10) []
  pub cell_before_later_type : BothParse (ack ++ unknown) [] (refuses 10) []
  pub cell_before_tail : BothParse (ack ++ (7 ∷ [])) [] (refuses 10) []
  pub second_cell_missing : Parses (two ++ ack) (lent 2) (refuses 10) (lent 2) (0 ∷ 2 ∷ [])
  pub second_cell_before_later_payload : Parses (two ++ ack ++ head 3 2 7) (lent 2) (refuses 10) (lent 2) (0 ∷ 2 ∷ [])
  -- a cell is two numbers: an index of three has one
  pub half_a_cell : Parses (two ++ ack) (lent 3) (refuses 10) (lent 3) (0 ∷ 2 ∷ 99 ∷ [])
  pub less_than_a_cell : BothParse ack (lent 1) (refuses 10) (lent 1)
