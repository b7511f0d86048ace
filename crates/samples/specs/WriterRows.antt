-- Boundaries of packing data, of a datagram's payload bytes and of a FIN's number: document 01, "From the queue to a datagram", "From a datagram to packets", "Closing".
use Rattle.std.specs.Prelude.{ℕ, ◌-◌, ◌^◌, ◌≡◌, List, [], ◌∷◌, ◌++◌, replicate}
use Rattle.refusal.specs.Said.{answers, refuses}
use Rattle.writer.specs.declared.DataPacked.{DataPacked}
use Rattle.writer.specs.Packing.{Queue, dequeued}
use Rattle.writer.specs.Sending.{consumes_data}
use Rattle.writer.specs.PayloadBytes.{payload_bytes}
use Rattle.writer.specs.Reserve.{reserving}
use Rattle.outstanding.specs.Outstanding.{Store}
use Rattle.samples.specs.Inputs.{lent, head_of, head, kept, nothing_kept}

-- ---- packing data, from source 1 to destination 2

abbrev pub queue : List ℕ → List ℕ → Queue
queue bytes lengths = record { bytes = bytes; lengths = lengths }

-- the answer: q, p, the next number, the entries removed, the bytes cut from the first entry left
abbrev pub answer : ℕ → ℕ → ℕ → ℕ → ℕ → DataPacked
answer q p next removed cut = record { bytes = q; packets = p; next_packet_num = next; entries_removed = removed; bytes_cut = cut }

-- a queue packed from a number on into lent bytes, with a store: the answer, and the bytes and the store left
abbrev pub Sends : Store → Queue → ℕ → List ℕ → DataPacked → List ℕ → Store → Type 0
Sends k q next out said left after = consumes_data k q next 1 2 out ≡ record { said = answers said; out = left; store = after }

-- "all unchanged"
abbrev pub Unsent : Store → Queue → ℕ → List ℕ → ℕ → Type 0
Unsent k q next out r = consumes_data k q next 1 2 out ≡ record { said = refuses r; out = out; store = k }

-- so many bytes in such entries, packed from a number on into 15,200 bytes, with a store: the answer, and the queue left
abbrev pub TakesWith : Store → ℕ → ℕ → List ℕ → DataPacked → ℕ → List ℕ → Type 0
TakesWith k next total lengths said bytes_left lengths_left =
    ((consumes_data k (queue (replicate total 5) lengths) next 1 2 (lent 15200)).said ≡ answers said)
    × (dequeued said (queue (replicate total 5) lengths) ≡ queue (replicate bytes_left 5) lengths_left)

-- the same with an empty store, the last from number 7 on
abbrev pub Packs : Queue → ℕ → List ℕ → DataPacked → List ℕ → Store → Type 0
Packs = Sends nothing_kept

abbrev pub Refuses : Queue → ℕ → List ℕ → ℕ → Type 0
Refuses = Unsent nothing_kept

abbrev pub Takes : ℕ → List ℕ → DataPacked → ℕ → List ℕ → Type 0
Takes = TakesWith nothing_kept 7

-- one byte in one entry, and the packet that it makes with number 7
abbrev pub one_byte : Queue
one_byte = queue (5 ∷ []) (1 ∷ [])

abbrev pub one_packet : List ℕ
one_packet = head 3 1 7 ++ (5 ∷ [])

-- its bytes with number 2^64 − 2
abbrev pub last_packet : List ℕ
last_packet = 3 ∷ 0 ∷ 1 ∷ 0 ∷ 0 ∷ 0 ∷ 0 ∷ 1 ∷ 0 ∷ 0 ∷ 0 ∷ 2 ∷ 255 ∷ 255 ∷ 255 ∷ 255 ∷ 255 ∷ 255 ∷ 255 ∷ 254 ∷ 5 ∷ []

-- 1,501 bytes in two entries, and the two packets that they make; 1,500 is 5 * 256 + 220
abbrev pub two_entries : Queue
two_entries = queue (replicate 1500 5 ++ (6 ∷ [])) (1000 ∷ 501 ∷ [])

abbrev pub full_packet : ℕ → ℕ → List ℕ
full_packet number byte = head_of 3 5 220 number ++ replicate 1500 byte

abbrev pub two_packets : List ℕ
two_packets = full_packet 7 5 ++ head 3 1 8 ++ (6 ∷ [])

-- 15,000 bytes in two entries, and the ten packets that they make
abbrev pub ten_entries : Queue
ten_entries = queue (replicate 7500 5 ++ replicate 7500 6) (7500 ∷ 7500 ∷ [])

abbrev pub ten_packets : List ℕ
ten_packets =
    full_packet 7 5 ++ full_packet 8 5 ++ full_packet 9 5 ++ full_packet 10 5 ++ full_packet 11 5
    ++ full_packet 12 6 ++ full_packet 13 6 ++ full_packet 14 6 ++ full_packet 15 6 ++ full_packet 16 6

pub record PackingRows : Type 0 where
  -- "lengths not adding up to the bytes": 12
  pub lengths_below : Refuses (queue (5 ∷ 6 ∷ []) (1 ∷ [])) 7 (lent 30) 12
  pub lengths_above : Refuses (queue (5 ∷ 6 ∷ []) (1 ∷ 2 ∷ [])) 7 (lent 30) 12
  pub bytes_in_no_entry : Refuses (queue (5 ∷ []) []) 7 (lent 30) 12
  pub entry_of_no_bytes : Refuses (queue [] (1 ∷ [])) 7 (lent 30) 12
  -- "Checks in order: 12, 9 (next number + p above 2^64 − 1), 10."
  pub malformed_before_number : Refuses (queue (5 ∷ 6 ∷ []) (1 ∷ [])) (2 ^ 64 - 1) (lent 30) 12
  pub malformed_before_room : Refuses (queue (5 ∷ 6 ∷ []) (1 ∷ [])) 7 [] 12
  pub number_before_room : Refuses one_byte (2 ^ 64 - 1) (lent 20) 9
  pub last_number : Packs one_byte (2 ^ 64 - 2) (lent 21) (answer 1 1 (2 ^ 64 - 1) 1 0) last_packet (kept ((2 ^ 64 - 2) ∷ []) (1 ∷ []) last_packet)
  pub no_number : Refuses one_byte (2 ^ 64 - 1) (lent 21) 9
  pub last_two_numbers : (consumes_data nothing_kept two_entries (2 ^ 64 - 3) 1 2 (lent 1541)).said ≡ answers (answer 1501 2 (2 ^ 64 - 1) 2 0)
  pub one_number_of_two : Refuses two_entries (2 ^ 64 - 2) (lent 1541) 9
  pub no_number_needed : Packs (queue [] (0 ∷ [])) (2 ^ 64 - 1) [] (answer 0 0 (2 ^ 64 - 1) 1 0) [] nothing_kept
  -- 10, an output that the packets do not fit: "written from the start of the lent output, whose other bytes stay"
  pub room_20 : Refuses one_byte 7 (lent 20) 10
  pub room_21 : Packs one_byte 7 (lent 21) (answer 1 1 8 1 0) one_packet (kept (7 ∷ []) (1 ∷ []) one_packet)
  pub room_22 : Packs one_byte 7 (lent 22) (answer 1 1 8 1 0) (one_packet ++ (99 ∷ [])) (kept (7 ∷ []) (1 ∷ []) one_packet)
  pub room_1540 : Refuses two_entries 7 (lent 1540) 10
  pub room_1543 : Packs two_entries 7 (lent 1543) (answer 1501 2 9 2 0) (two_packets ++ (99 ∷ 99 ∷ [])) (kept (7 ∷ 8 ∷ []) (1500 ∷ 1 ∷ []) two_packets)
  pub room_15199 : Refuses ten_entries 7 (lent 15199) 10
  pub room_15200 : Packs ten_entries 7 (lent 15200) (answer 15000 10 17 2 0) ten_packets
      (kept (7 ∷ 8 ∷ 9 ∷ 10 ∷ 11 ∷ 12 ∷ 13 ∷ 14 ∷ 15 ∷ 16 ∷ []) (replicate 10 1500) ten_packets)
  -- "Every payload is 1,500 bytes, but the last holds what remains of q; none is empty."
  pub total_1 : Takes 1 (1 ∷ []) (answer 1 1 8 1 0) 0 []
  pub total_1500 : Takes 1500 (1500 ∷ []) (answer 1500 1 8 1 0) 0 []
  pub total_1501 : Takes 1501 (1501 ∷ []) (answer 1501 2 9 1 0) 0 []
  pub total_3000 : Takes 3000 (3000 ∷ []) (answer 3000 2 9 1 0) 0 []
  -- "If T is below 15,000, all entries go, empty ones too."
  pub no_entry : Packs (queue [] []) 7 [] (answer 0 0 7 0 0) [] nothing_kept
  pub empty_entries : Packs (queue [] (0 ∷ 0 ∷ [])) 7 (lent 30) (answer 0 0 7 2 0) (lent 30) nothing_kept
  pub total_14999 : Takes 14999 (0 ∷ 14999 ∷ 0 ∷ 0 ∷ []) (answer 14999 10 17 4 0) 0 []
  -- "Otherwise the entry with the last byte taken goes if used up, and all later ones stay."
  pub total_15000 : Takes 15000 (15000 ∷ 0 ∷ 0 ∷ []) (answer 15000 10 17 1 0) 0 (0 ∷ 0 ∷ [])
  pub empty_before : Takes 15000 (0 ∷ 15000 ∷ 0 ∷ []) (answer 15000 10 17 2 0) 0 (0 ∷ [])
  pub empty_between : Takes 15000 (14999 ∷ 0 ∷ 1 ∷ 0 ∷ []) (answer 15000 10 17 3 0) 0 (0 ∷ [])
  pub used_up : Takes 15005 (7500 ∷ 7500 ∷ 0 ∷ 5 ∷ []) (answer 15000 10 17 2 0) 5 (0 ∷ 5 ∷ [])
  pub cut_by_one : Takes 15001 (14999 ∷ 2 ∷ 0 ∷ []) (answer 15000 10 17 1 1) 1 (1 ∷ 0 ∷ [])
  pub cut_behind_empty : Takes 20000 (0 ∷ 20000 ∷ []) (answer 15000 10 17 1 15000) 5000 (5000 ∷ [])

-- ---- the payload bytes in a datagram

pub record PayloadBytesRows : Type 0 where
  -- "adds the fields of all packets of any type": an ack's, and one of an unknown type
  pub two_packets_row : payload_bytes (head 3 2 7 ++ (1 ∷ 2 ∷ []) ++ head 3 1 8 ++ (3 ∷ [])) ≡ 3
  pub any_type : payload_bytes (head 4 3 9 ++ (1 ∷ 2 ∷ 3 ∷ []) ++ head 15 2 7 ++ (4 ∷ 5 ∷ [])) ≡ 5
  pub empty_goes_on : payload_bytes (head 3 0 7 ++ head 3 1 8 ++ (3 ∷ [])) ≡ 1
  -- "stopping where header or payload would run past the end": a payload to the very end counts, one byte short does not
  pub no_byte : payload_bytes [] ≡ 0
  pub header_short : payload_bytes (3 ∷ 0 ∷ replicate 17 0) ≡ 0
  pub payload_short : payload_bytes (head 3 2 7 ++ (1 ∷ [])) ≡ 0
  pub second_header_short : payload_bytes (head 3 1 7 ++ (5 ∷ []) ++ (3 ∷ 0 ∷ 0 ∷ [])) ≡ 1
  pub second_payload_short : payload_bytes (head 3 1 7 ++ (5 ∷ []) ++ head 3 2 8 ++ (1 ∷ [])) ≡ 1
  pub ack_payload_short : payload_bytes (head 4 3 9 ++ (1 ∷ 2 ∷ [])) ≡ 0
  -- "and never refuses": not even 65,508 bytes, which no parser reads
  pub bytes_65508 : payload_bytes (head_of 3 255 208 7 ++ replicate 65488 0) ≡ 65488

-- ---- a FIN's number

pub record ReserveRows : Type 0 where
  -- "a FIN's number is the next packet number, which then rises by 1 (9 at 2^64 − 1)": the number, and the next one
  pub from_0 : reserving 0 ≡ answers (0, 1)
  pub from_7 : reserving 7 ≡ answers (7, 8)
  pub last_number : reserving (2 ^ 64 - 2) ≡ answers (2 ^ 64 - 2, 2 ^ 64 - 1)
  pub no_number : reserving (2 ^ 64 - 1) ≡ refuses 9
