-- Document 01, "Bench samples": the starred lines as one table, a row for each, in the definitions that the calls' promises cite.
-- proofs/Samples.antt proves the table by one statement.
use Rattle.std.specs.Prelude.{ℕ, ◌+◌, ◌*◌, ◌≡◌, true, false, List, [], ◌∷◌, ◌++◌, map, replicate}
use Rattle.refusal.specs.Said.{Said, answers, refuses, refuses_at}
use Rattle.header.specs.Header.{header_bytes, plain_header, serialises_security, serialises_into, deserialises}
use Rattle.header.specs.declared.PacketType.{PacketType}
use Rattle.header.specs.declared.PacketType.TheVariants.{UnencryptedData, Ack}
use Rattle.header.specs.declared.BluefinHeader.{BluefinHeader}
use Rattle.packet.specs.Packet.{Packet}
use Rattle.packet.specs.Datagram.{parses, listed}
use Rattle.ring_buffer.specs.declared.AckData.{AckData}
use Rattle.ring_buffer.specs.declared.RingBuffer.{RingBuffer}
use Rattle.writer.specs.Packing.{Queue, dequeued}
use Rattle.writer.specs.Sending.{consumes_data}
use Rattle.writer.specs.declared.DataPacked.{DataPacked}
use Rattle.writer.specs.Acks.{consumes_acks}
use Rattle.window.specs.Window.{window, insert_packet_number, insert_range}
use Rattle.window.specs.declared.SlidingWindow.{SlidingWindow}
use Rattle.ordered_bytes.specs.Buffer.{Buffer}
use Rattle.ordered_bytes.specs.Calls.{accepting, consuming}
use Rattle.samples.specs.Inputs.{head_of, head, kept, nothing_kept}

-- a header with version 0 and security byte 0, from source 1 to destination 2
abbrev pub plain : PacketType → ℕ → ℕ → BluefinHeader
plain = plain_header 1 2

-- hexadecimal 03 00 05 00 00 00 00 01 00 00 00 02 00 00 00 00 00 00 00 07
abbrev pub data_header_bytes : List ℕ
data_header_bytes = 3 ∷ 0 ∷ 5 ∷ 0 ∷ 0 ∷ 0 ∷ 0 ∷ 1 ∷ 0 ∷ 0 ∷ 0 ∷ 2 ∷ 0 ∷ 0 ∷ 0 ∷ 0 ∷ 0 ∷ 0 ∷ 0 ∷ 7 ∷ []

-- an index of three cells, filled with a number that no row answers
abbrev pub index : List ℕ
index = replicate 6 99

-- an entry of 1,499 bytes and one of 2, and the packets that they make from number 7 on; 1,500 is 5 * 256 + 220
abbrev pub two_entries : Queue
two_entries = record { bytes = replicate 1499 1 ++ (2 ∷ 3 ∷ []); lengths = 1499 ∷ 2 ∷ [] }

abbrev pub two_packets : List ℕ
two_packets = head_of 3 5 220 7 ++ replicate 1499 1 ++ (2 ∷ []) ++ head 3 1 8 ++ (3 ∷ [])

-- one entry of 15,001 bytes, and the answer when it is packed from number 0 on
abbrev pub long_queue : Queue
long_queue = record { bytes = replicate 15000 1 ++ (2 ∷ []); lengths = 15001 ∷ [] }

abbrev pub long_packed : DataPacked
long_packed = record { bytes = 15000; packets = 10; next_packet_num = 10; entries_removed = 0; bytes_cut = 15000 }

-- a full ring of one ack
abbrev pub one_ack : RingBuffer
one_ack = record { head = 0; tail = 0; len = 1 }

abbrev pub ack_cell : List AckData
ack_cell = record { base_packet_num = 9; num_packets_consumed = 3 } ∷ []

-- a receive buffer of n slots, each w bytes wide, from number 100, with nothing held
abbrev pub empty_buffer : ℕ → ℕ → Buffer
empty_buffer n w = record {
  state = record { slot_width = w; front_slot = 0; front_number = 100; carry_len = 0 };
  marks = replicate n false;
  lengths = replicate n 0;
  store = replicate ((n + 1) * w) 0;
}

-- the buffer with 5 bytes at 100, and what is left of it by a read of 3 and one of 0
abbrev pub with_five : Buffer
with_five = (accepting (empty_buffer 2 5) 100 (1 ∷ 2 ∷ 3 ∷ 4 ∷ 5 ∷ [])).buffer

abbrev pub after_three : Buffer
after_three = (consuming with_five 3 (replicate 3 0)).buffer

abbrev pub after_none : Buffer
after_none = (consuming after_three 0 []).buffer

pub record Samples : Type 0 where
  -- "data header, field 5, source 1, destination 2, number 7: 03 00 05 00 00 00 00 01 00 00 00 02 00 00 00 00 00 00 00 07"
  pub data_header : ◌≡◌ {A = Said ℕ × List ℕ} (serialises_into (plain UnencryptedData 5 7) (replicate 20 0)) (answers 20, data_header_bytes)
  -- "security byte, encrypted, mask 127: ff (hexadecimal)"
  pub security_byte : serialises_security (record { header_encrypted = true; header_protection_mask = 127 }) ≡ answers 255
  -- "header of type 7: 4"
  pub type_seven : deserialises (7 ∷ replicate 19 0) ≡ refuses_at 4 0
  -- "data, field 0, alone: 2 at 0"
  pub empty_data_alone : ◌≡◌ {A = Said ℕ × List ℕ} (parses (header_bytes (plain UnencryptedData 0 7)) index) (refuses_at 2 0, index)
  -- "with a 20-byte ack after it: two packets"
  pub empty_data_before_ack : ◌≡◌ {A = Said ℕ × List ℕ} (parses (header_bytes (plain UnencryptedData 0 7) ++ header_bytes (plain Ack 3 9)) index) (answers 2, 0 ∷ 0 ∷ 20 ∷ 0 ∷ 99 ∷ 99 ∷ [])
  -- "queue 1,499 and 2: payloads 1,500, 1." The store (02 §3) is empty before
  pub two_packed : consumes_data nothing_kept two_entries 7 1 2 (replicate 1541 0)
      ≡ record {
        said = answers (record { bytes = 1501; packets = 2; next_packet_num = 9; entries_removed = 2; bytes_cut = 0 });
        out = two_packets;
        store = kept (7 ∷ 8 ∷ []) (1500 ∷ 1 ∷ []) two_packets;
      }
  pub two_read : ◌≡◌ {A = Said ℕ × List ℕ} (parses two_packets index) (answers 2, 0 ∷ 1500 ∷ 1520 ∷ 1 ∷ 99 ∷ 99 ∷ [])
  pub two_payloads : map (λ (p : Packet). p.payload) (listed two_packets (parses two_packets index).1 2) ≡ (replicate 1499 1 ++ (2 ∷ [])) ∷ (3 ∷ []) ∷ []
  -- "15,001: ten packets, 1 byte left."
  pub ten_packets : (consumes_data nothing_kept long_queue 0 1 2 (replicate 15200 0)).said ≡ answers long_packed
  pub one_left : dequeued long_packed long_queue ≡ record { bytes = 2 ∷ []; lengths = 1 ∷ [] }
  -- "used 15,180: one ack; 15,181: none, yes"
  pub room_for_one : (consumes_acks one_ack ack_cell 15180 1 2 (replicate 15200 0)).said ≡ answers (record { acks = 1; to_send = true })
  pub room_for_none : (consumes_acks one_ack ack_cell 15181 1 2 (replicate 15200 0)).said ≡ answers (record { acks = 0; to_send = true })
  -- "window from 10 with 12: range 10, count 5 stores 10, 11, answers 7."
  pub range_stops : ◌≡◌ {A = Said Unit × SlidingWindow × List ℕ} (insert_range (window 10 1) (12 ∷ 0 ∷ 0 ∷ 0 ∷ []) 10 5) (refuses 7, window 10 3, 10 ∷ 11 ∷ 12 ∷ 0 ∷ [])
  -- "40,009 accepted, 40,010 is 6"
  pub window_last : ◌≡◌ {A = Said Unit × SlidingWindow × List ℕ} (insert_packet_number (window 10 1) (12 ∷ 0 ∷ []) 40009) (answers tt, window 10 2, 12 ∷ 40009 ∷ [])
  pub window_past : ◌≡◌ {A = Said Unit × SlidingWindow × List ℕ} (insert_packet_number (window 10 1) (12 ∷ 0 ∷ []) 40010) (refuses 6, window 10 1, 12 ∷ 0 ∷ [])
  -- "buffer of 2,000 slots from 100: 2,099 accepted, 2,100 is 6"
  pub buffer_last : (accepting (empty_buffer 2000 1) 2099 []).said ≡ answers tt
  pub buffer_past : (accepting (empty_buffer 2000 1) 2100 []).said ≡ refuses 6
  -- "payload 5 at 100: read 3 gives (1, 100, 3); read 0 then (0, 0, 0); read 2 then (0, 0, 2)"
  pub read_three : (consuming with_five 3 (replicate 3 0)).said ≡ answers (1, 100, 3)
  pub read_none : (consuming after_three 0 []).said ≡ answers (0, 0, 0)
  pub read_two : (consuming after_none 2 (replicate 2 0)).said ≡ answers (0, 0, 2)
