-- A run that meets the premises of demand 3, so that the claim is not empty: every call of the list is made, some are refused, numbers start above 2^32,
-- packets arrive out of order and again, and several reads deliver eight bytes. Consequences.antt reads off the claim what it says of this run.
-- Assumes nothing.
use Prim.Native.Nat.{ℕ, ◌+◌}
use mathlib.Core.Path.{◌≡◌, refl}
use mathlib.Core.Logic.{inl, inr}
use mathlib.Core.Bool.{true, false, false≢true}
use mathlib.Core.List.{List, [], ◌∷◌, ◌++◌, map, flatten}
use lib.Dec.{lit≤, lit<}
use lib.ListN.{take, replicate}
use Rattle.refusal.specs.Said.{answers}
use Rattle.header.specs.Header.{header_at, header_bytes}
use Rattle.packet.specs.Packet.{Packet, joined}
use Rattle.packet.specs.Datagram.{reading_limit, payload_missing, walk_by, packets_of, flat, parsed, packet_at, listed}
use Rattle.outstanding.specs.Outstanding as store
use Rattle.writer.specs.Packing.{payload_size, byte_limit, cut, numbered, data_packet, removal, shortened, sum}
use Rattle.writer.specs.Sending.{Sending, consumes_data}
use Rattle.writer.specs.declared.DataPacked.{DataPacked}
use Rattle.ordered_bytes.specs.Receiver as receiver
use Rattle.ordered_bytes.specs.Buffer as buffer
use Rattle.ordered_bytes.specs.Calls.{creating, accepting, peeking, consuming, consuming_bytes}
use Rattle.ordered_bytes.specs.declared.OrderedBytes.{OrderedBytes}
use Rattle.window.specs.Window as window
use Rattle.rtt.specs.Rtt.{sampling, waiting}
use Rattle.link.specs.Demand3.{Link, Memory, Call, enqueue, pack, reserve, list_outstanding, arrive, read, read_pieces, peek, insert, insert_run, consume_window, sample, wait_time}
use Rattle.link.specs.Demand3.{on_sender, on_receiver, on_window, on_trips, from_bytes, from_bytes_into, fresh, step, run, packing_of, Fairly, Premises, All, In, data_of}
use Rattle.link.specs.Demand3.{accepted_all, MadeEarlier, accept_refusals, refusals, Accepted, numbered_on, outstanding_on}
use Rattle.link.proofs.Runs.{fairly_append, fairly_before}

-- ---- the run

-- 2^32 + 7
abbrev pub s : ℕ
s = 4294967303

-- three slots of 1,500 bytes, three cells, and room for 64 packets
abbrev pub state : OrderedBytes
state = record { slot_width = 1500; front_slot = 0; front_number = s; carry_len = 0 }

abbrev pub memory : Memory
memory = record {
  marks = true ∷ false ∷ true ∷ [];
  lengths = 5 ∷ 6 ∷ 7 ∷ [];
  store = replicate 6000 0;
  cells = 8 ∷ 8 ∷ 8 ∷ [];
  numbers = replicate 64 7;
  payload_lengths = replicate 64 8;
  packets = replicate 97280 8;
}

abbrev pub first : Link
first = fresh s 1500 state memory

-- the three packets that are made, and all bytes queued
abbrev pub packet_a : Packet
packet_a = data_packet 1 2 s (1 ∷ 2 ∷ 3 ∷ 4 ∷ [])

abbrev pub packet_b : Packet
packet_b = data_packet 1 2 (s + 1) (5 ∷ 6 ∷ 7 ∷ [])

abbrev pub packet_c : Packet
packet_c = data_packet 1 2 (s + 2) (8 ∷ [])

abbrev pub bytes : List ℕ
bytes = 1 ∷ 2 ∷ 3 ∷ 4 ∷ 5 ∷ 6 ∷ 7 ∷ 8 ∷ []

-- the first packing has no room, and the listing has just enough
abbrev pub sending : List Call
sending = map on_sender (
    enqueue ((1 ∷ 2 ∷ []) ∷ [] ∷ (3 ∷ 4 ∷ []) ∷ [])
    ∷ pack 1 2 (replicate 23 0)
    ∷ pack 1 2 (replicate 24 0)
    ∷ enqueue ((5 ∷ 6 ∷ 7 ∷ []) ∷ [])
    ∷ pack 1 2 (replicate 30 9)
    ∷ enqueue ((8 ∷ []) ∷ [])
    ∷ pack 1 2 (replicate 21 0)
    ∷ list_outstanding (replicate 68 0)
    ∷ []
    )

-- the front packet is missing, and there is nothing to read
abbrev pub early : List Call
early = map on_receiver (arrive from_bytes_into (joined (packet_b ∷ packet_c ∷ [])) (replicate 4 9) (packet_c ∷ packet_b ∷ []) ∷ peek ∷ [])

abbrev pub read_at_hole : Call
read_at_hole = on_receiver (read 5 (replicate 5 0))

abbrev pub arriving : List Call
arriving = early ++ (read_at_hole ∷ map on_receiver (arrive from_bytes (joined (packet_a ∷ [])) (9 ∷ 9 ∷ []) (packet_a ∷ []) ∷ peek ∷ []))

-- five bytes, a read with too short a buffer, and the rest: a carry-over and a packet
abbrev pub reading : List Call
reading = map on_receiver (read 5 (replicate 8 0) ∷ read 9 (replicate 8 0) ∷ read_pieces 2 (replicate 8 0) (replicate 8 0) ∷ [])

-- the number of the single insert has entered with the range
abbrev pub entering : List Call
entering = map on_window (insert_run s 2 ∷ insert (s + 1) ∷ insert (s + 2) ∷ [])

-- the second trip is too long
abbrev pub measuring : List Call
measuring = map on_trips (wait_time ∷ sample 80 ∷ sample 60000001 ∷ sample 90 ∷ wait_time ∷ [])

-- trips, a FIN's number, a packing that has nothing to pack, and a packet that comes again
abbrev pub closing : List Call
closing =
    measuring
    ++ map on_sender (reserve ∷ pack 1 2 [] ∷ [])
    ++ (on_receiver (arrive from_bytes_into (joined (packet_a ∷ [])) (9 ∷ 9 ∷ []) (packet_a ∷ [])) ∷ [])

abbrev pub last : Call
last = on_receiver (read 1 (replicate 8 0))

-- the list that ends by reading at the hole, the one that ends by consuming the window, and the one that goes on and ends by reading to empty
abbrev pub before_hole : List Call
before_hole = sending ++ early

abbrev pub to_hole : List Call
to_hole = before_hole ++ (read_at_hole ∷ [])

abbrev pub before_consume : List Call
before_consume = sending ++ (arriving ++ (reading ++ entering))

abbrev pub to_consume : List Call
to_consume = before_consume ++ (on_window consume_window ∷ [])

abbrev pub before_last : List Call
before_last = to_consume ++ closing

abbrev pub calls : List Call
calls = before_last ++ (last ∷ [])

-- the link between the parts
abbrev pub sent : Link
sent = run first sending

abbrev pub arrived : Link
arrived = run sent arriving

abbrev pub emptied : Link
emptied = run arrived reading

abbrev pub holed : Link
holed = run first to_hole

abbrev pub consumed : Link
consumed = run first to_consume

-- where the second packing, of packet A, is made, and what it answers
abbrev pub packing_a : Link
packing_a = run first (map on_sender (enqueue ((1 ∷ 2 ∷ []) ∷ [] ∷ (3 ∷ 4 ∷ []) ∷ []) ∷ pack 1 2 (replicate 23 0) ∷ []))

abbrev pub packed_a : DataPacked
packed_a = record { bytes = 4; packets = 1; next_packet_num = s + 1; entries_removed = 3; bytes_cut = 0 }

abbrev pub output_a : Sending
output_a = packing_of packing_a.sender 1 2 (replicate 24 0)

-- .. and the bytes that it wrote
abbrev pub written_a : List ℕ
written_a = take 24 output_a.out

-- the numbers that have entered
abbrev pub entered : List ℕ
entered = (s + 2) ∷ s ∷ (s + 1) ∷ []

-- ---- what is computed of it

-- what each call of a list is refused with
unfoldable pub trace : Link → List Call → List (List ℕ)
trace l [] = []
trace l (c ∷ cs) = refusals l c ∷ trace (step l c) cs

-- in several parts, since what computes one is let go before the next

-- each part keeps the premises, and both reads that took packets give an ack
pub record Premised : Type 0 where
  pub new : (creating 1500 s memory.marks memory.lengths memory.store).said ≡ answers state
  pub room : store.roomy memory.numbers memory.payload_lengths memory.packets ≡ true
  pub sends : Fairly first sending
  pub arrives : Fairly sent arriving
  pub reads : Fairly arrived reading
  pub acks : emptied.receiver.acks ≡ record { base = s; count = 2 } ∷ record { base = s + 2; count = 1 } ∷ []
  pub enters : Fairly emptied entering
  pub consumes : Fairly (run first before_consume) (on_window consume_window ∷ [])
  pub closes : Fairly consumed closing
  pub ends : Fairly (run first before_last) (last ∷ [])

-- part by part, what each call is refused with; the read at the hole says 8, and so does the last
pub record Refusing : Type 0 where
  pub refused : trace first calls
      ≡ ([] ∷ (10 ∷ []) ∷ (0 ∷ []) ∷ [] ∷ (0 ∷ []) ∷ [] ∷ (0 ∷ []) ∷ (0 ∷ []) ∷ [])
      ++ ((0 ∷ 0 ∷ 0 ∷ []) ∷ (8 ∷ []) ∷ (8 ∷ []) ∷ (0 ∷ 0 ∷ []) ∷ (0 ∷ []) ∷ [])
      ++ ((0 ∷ []) ∷ (10 ∷ []) ∷ (0 ∷ []) ∷ [])
      ++ ((0 ∷ []) ∷ (7 ∷ []) ∷ (0 ∷ []) ∷ [])
      ++ ((0 ∷ 0 ∷ []) ∷ [])
      ++ ((0 ∷ []) ∷ (0 ∷ []) ∷ (14 ∷ []) ∷ (0 ∷ []) ∷ (0 ∷ []) ∷ [])
      ++ ((0 ∷ []) ∷ (0 ∷ []) ∷ (0 ∷ 5 ∷ []) ∷ [])
      ++ ((8 ∷ []) ∷ [])
  pub at_hole : In 8 (refusals (run first before_hole) read_at_hole)
  pub empty : In 8 (refusals (run first before_last) last)

-- at the hole two packets are accepted behind it and all three outstanding; all eight bytes are queued and covered; three packets are counted, and none is
-- outstanding once the window was consumed; packet A, which comes again, gives an ack again; the trips come to S = 650 and V = 130
pub record Holds : Type 0 where
  pub behind : holed.receiver.accepted ≡ (s + 1) ∷ (s + 2) ∷ []
  pub outstanding : outstanding_on holed ≡ packet_a ∷ packet_b ∷ packet_c ∷ []
  pub queued : (run first calls).sender.queued ≡ bytes
  pub accepted : Accepted (run first calls) s ((1 ∷ 2 ∷ 3 ∷ 4 ∷ []) ∷ (5 ∷ 6 ∷ 7 ∷ []) ∷ (8 ∷ []) ∷ [])
  pub counted : consumed.receiver.counted ≡ 3
  pub entered : consumed.acked.entered ≡ entered
  pub answered : outstanding_on consumed ≡ []
  pub acked_again : (run first before_last).receiver.acks ≡ record { base = s; count = 2 } ∷ record { base = s + 2; count = 1 } ∷ record { base = s; count = 1 } ∷ []
  pub measured : (run first before_last).trips ≡ record { smoothed = 650; variation = 130; sampled = true }

-- packet A is the first made
pub record PacksA : Type 0 where
  pub packs : output_a.said ≡ answers packed_a
  pub makes : packing_a.sender.made ≡ []
  pub made : (step packing_a (on_sender (pack 1 2 (replicate 24 0)))).sender.made ≡ packet_a ∷ []

pub itself : {l : Link} (p : Packet) → In p l.sender.made → MadeEarlier l p
itself p made = record { original = p; made = made; number = refl; payload = refl }

pub unreserved : {A : Type 0} → false ≡ true → A
unreserved e = absurd (false≢true e)

pub premised : Premised
unfolding run trace Fairly All In data_of accepted_all accept_refusals Accepted numbered_on header_at header_bytes joined reading_limit payload_missing
    walk_by packets_of flat parsed packet_at listed payload_size byte_limit
    cut numbered removal shortened sum consumes_data store.places store.size store.well_formed store.all_below store.well_formed_below store.keeping store.up_to store.without store.answering
    store.listing receiver.walk receiver.consumed receiver.payloads receiver.numbers_fit buffer.view buffer.all_within buffer.well_formed
    creating accepting peeking consuming consuming_bytes flatten window.member window.rising window.all_holdable window.well_formed window.place window.numbers
    window.insert_packet_number window.before_held window.insert_range window.run_length window.consume sampling waiting
premised = record {
  new = refl;
  room = refl;
  sends = (tt, (unreserved, (unreserved, (tt, (unreserved, (tt, (unreserved, (tt, tt))))))));
  arrives = (
    ((itself packet_b (inr (inl refl)), (itself packet_c (inr (inr (inl refl))), tt)), (inr (inl refl), (inl refl, tt))),
    (tt, (tt, (((itself packet_a (inl refl), tt), (inl refl, tt)), (tt, tt)))),
  );
  reads = (tt, (tt, (tt, tt)));
  acks = refl;
  enters = (
    inl refl,
    (
      record { ack = record { base = s; count = 2 }; given = inl refl; from = lit≤ tt; below = lit< tt },
      (record { ack = record { base = s + 2; count = 1 }; given = inr (inl refl); from = lit≤ tt; below = lit< tt }, tt),
    ),
  );
  consumes = (tt, tt);
  closes = (tt, (tt, (tt, (tt, (tt, (tt, (λ e. refl, (((itself packet_a (inl refl), tt), (inl refl, tt)), tt))))))));
  ends = (tt, tt);
}

pub refusing : Refusing
unfolding run trace Fairly All In data_of accepted_all accept_refusals Accepted numbered_on header_at header_bytes joined reading_limit payload_missing
    walk_by packets_of flat parsed packet_at listed payload_size byte_limit
    cut numbered removal shortened sum consumes_data store.places store.size store.well_formed store.all_below store.well_formed_below store.keeping store.up_to store.without store.answering
    store.listing receiver.walk receiver.consumed receiver.payloads receiver.numbers_fit buffer.view buffer.all_within buffer.well_formed
    creating accepting peeking consuming consuming_bytes flatten window.member window.rising window.all_holdable window.well_formed window.place window.numbers
    window.insert_packet_number window.before_held window.insert_range window.run_length window.consume sampling waiting
refusing = record {
  refused = refl;
  at_hole = inl refl;
  empty = inl refl;
}

pub holds : Holds
unfolding run trace Fairly All In data_of accepted_all accept_refusals Accepted numbered_on header_at header_bytes joined reading_limit payload_missing
    walk_by packets_of flat parsed packet_at listed payload_size byte_limit
    cut numbered removal shortened sum consumes_data store.places store.size store.well_formed store.all_below store.well_formed_below store.keeping store.up_to store.without store.answering
    store.listing receiver.walk receiver.consumed receiver.payloads receiver.numbers_fit buffer.view buffer.all_within buffer.well_formed
    creating accepting peeking consuming consuming_bytes flatten window.member window.rising window.all_holdable window.well_formed window.place window.numbers
    window.insert_packet_number window.before_held window.insert_range window.run_length window.consume sampling waiting
holds = record {
  behind = refl;
  outstanding = refl;
  queued = refl;
  accepted = (
    record { packet = packet_a; made = inl refl; number = refl; carries = refl },
    refl,
    (
      record { packet = packet_b; made = inr (inl refl); number = refl; carries = refl },
      refl,
      (record { packet = packet_c; made = inr (inr (inl refl)); number = refl; carries = refl }, refl, tt),
    ),
  );
  counted = refl;
  entered = refl;
  answered = refl;
  acked_again = refl;
  measured = refl;
}

pub packs_a : PacksA
unfolding run trace Fairly All In data_of accepted_all accept_refusals Accepted numbered_on header_at header_bytes joined reading_limit payload_missing
    walk_by packets_of flat parsed packet_at listed payload_size byte_limit
    cut numbered removal shortened sum consumes_data store.places store.size store.well_formed store.all_below store.well_formed_below store.keeping store.up_to store.without store.answering
    store.listing receiver.walk receiver.consumed receiver.payloads receiver.numbers_fit buffer.view buffer.all_within buffer.well_formed
    creating accepting peeking consuming consuming_bytes flatten window.member window.rising window.all_holdable window.well_formed window.place window.numbers
    window.insert_packet_number window.before_held window.insert_range window.run_length window.consume sampling waiting
packs_a = record {
  packs = refl;
  makes = refl;
  made = refl;
}

-- ---- the premises, of the three lists

fair : Fairly first calls
unfolding run
fair =
    let c = premised in
    let read = fairly_append sent arriving (reading ++ entering) c.arrives (fairly_append arrived reading entering c.reads c.enters) in
    let consume = fairly_append first before_consume (on_window consume_window ∷ []) (fairly_append first sending (arriving ++ (reading ++ entering)) c.sends read) c.consumes in
    fairly_append first before_last (last ∷ []) (fairly_append first to_consume closing consume c.closes) c.ends

meets : (list : List Call) → Fairly first list → Premises s 1500 state memory list
unfolding payload_size
meets list f = record { start = lit≤ tt; new = premised.new; wide = lit≤ tt; room = premised.room; fair = f }

pub meets_to_hole : Premises s 1500 state memory to_hole
meets_to_hole = meets to_hole (fairly_before first to_hole _ fair)

pub meets_to_consume : Premises s 1500 state memory to_consume
meets_to_consume = meets to_consume (fairly_before first to_consume (closing ++ (last ∷ [])) fair)

pub meets_calls : Premises s 1500 state memory calls
meets_calls = meets calls fair
