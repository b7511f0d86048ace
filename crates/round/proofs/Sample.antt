-- A run that ends by a round (specs/Round.antt), with just 64 slots and 64 cells: of two packets the second is lost, and so is the ack of the first, which was read.
-- Both are kept. In the round the first is refused with 5 and acked again, the second is accepted and read; then the store is empty.
-- Assumes nothing.
use Prim.Native.Nat.{◌+◌}
use mathlib.Core.Path.{◌≡◌, refl}
use mathlib.Core.Logic.{inl, inr}
use mathlib.Core.Bool.{true}
use mathlib.Core.List.{List, [], ◌∷◌, ◌++◌, map, flatten}
use lib.Dec.{lit≤, lit<}
use lib.ListN.{replicate}
use Rattle.header.specs.Header.{header_at, header_bytes}
use Rattle.packet.specs.Packet.{Packet, joined}
use Rattle.packet.specs.Datagram.{reading_limit, payload_missing, walk_by, packets_of as packets_in, flat, parsed, packet_at, listed}
use Rattle.outstanding.specs.Outstanding as store
use Rattle.writer.specs.Packing.{payload_size, byte_limit, cut, numbered, data_packet, removal, shortened, sum}
use Rattle.writer.specs.Sending.{consumes_data}
use Rattle.ordered_bytes.specs.Receiver as receiver
use Rattle.ordered_bytes.specs.Buffer as buffer
use Rattle.ordered_bytes.specs.Calls.{creating, accepting, consuming}
use Rattle.ordered_bytes.specs.declared.OrderedBytes.{OrderedBytes}
use Rattle.refusal.specs.Said.{answers}
use Rattle.window.specs.Window as window
use Rattle.link.specs.Demand3.{Link, Memory, Call, enqueue, pack, ReceiverCall, arrive, read, on_sender, on_receiver, from_bytes, from_bytes_into, fresh, run, refusals, Fairly}
use Rattle.link.specs.Demand3.{All, In, data_of, accepted_all, accept_refusals, reads, key, numbered_on, outstanding_on}
use Rattle.round.specs.Round.{Arrival, arrives, packets_of, IsRead, is_read, received, Round, acks_of, round_calls, RoundPremises}
use Rattle.link.proofs.Runs.{fairly_append}
use Rattle.link.proofs.Sample.{s, itself, unreserved}
use Rattle.round.proofs.Round.{round}

-- ---- the run

abbrev pub state : OrderedBytes
state = record { slot_width = 1500; front_slot = 0; front_number = s; carry_len = 0 }

abbrev pub memory : Memory
memory = record {
  marks = replicate 64 true;
  lengths = replicate 64 8;
  store = replicate 97500 8;
  cells = replicate 64 8;
  numbers = replicate 64 7;
  payload_lengths = replicate 64 8;
  packets = replicate 97280 8;
}

abbrev pub first : Link
first = fresh s 1500 state memory

abbrev pub packet_a : Packet
packet_a = data_packet 1 2 s (1 ∷ 2 ∷ [])

abbrev pub packet_b : Packet
packet_b = data_packet 1 2 (s + 1) (3 ∷ [])

-- packet B does not arrive, and the read's ack is lost
abbrev pub lossy : List Call
lossy =
    map on_sender (enqueue ((1 ∷ 2 ∷ []) ∷ []) ∷ pack 1 2 (replicate 22 0) ∷ enqueue ((3 ∷ []) ∷ []) ∷ pack 1 2 (replicate 21 0) ∷ [])
    ++ map on_receiver (arrive from_bytes (joined (packet_a ∷ [])) (replicate 2 9) (packet_a ∷ []) ∷ read 9 (replicate 9 0) ∷ [])

abbrev pub lost : Link
lost = run first lossy

abbrev pub again : List Arrival
again = record { parser = from_bytes_into; datagram = joined (packet_a ∷ packet_b ∷ []); index = replicate 4 9; packets = packet_a ∷ packet_b ∷ [] } ∷ []

abbrev pub reading : List ReceiverCall
reading = read 9 (replicate 9 0) ∷ []

abbrev pub last : ReceiverCall
last = read 1 (replicate 9 0)

-- ---- what is computed of it: up to the round, and that it is one

pub record Begun : Type 0 where
  pub new : (creating 1500 s memory.marks memory.lengths memory.store).said ≡ answers state
  pub room : store.roomy memory.numbers memory.payload_lengths memory.packets ≡ true
  pub fair : Fairly first lossy
  pub are_reads : All IsRead reading

pub begun : Begun
unfolding run Fairly All In data_of accepted_all accept_refusals numbered_on header_at header_bytes joined reading_limit payload_missing walk_by packets_in flat parsed packet_at
    listed payload_size byte_limit cut numbered removal shortened sum consumes_data store.places store.size store.well_formed store.all_below store.well_formed_below store.keeping
    receiver.walk receiver.consumed receiver.payloads receiver.numbers_fit buffer.view buffer.all_within buffer.well_formed creating accepting consuming flatten window.rising
begun = record {
  new = refl;
  room = refl;
  fair = (tt, (unreserved, (tt, (unreserved, (((itself packet_a (inl refl), tt), (inl refl, tt)), (tt, tt))))));
  are_reads = (is_read 9 (replicate 9 0), tt);
}

-- both packets are kept and listed, and the round's last read says 8
pub record Lost : Type 0 where
  pub kept : store.count_of lost.sender.kept ≡ 2
  pub listed : map key (flatten (map packets_of again)) ≡ map key (outstanding_on lost)
  pub empty : In 8 (refusals (run lost (received again reading)) (on_receiver last))

pub after_loss : Lost
unfolding run Fairly All In data_of accepted_all accept_refusals numbered_on header_at header_bytes joined reading_limit payload_missing walk_by packets_in flat parsed packet_at
    listed payload_size byte_limit cut numbered removal shortened sum consumes_data store.places store.size store.well_formed store.all_below store.well_formed_below store.keeping
    receiver.walk receiver.consumed receiver.payloads receiver.numbers_fit buffer.view buffer.all_within buffer.well_formed creating accepting consuming flatten window.rising
after_loss = record { kept = refl; listed = refl; empty = inl refl }

abbrev pub recovery : Round lost
recovery = record {
  arrivals = again;
  listed = after_loss.listed;
  reads = reading;
  are_reads = begun.are_reads;
  last = last;
  asks = reads 1 (replicate 9 0) (lit< tt);
  empty = after_loss.empty;
}

-- ---- the round itself: its acks are that of 5 and the read's. What is computed stands in several parts, since what computes one is let go before the next.

pub record Acked : Type 0 where
  pub acks : acks_of recovery ≡ record { base = s; count = 1 } ∷ record { base = s + 1; count = 1 } ∷ []
  pub refused : map (λ (a : Arrival). refusals lost (on_receiver (arrives a))) again ≡ (0 ∷ 5 ∷ 0 ∷ []) ∷ []

pub acked : Acked
unfolding run Fairly All In data_of accepted_all accept_refusals header_at header_bytes joined reading_limit payload_missing walk_by packets_in flat parsed packet_at listed payload_size byte_limit
    cut numbered removal shortened sum consumes_data store.places store.size store.well_formed store.all_below store.well_formed_below store.keeping store.up_to store.without store.answering
    receiver.walk receiver.consumed receiver.payloads receiver.numbers_fit buffer.view buffer.all_within buffer.well_formed creating accepting consuming flatten window.member window.rising
    window.all_holdable window.well_formed window.place window.numbers window.before_held window.insert_range window.run_length window.consume
acked = record { acks = refl; refused = refl }

fair_round : Fairly lost (round_calls recovery)
unfolding run Fairly All In data_of accepted_all accept_refusals header_at header_bytes joined reading_limit payload_missing walk_by packets_in flat parsed packet_at listed payload_size byte_limit
    cut numbered removal shortened sum consumes_data store.places store.size store.well_formed store.all_below store.well_formed_below store.keeping store.up_to store.without store.answering
    receiver.walk receiver.consumed receiver.payloads receiver.numbers_fit buffer.view buffer.all_within buffer.well_formed creating accepting consuming flatten window.member window.rising
    window.all_holdable window.well_formed window.place window.numbers window.before_held window.insert_range window.run_length window.consume
fair_round = (
  ((itself packet_a (inl refl), (itself packet_b (inr (inl refl)), tt)), (inl refl, (inr (inl refl), tt))),
  (tt, (tt, (inr (inl refl), (inr (inr (inl refl)), (tt, tt))))),
)

-- ---- what the theorem says of it

meets : RoundPremises s 1500 state memory lossy recovery
unfolding payload_size
meets = record {
  premises = record { start = lit≤ tt; new = begun.new; wide = lit≤ tt; room = begun.room; fair = fairly_append first lossy (round_calls recovery) begun.fair fair_round };
  slots = lit≤ tt;
  cells = lit≤ tt;
}

-- two packets were kept, and none is left
pub empties : (store.count_of lost.sender.kept ≡ 2) × (store.count_of (run first (lossy ++ round_calls recovery)).sender.kept ≡ 0)
empties = (after_loss.kept, (round s 1500 state memory lossy recovery meets).none_kept)
