-- The bench samples hold of the definitions: each row computes. Of 2,000 slots, that the buffer is well formed and what it means is taken from its laws; the count of
-- a store's lent bytes too (Lent.antt). Assumes nothing.
use Prim.Native.Nat.{ℕ, ◌-◌}
use mathlib.Core.Path.{◌≡◌, refl}
use mathlib.Core.Bool.{true, false}
use mathlib.Core.List.{List, []}
use mathlib.Core.Option.{none}
use lib.ListN.{replicate}
use Rattle.refusal.specs.Said.{answers, refuses, checks}
use Rattle.header.specs.Header.{header_bytes}
use Rattle.packet.specs.Packet.{joined}
use Rattle.packet.specs.Datagram.{reading_limit, payload_missing, walk_by, packets_of, flat, parsed, packet_at, listed}
use Rattle.outstanding.specs.Outstanding.{places, size, all_below, keeping}
use Rattle.writer.specs.Packing.{payload_size, byte_limit, cut, numbered, removal, shortened, sum}
use Rattle.writer.specs.Acks.{datagram_limit, any_too_large, consumes_acks}
use Rattle.window.specs.Window.{member, rising, all_holdable, well_formed, place, numbers, insert_packet_number, before_held, insert_range}
use Rattle.ordered_bytes.specs.Receiver.{Receiver, accept_checks, walk, consumed, numbers_fit}
use Rattle.ordered_bytes.specs.Buffer as buffer
use Rattle.ordered_bytes.specs.Calls.{Acceptance, ack_with, creating, accepting, consuming}
use Rattle.ordered_bytes.proofs.View.{view-fresh}
use Rattle.ordered_bytes.proofs.Kept.{create_kept}
use Rattle.samples.specs.Samples.{Samples, empty_buffer}
use Rattle.samples.proofs.Lent.{made, says}

-- what accepting says, once the buffer is known to be well formed and to mean r
accept_said : (b : buffer.Buffer) (r : Receiver) (n : ℕ) (p : List ℕ) → buffer.well_formed b ≡ true → buffer.view b ≡ r
    → (accepting b n p).said
    ≡ (checks {A = Acceptance} (accept_checks r n p) (λ x. record { said = refuses x; ack = ack_with x n; buffer = b })
    (record { said = answers tt; ack = none; buffer = buffer.stored b (buffer.slot_at b (n - b.state.front_number)) p })).said
unfolding accepting
accept_said b r n p w v = rw (w, v)

abbrev empty : Receiver
empty = record { front = 100; width = 1; held = replicate 2000 none; carry = [] }

empty_well : buffer.well_formed (empty_buffer 2000 1) ≡ true
unfolding creating
empty_well = create_kept 1 100 (replicate 2000 false) (replicate 2000 0) (replicate 2001 0) refl

empty_means : buffer.view (empty_buffer 2000 1) ≡ empty
empty_means = view-fresh 1 100 (replicate 2000 false) (replicate 2000 0) (replicate 2001 0)

pub samples : Samples
unfolding header_bytes joined reading_limit payload_missing walk_by packets_of flat parsed packet_at listed places size all_below keeping payload_size byte_limit cut numbered
    removal shortened sum datagram_limit any_too_large consumes_acks member rising all_holdable well_formed place numbers insert_packet_number before_held insert_range
    walk consumed numbers_fit buffer.view buffer.all_within buffer.well_formed accepting consuming
samples = record {
  data_header = refl;
  security_byte = refl;
  type_seven = refl;
  empty_data_alone = refl;
  empty_data_before_ack = refl;
  two_packed = made _ _ _;
  two_read = refl;
  two_payloads = refl;
  ten_packets = says _ _ _;
  one_left = refl;
  room_for_one = refl;
  room_for_none = refl;
  range_stops = refl;
  window_last = refl;
  window_past = refl;
  buffer_last = accept_said (empty_buffer 2000 1) empty 2099 [] empty_well empty_means;
  buffer_past = accept_said (empty_buffer 2000 1) empty 2100 [] empty_well empty_means;
  read_three = refl;
  read_none = refl;
  read_two = refl;
}
