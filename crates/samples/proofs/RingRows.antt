-- The boundaries of the ring and of packing acks hold of their definitions: each row computes. Assumes nothing.
use mathlib.Core.Path.{refl}
use mathlib.Core.List.{flatten}
use Rattle.header.specs.Header.{header_bytes}
use Rattle.ring_buffer.specs.Ring.{blanked}
use Rattle.writer.specs.Acks.{datagram_limit, ack_bytes, any_too_large, consumes_acks}
use Rattle.samples.specs.RingRows.{RingRows}
use Rattle.samples.specs.AckRows.{AckRows}

pub ring_rows : RingRows
unfolding blanked
ring_rows = search

pub ack_rows : AckRows
unfolding header_bytes blanked datagram_limit ack_bytes any_too_large consumes_acks flatten
ack_rows = record {
  one_ack = refl;
  from_used_on = refl;
  last_number = refl;
  round_the_end_row = refl;
  used_15160 = refl;
  used_15161 = refl;
  used_15200 = refl;
  used_15201 = refl;
  used_20000 = refl;
  queued_761 = refl;
  empty_used_0 = refl;
  empty_used_20 = refl;
  empty_used_15201 = refl;
  no_cell = refl;
  used_at_length = refl;
  used_above_length = refl;
  used_above_length_and_limit = refl;
  used_before_count = refl;
  ring_before_count = refl;
  ring_before_room = refl;
  each_ring = refl;
  count_65535 = refl;
  count_65536 = refl;
  second_count_65536 = refl;
  count_before_room = refl;
  count_not_packed = refl;
  count_not_queued = refl;
  count_at_15200 = refl;
  room_19 = refl;
  room_after_used = refl;
  room_for_one_of_two = refl;
}
