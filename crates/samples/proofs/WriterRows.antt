-- The boundaries of packing data, of a datagram's payload bytes and of a FIN's number hold of their definitions: each row computes, but for the count of lent bytes (Lent.antt).
-- Assumes nothing.
use mathlib.Core.Path.{refl}
use Rattle.header.specs.Header.{header_bytes}
use Rattle.packet.specs.Packet.{joined}
use Rattle.lists.specs.Rising.{rising}
use Rattle.lists.specs.Within.{all_within}
use Rattle.outstanding.specs.Outstanding.{places, size, all_below, keeping}
use Rattle.writer.specs.Packing.{payload_size, byte_limit, cut, numbered, removal, shortened, sum}
use Rattle.writer.specs.PayloadBytes.{payload_bytes_by}
use Rattle.samples.specs.WriterRows.{PackingRows, PayloadBytesRows, ReserveRows}
use Rattle.samples.proofs.Lent.{made, says}

pub packing_rows : PackingRows
unfolding header_bytes joined rising all_within places size all_below keeping payload_size byte_limit cut numbered removal shortened sum
packing_rows = record {
  lengths_below = made _ _ _;
  lengths_above = made _ _ _;
  bytes_in_no_entry = made _ _ _;
  entry_of_no_bytes = made _ _ _;
  malformed_before_number = made _ _ _;
  malformed_before_room = made _ _ _;
  number_before_room = made _ _ _;
  last_number = made _ _ _;
  no_number = made _ _ _;
  last_two_numbers = says _ _ _;
  one_number_of_two = made _ _ _;
  no_number_needed = made _ _ _;
  room_20 = made _ _ _;
  room_21 = made _ _ _;
  room_22 = made _ _ _;
  room_1540 = made _ _ _;
  room_1543 = made _ _ _;
  room_15199 = made _ _ _;
  room_15200 = made _ _ _;
  total_1 = (says _ _ _, refl);
  total_1500 = (says _ _ _, refl);
  total_1501 = (says _ _ _, refl);
  total_3000 = (says _ _ _, refl);
  no_entry = made _ _ _;
  empty_entries = made _ _ _;
  total_14999 = (says _ _ _, refl);
  total_15000 = (says _ _ _, refl);
  empty_before = (says _ _ _, refl);
  empty_between = (says _ _ _, refl);
  used_up = (says _ _ _, refl);
  cut_by_one = (says _ _ _, refl);
  cut_behind_empty = (says _ _ _, refl);
}

pub payload_bytes_rows : PayloadBytesRows
unfolding payload_bytes_by
payload_bytes_rows = search

pub reserve_rows : ReserveRows
reserve_rows = search
