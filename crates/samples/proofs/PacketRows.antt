-- The boundaries of a packet alone and of both parsers hold of their definitions: each row computes. Assumes nothing.
use mathlib.Core.Path.{refl}
use Rattle.header.specs.Header.{header_bytes, header_at}
use Rattle.packet.specs.Datagram.{reading_limit, payload_missing, walk_by, packets_of, flat, parsed}
use Rattle.samples.specs.PacketRows.{PacketRows, LongestRows, ParserRows}

pub packet_rows : PacketRows
unfolding header_bytes header_at
packet_rows = search

longest_rows : LongestRows
unfolding reading_limit payload_missing walk_by packets_of flat parsed
longest_rows = record {
  limit = refl;
  room = refl;
  bytes_65507 = (refl, refl);
  bytes_65508 = (refl, refl);
  bytes_65527 = (refl, refl);
  too_long_before_tail = (refl, refl);
  too_long_before_type = (refl, refl);
  too_long_before_payload = (refl, refl);
  too_long_before_cell = (refl, refl);
}

pub parser_rows : ParserRows
unfolding reading_limit payload_missing walk_by packets_of flat parsed
parser_rows = search longest_rows
