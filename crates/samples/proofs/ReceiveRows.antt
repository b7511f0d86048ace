-- The boundaries of a whole datagram by one call hold of its definitions: each row computes. Assumes nothing.
use mathlib.Core.Path.{refl}
use Rattle.header.specs.Header.{header_at}
use Rattle.packet.specs.Datagram.{reading_limit, payload_missing, walk_by, packets_of, flat, parsed, packet_at, listed}
use Rattle.ordered_bytes.specs.Receiver.{numbers_fit}
use Rattle.ordered_bytes.specs.Buffer.{all_within, view}
use Rattle.ordered_bytes.specs.Buffer as buffer
use Rattle.ordered_bytes.specs.Calls.{accepting}
use Rattle.window.specs.Window.{member, rising, all_holdable, place, numbers, before_held, insert_range}
use Rattle.window.specs.Window as window
use Rattle.receive.specs.Datagram.{takes_all, receiving, receiving_acks}
use Rattle.samples.specs.ReceiveRows.{LongestReceived, LongestAcks, ReceiveRows, ReceiveAcksRows}

longest-received : LongestReceived
unfolding header_at reading_limit payload_missing walk_by packets_of flat parsed packet_at listed numbers_fit all_within view buffer.well_formed accepting takes_all receiving
longest-received = record { bytes_65507 = refl; bytes_65508 = refl; answers_before_length = refl }

pub receive_rows : ReceiveRows
unfolding header_at reading_limit payload_missing walk_by packets_of flat parsed packet_at listed numbers_fit all_within view buffer.well_formed accepting takes_all receiving
receive_rows = search longest-received

longest_acks : LongestAcks
unfolding header_at reading_limit payload_missing walk_by packets_of flat parsed packet_at listed member rising all_holdable window.well_formed place numbers before_held insert_range
    takes_all receiving_acks
longest_acks = record { bytes_65507 = refl; bytes_65508 = refl; answers_before_length = refl }

pub receive_acks_rows : ReceiveAcksRows
unfolding header_at reading_limit payload_missing walk_by packets_of flat parsed packet_at listed member rising all_holdable window.well_formed place numbers before_held insert_range
    takes_all receiving_acks
receive_acks_rows = search longest_acks
