-- The second table holds of the definitions that the calls' promises cite: one statement, from those of its parts. Assumes nothing.
use Rattle.samples.specs.Boundaries.{Boundaries}
use Rattle.samples.proofs.HeaderRows.{header_rows}
use Rattle.samples.proofs.PacketRows.{packet_rows, parser_rows}
use Rattle.samples.proofs.WriterRows.{packing_rows, payload_bytes_rows, reserve_rows}
use Rattle.samples.proofs.OutstandingRows.{places_rows, store_rows, list_rows, drop_rows}
use Rattle.samples.proofs.EmptyRows.{empty_rows}
use Rattle.samples.proofs.RingRows.{ring_rows, ack_rows}
use Rattle.samples.proofs.WindowRows.{insert_rows, range_rows, passes_rows, window_consume_rows}
use Rattle.samples.proofs.BufferRows.{new_rows, start_rows, accept_rows, peek_rows, consume_rows, consume_bytes_rows}
use Rattle.samples.proofs.CloseRows.{close_rows, fin_rows, hello_rows}
use Rattle.samples.proofs.RttRows.{sample_rows, wait_rows, exact_rows}
use Rattle.samples.proofs.ReceiveRows.{receive_rows, receive_acks_rows}

pub boundaries : Boundaries
boundaries = record {
  header = header_rows;
  packet = packet_rows;
  parsers = parser_rows;
  packing = packing_rows;
  places = places_rows;
  store = store_rows;
  list = list_rows;
  drop = drop_rows;
  empty = empty_rows;
  payload_bytes = payload_bytes_rows;
  acks = ack_rows;
  ring = ring_rows;
  insert = insert_rows;
  insert_run = range_rows;
  passes = passes_rows;
  window_consume = window_consume_rows;
  new = new_rows;
  set_start = start_rows;
  accept = accept_rows;
  peek = peek_rows;
  consume = consume_rows;
  consume_bytes = consume_bytes_rows;
  reserve = reserve_rows;
  close = close_rows;
  fin = fin_rows;
  hello = hello_rows;
  sample = sample_rows;
  wait_time = wait_rows;
  exact = exact_rows;
  receive = receive_rows;
  receive_acks = receive_acks_rows;
}
