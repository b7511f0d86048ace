-- The second table: a row for each boundary, and for each order of two refusals, that documents 01 and 02 name and 01's starred samples leave out.
-- Each row says what a call answers and what it leaves in lent memory; its values are written from the papers, whose words stand over it.
-- proofs/Boundaries.antt proves the table by one statement.
use Rattle.samples.specs.HeaderRows.{HeaderRows}
use Rattle.samples.specs.PacketRows.{PacketRows, ParserRows}
use Rattle.samples.specs.WriterRows.{PackingRows, PayloadBytesRows, ReserveRows}
use Rattle.samples.specs.OutstandingRows.{PlacesRows, StoreRows, ListRows, DropRows}
use Rattle.samples.specs.EmptyRows.{EmptyRows}
use Rattle.samples.specs.RingRows.{RingRows}
use Rattle.samples.specs.AckRows.{AckRows}
use Rattle.samples.specs.WindowRows.{InsertRows, RangeRows, PassesRows, WindowConsumeRows}
use Rattle.samples.specs.BufferRows.{NewRows, StartRows, AcceptRows, PeekRows}
use Rattle.samples.specs.ReadRows.{ConsumeRows, ConsumeBytesRows}
use Rattle.samples.specs.CloseRows.{CloseRows, FinRows, HelloRows}
use Rattle.samples.specs.RttRows.{SampleRows, WaitRows, ExactRows}
use Rattle.samples.specs.ReceiveRows.{ReceiveRows, ReceiveAcksRows}

pub record Boundaries : Type 0 where
  -- the header, a packet alone, the packets of a datagram
  pub header : HeaderRows
  pub packet : PacketRows
  pub parsers : ParserRows
  -- packing data and acks, the store of outstanding packets, the empty packet, the ring of queued acks
  pub packing : PackingRows
  pub places : PlacesRows
  pub store : StoreRows
  pub list : ListRows
  pub drop : DropRows
  pub empty : EmptyRows
  pub payload_bytes : PayloadBytesRows
  pub acks : AckRows
  pub ring : RingRows
  -- the window: `insert`, `insert_range`, the passes of their loops, `consume`
  pub insert : InsertRows
  pub insert_run : RangeRows
  pub passes : PassesRows
  pub window_consume : WindowConsumeRows
  -- the receive buffer: `new`, `set_start_packet_number`, accepting, `peek`, `consume`, `consume_bytes`
  pub new : NewRows
  pub set_start : StartRows
  pub accept : AcceptRows
  pub peek : PeekRows
  pub consume : ConsumeRows
  pub consume_bytes : ConsumeBytesRows
  -- closing and opening
  pub reserve : ReserveRows
  pub close : CloseRows
  pub fin : FinRows
  pub hello : HelloRows
  -- the waiting time
  pub sample : SampleRows
  pub wait_time : WaitRows
  pub exact : ExactRows
  -- a whole datagram by one call
  pub receive : ReceiveRows
  pub receive_acks : ReceiveAcksRows
