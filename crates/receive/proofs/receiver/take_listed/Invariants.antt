-- What is left to do, done on the present state, is the whole; the cells that are left lie within the datagram, the state stays well formed, and what calls keep is kept.
use Rattle.std.proofs.Common.{◌≡◌, ◌+◌, ◌/◌, ◌≤◌, true, length}
use Rattle.std.specs.Iterator.Adapters.{enumerate_source, enumerate_count}
use Rattle.std.specs.Slice.Iter.{chunks_exact_rest, chunks_exact_size}
use Rattle.packet.specs.Datagram.{Listed}
use Rattle.receive.specs.Datagram.{progress, takes_listed}
use Rattle.receive.proofs.Takes.{rest}
use Rattle.receive.proofs.receiver.take_listed.Given as goal

abbrev pub invariant-loop-i : goal.invariant-loop-i
invariant-loop-i g l =
    let r = g.R.Receiver in
    let cells = chunks_exact_rest (enumerate_source l.i-iterator) in
    let i = enumerate_count l.i-iterator in record {
      size : chunks_exact_size (enumerate_source l.i-iterator) ≡ 2;
      listed : Listed l.datagram cells (length cells / 2);
      room : i + length cells / 2 ≤ length l.fn.answers;
      well : r.well (r.state l.receiver) ≡ true;
      kept : r.Kept l.fn.receiver l.receiver;
      same : rest r.kind r.call l.datagram i cells (progress (r.state l.receiver) l.answers)
          ≡ takes_listed r.kind r.call l.datagram l.cells (length l.cells / 2) (progress (r.state l.fn.receiver) l.fn.answers);
    }
