-- After i packets, what the chunks have left is left to write (`Chunked`).
use Rattle.std.proofs.Common.{◌≡◌}
use Rattle.std.specs.Iterator.Adapters.{enumerate_source, enumerate_count}
use Rattle.std.specs.Slice.Iter.{chunks_rest, chunks_size}
use Rattle.writer.proofs.Run.{Chunked}
use Rattle.writer.proofs.write_packets.Given as goal

abbrev pub invariant-loop-i : goal.invariant-loop-i
invariant-loop-i l =
    (chunks_size (enumerate_source l.i-iterator) ≡ 1500)
    × Chunked l.ids.source l.ids.destination l.next_packet_num l.taken l.fn.out (enumerate_count l.i-iterator) (chunks_rest (enumerate_source l.i-iterator)) l.out
