-- The cells that are left are those of the packets from the next one on.
use Rattle.std.proofs.Common.{◌≡◌, length, drop}
use Rattle.std.specs.Slice.Iter.{chunks_exact_rest, chunks_exact_size}
use Rattle.packet.specs.Datagram.{packets_of, flat}
use Rattle.listing.proofs.print_packets.Given as goal

abbrev pub invariant-loop-cell : goal.invariant-loop-cell
invariant-loop-cell g l =
    (chunks_exact_size l.cell-iterator ≡ 2)
    × (chunks_exact_rest l.cell-iterator ≡ flat (drop (length l.yielded) (packets_of l.datagram).cells))
