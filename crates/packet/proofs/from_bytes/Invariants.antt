-- What is still to be said is the whole answer; the measure is the number of bytes left.
use Rattle.std.proofs.Common.{◌≡◌, ◌-◌, [], length}
use Rattle.packet.specs.Datagram.{cells_in, parsed}
use Rattle.packet.specs.Step.{left}
use Rattle.packet.proofs.from_bytes.Given as goal

abbrev pub invariant-loop : goal.invariant-loop
invariant-loop l = (left l.packets []).0 ≡ parsed l.datagram (cells_in l.index)

abbrev pub decreases-loop : goal.decreases-loop
decreases-loop l = length l.packets.datagram.now - l.packets.at
