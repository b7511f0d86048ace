-- What is still to be said and written is the whole; the measure is the number of bytes left.
use Rattle.std.proofs.Common.{◌≡◌, ◌-◌, ◌*◌, ◌/◌, length}
use Rattle.packet.specs.Step.{left}
use Rattle.packet.proofs.parse.Packets.write_cells.Given as goal

abbrev pub invariant-loop-at : goal.invariant-loop-at
invariant-loop-at l =
    (l.self.room ≡ length l.index / 2)
    × (left l.self l.index ≡ left l.fn.self l.fn.index)

abbrev pub decreases-loop-at : goal.decreases-loop-at
decreases-loop-at l = length l.self.datagram.now - l.self.at
