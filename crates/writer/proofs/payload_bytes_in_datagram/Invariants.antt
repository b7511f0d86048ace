-- What was added, and what is announced from the cursor on, is the whole.
use Rattle.std.proofs.Common.{◌≡◌, ◌+◌, ◌-◌, ◌≤◌, length}
use Rattle.writer.specs.PayloadBytes.{payload_bytes}
use Rattle.writer.proofs.Announced.{announced}
use Rattle.writer.proofs.payload_bytes_in_datagram.Given as goal

abbrev pub invariant-loop-at : goal.invariant-loop-at
invariant-loop-at l = (l.at ≤ length l.datagram) × (l.total ≤ l.at) × (l.total + announced l.datagram l.at ≡ payload_bytes l.datagram)

abbrev pub decreases-loop-at : goal.decreases-loop-at
decreases-loop-at l = length l.datagram - l.at
