-- What the walk still takes from here, done here, is what the whole walk takes.
use Rattle.ordered_bytes.specs.Buffer.{buffer_in}
use Rattle.ordered_bytes.proofs.Loops.{WalkState}
use Rattle.ordered_bytes.proofs.checked.Checked.walk_packets.Given as goal

abbrev pub invariant-loop-distance : goal.invariant-loop-distance
invariant-loop-distance l = WalkState (buffer_in l.view) l.room l.at l.fn.buf l.buf l.distance l.walked
