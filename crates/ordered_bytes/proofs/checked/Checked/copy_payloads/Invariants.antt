-- Copying what is left, from here on, gives what copying all gave.
use Rattle.ordered_bytes.specs.Buffer.{buffer_in}
use Rattle.ordered_bytes.proofs.Payloads.{CopyState}
use Rattle.ordered_bytes.proofs.checked.Checked.copy_payloads.Given as goal

abbrev pub invariant-loop-distance : goal.invariant-loop-distance
invariant-loop-distance l = CopyState (buffer_in l.view) l.packets l.at l.first l.fn.buf l.buf l.fn.list l.list l.given l.distance
