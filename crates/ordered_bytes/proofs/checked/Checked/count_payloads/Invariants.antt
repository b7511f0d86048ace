-- What is counted and what is left make up all.
use Rattle.ordered_bytes.specs.Buffer.{buffer_in}
use Rattle.ordered_bytes.proofs.Payloads.{CountState}
use Rattle.ordered_bytes.proofs.checked.Checked.count_payloads.Given as goal

abbrev pub invariant-loop-distance : goal.invariant-loop-distance
invariant-loop-distance l = CountState (buffer_in l.view) l.most l.distance l.counted
