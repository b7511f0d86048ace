-- Before turn i, i acks are popped and their headers written.
use Rattle.std.proofs.Common.{◌≡◌}
use Rattle.ring_buffer.proofs.Popping.{Popped}
use Rattle.writer.proofs.AckTurns.{written}
use Rattle.writer.proofs.acks.consume_acks_into.Given as goal

abbrev pub invariant-loop-i : goal.invariant-loop-i
invariant-loop-i l = record {
  popped : Popped l.i l.fn.ring l.ring;
  out : l.out ≡ written l.fn.ring.state l.fn.ring.records.now l.used l.ids.source l.ids.destination l.fn.out l.i;
}
