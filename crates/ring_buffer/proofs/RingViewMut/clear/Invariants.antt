-- After so many turns as many records are popped.
use Rattle.std.proofs.Common.{◌≡◌}
use Rattle.ring_buffer.proofs.Popping.{Popped}
use Rattle.ring_buffer.proofs.RingViewMut.clear.Given as goal

abbrev pub invariant-loop : goal.invariant-loop
invariant-loop l = record {
  popped : Popped l.counter l.fn.self l.self;
  all : l.len ≡ l.fn.self.state.len;
}
