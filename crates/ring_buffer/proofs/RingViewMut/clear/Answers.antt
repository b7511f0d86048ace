-- A turn pops one record more.
use Rattle.std.proofs.Common.{arith}
use Rattle.ring_buffer.proofs.Popping.{popped_next}
use Rattle.ring_buffer.proofs.RingViewMut.clear.Goals as goal

pub loop-preserved : goal.loop-preserved
loop-preserved c =
    let so_far = c.loop.invariant in
    let e = c.pop_front_unchecked.ensures in record {
      popped = popped_next c.loop.counter c.args.self.now c.loop.self so_far.popped (omega arith) c.pop_front_unchecked.new.self c.pop_front_unchecked.result e.lent e.popped;
      all = so_far.all;
    }
