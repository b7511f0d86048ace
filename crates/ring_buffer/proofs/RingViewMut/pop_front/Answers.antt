-- The record written over and the ring after one pop are `pop_front`'s.
use Rattle.std.proofs.Common.{◌≡◌, ◌<◌, true, length, rules}
use Rattle.ring_buffer.specs.Ring.{well_formed}
use Rattle.ring_buffer.proofs.Popping.{popped_front}
use Rattle.ring_buffer.proofs.RingViewMut.pop_front.Goals as goal

pub returns-clause-popped : goal.returns-clause-popped
returns-clause-popped c =
    let well : well_formed c.args.self.now.state (length c.args.self.now.records.now) ≡ true = search rules in
    let held : 0 < c.args.self.now.state.len = search rules in
    rw (c.swap_record-record.ensures.0, c.swap_record-record.ensures.1, c.popped_by-self.ensures)
    (popped_front c.args.self.now.state c.args.self.now.records.now well held)
