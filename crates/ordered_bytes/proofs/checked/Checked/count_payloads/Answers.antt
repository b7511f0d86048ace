-- A turn counts the payload of a slot of the ring; at the end none is left.
use Rattle.std.proofs.Common.{inl, inr, arith}
use Rattle.ordered_bytes.proofs.Payloads.{counting_turn, counting_done}
use Rattle.ordered_bytes.proofs.checked.Checked.count_payloads.Goals as goal

pub loop-distance-preserved : goal.loop-distance-preserved
loop-distance-preserved c =
    counting_turn c.args.self.now.good c.loop-distance.invariant c.slot_at-slot.ensures.value (omega arith) (omega arith) c.if-not-view-slot.false

pub returns-after-loop-distance : goal.returns-after-loop-distance
returns-after-loop-distance c = counting_done c.args.self.now.good c.loop-distance.invariant (inl (omega arith))

pub returns-then-not-view-slot : goal.returns-then-not-view-slot
returns-then-not-view-slot c =
    counting_done c.args.self.now.good c.loop-distance.invariant (inr (omega arith, rw c.slot_at-slot.ensures.value at c.if-not-view-slot.true))
