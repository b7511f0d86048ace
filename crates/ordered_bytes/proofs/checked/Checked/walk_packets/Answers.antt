-- A turn copies the payload of a slot of the ring, or as much as there is room for; at the end nothing is left to take.
use Rattle.std.proofs.Common.{inl, inr, arith}
use Rattle.ordered_bytes.proofs.Loops.{walking_turn, walking_done}
use Rattle.ordered_bytes.proofs.checked.Checked.walk_packets.Goals as goal
use Rattle.ordered_bytes.proofs.checked.Checked.walk_packets.Goals.{then-walked-room-via-then-walked-room, then-walked-room-via-else-walked-room+then-not-view-slot}

pub loop-distance-preserved : goal.loop-distance-preserved
loop-distance-preserved c =
    let s = c.loop-distance.invariant in
    walking_turn c.args.self.now.good s c.slot_at-slot.ensures.value c.requires c.loop-distance-test.true (omega (arith, s.gave, c.if-walked-room.false)) c.if-not-view-slot.false
    c.min-part.ensures c.copy_part.ensures

pub returns-after-loop-distance : goal.returns-after-loop-distance
returns-after-loop-distance c = walking_done c.args.self.now.good c.loop-distance.invariant (inl c.loop-distance-test.false)

pub returns-then-walked-room : goal.returns-then-walked-room
returns-then-walked-room c =
    walking_done c.args.self.now.good c.loop-distance.invariant
    (inr (elim c.then-walked-room.branch [
      | then-walked-room-via-then-walked-room w ↦ inl (omega (arith, w.if-walked-room.true))
      | then-walked-room-via-else-walked-room+then-not-view-slot w ↦ inr (c.loop-distance-test.true, rw c.slot_at-slot.ensures.value at w.if-not-view-slot.true)
    ]))
