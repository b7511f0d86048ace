-- A turn copies the payload of a slot of the ring, for which there is room.
use Rattle.std.proofs.Common.{arith}
use Rattle.ordered_bytes.proofs.Payloads.{copying_fits, copying_turn, copying_done}
use Rattle.ordered_bytes.proofs.checked.Checked.copy_payloads.Goals as goal

pub copy_part-requires : goal.copy_part-requires
copy_part-requires c =
    let r = c.slot_at-slot.ensures in (
      omega arith,
      omega arith,
      copying_fits c.args.self.now.good c.requires.all_held c.requires.room_for c.loop-distance.invariant c.loop-distance-test.true r.value,
    )

pub loop-distance-preserved : goal.loop-distance-preserved
loop-distance-preserved c =
    copying_turn c.args.self.now.good c.requires.all_held c.requires.room_for c.loop-distance.invariant c.loop-distance-test.true c.slot_at-slot.ensures.value
    c.copy_part.ensures

pub returns : goal.returns
returns c = copying_done c.loop-distance.invariant c.loop-distance-test.false
