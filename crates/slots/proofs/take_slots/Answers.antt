-- A turn of the loop of `slots::take_slots`: one slot fewer is left to clear.
use Rattle.std.proofs.Common.{◌≡◌, ◌+◌, ◌-◌, ◌∙◌, suc, length, length-set, false, arith}
use Rattle.slots.proofs.Ring.{wrap-below, cleared_first}
use Rattle.slots.proofs.take_slots.Goals as goal

pub loop-preserved : goal.loop-preserved
loop-preserved c =
    let n = length c.args.marks.now in
    let at = c.loop in
    let left : c.args.count - at.counter ≡ suc (c.args.count - (at.counter + 1)) = omega arith in
    rw c.wrap_index-slot.ensures (
      wrap-below at.invariant.0 (omega arith),
      simp length-set at.invariant.1,
      simp length-set at.invariant.2,
      cleared_first n false at.slot _ _ at.marks left ∙ at.invariant.3,
      cleared_first n 0 at.slot _ _ at.lengths left ∙ at.invariant.4,
    )
