-- What is kept lies within the bytes lent. Assumes nothing.
use Rattle.std.proofs.Common.{sym, arith}
use Rattle.std.proofs.Math.Seq.{length-take-le}
use Rattle.outstanding.specs.Outstanding.{store_in}
use Rattle.outstanding.proofs.Laws.{room}
use Rattle.outstanding.proofs.StoreView.list_into.Goals as goal

pub size-total-requires : goal.size-total-requires
size-total-requires c = omega (arith, room (store_in c.args.self.now) (sym c.if-not-well_formed.ensures))

pub slice_bounds-copy_from_slice-end-3 : goal.slice_bounds-copy_from_slice-end-3
slice_bounds-copy_from_slice-end-3 c =
    let r = room (store_in c.args.self.now) (sym c.if-not-well_formed.ensures) in
    sym (length-take-le _ _ (omega (arith, c.size-total.ensures)))

pub copy_from_slice-requires : goal.copy_from_slice-requires
copy_from_slice-requires c =
    let r = room (store_in c.args.self.now) (sym c.if-not-well_formed.ensures) in
    let out = length-take-le c.size-total.result c.args.out.now (omega arith) in
    let kept = length-take-le c.size-total.result c.args.self.now.packets.now (omega (arith, c.size-total.ensures)) in
    omega arith
