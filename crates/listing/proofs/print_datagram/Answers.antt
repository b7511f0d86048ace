-- The index that is printed is the one that parsing filled. Assumes nothing.
use Rattle.std.proofs.Common.{arith, replicate, length-take}
use Rattle.packet.specs.declared.TheConstants.{INDEX_LEN}
use Rattle.listing.proofs.Lists.{room, cells}
use Rattle.listing.proofs.print_datagram.Goals as goal

pub overflow_mul-index : goal.overflow_mul-index
overflow_mul-index g c =
    let r = room c.args.datagram.now (replicate INDEX_LEN 0) _ _ c.in-Ok.ensures in
    omega arith

pub slice_bounds-index-end : goal.slice_bounds-index-end
slice_bounds-index-end g c = room c.args.datagram.now (replicate INDEX_LEN 0) _ _ c.in-Ok.ensures

pub slice_bounds-print_packets-end : goal.slice_bounds-print_packets-end
slice_bounds-print_packets-end g c =
    let r = room c.args.datagram.now (replicate INDEX_LEN 0) _ _ c.in-Ok.ensures in
    rw length-take (omega arith)

pub print_packets-requires : goal.print_packets-requires
print_packets-requires g c = cells c.args.datagram.now (replicate INDEX_LEN 0) _ _ c.in-Ok.ensures
