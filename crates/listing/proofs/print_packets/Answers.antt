-- The numbers of a cell are those of the packet whose turn it is. Assumes nothing.
use Rattle.std.proofs.Common.{length, ◌∙◌}
use Rattle.std.proofs.lemmas.List.{length_push}
use Rattle.listing.proofs.Lists.{next_cell}
use Rattle.listing.proofs.print_packets.Goals as goal

pub invariant_of-header : goal.invariant_of-header
invariant_of-header g c =
    let steps = c.in-Some.ensures.steps in
    let inv = c.loop-cell.invariant in
    record { within = (next_cell c.args.datagram.now (length c.loop-cell.yielded) inv.0 inv.1 steps.1.0 steps.1.1).within }

pub print_packet-requires : goal.print_packet-requires
print_packet-requires g c =
    let steps = c.in-Some.ensures.steps in
    let inv = c.loop-cell.invariant in
    (next_cell c.args.datagram.now (length c.loop-cell.yielded) inv.0 inv.1 steps.1.0 steps.1.1).packet

pub loop-cell-preserved : goal.loop-cell-preserved
loop-cell-preserved g c =
    let steps = c.in-Some.ensures.steps in
    let inv = c.loop-cell.invariant in
    let next = next_cell c.args.datagram.now (length c.loop-cell.yielded) inv.0 inv.1 steps.1.0 steps.1.1 in
    (steps.0 ∙ inv.0, rw (length_push c.loop-cell.yielded c.in-Some.cell) next.behind)
