-- A turn writes the packet of the next chunk, and past the last nothing is left to write. Assumes nothing.
use Rattle.std.specs.Iterator.Adapters.{enumerate_source, enumerate_count}
use Rattle.std.specs.Slice.Iter.{chunks_rest, chunks_size}
use Rattle.std.proofs.Common.{◌*◌, ◌≤◌, ap, ◌∙◌, arith, length, length-drop, length-take}
use Rattle.writer.specs.Packing.{payload_size}
use Rattle.writer.proofs.Run.{Chunk, chunked_first, chunk_fits, chunk_next, chunked_all}
use Rattle.writer.proofs.write_packets.Goals as goal

pub loop-i-init : goal.loop-i-init
loop-i-init c =
    let a = c.args in
    let made = c.into_iter-i-iterator.ensures.into_iter_gives in
    let count = ap enumerate_count made ∙ c.enumerate-i-items.ensures.count in
    let source = ap enumerate_source made ∙ c.enumerate-i-items.ensures.source in (
      ap chunks_size source ∙ c.chunks.ensures.size,
      chunked_first a.ids.source a.ids.destination a.next_packet_num a.taken.now a.out.now c.requires.0 c.requires.1 count (ap chunks_rest source ∙ c.chunks.ensures.rest),
    )

pub overflow_add-next_packet_num : goal.overflow_add-next_packet_num
unfolding payload_size
overflow_add-next_packet_num c =
    let h = c.in-Some.ensures.steps in
    let part : Chunk _ _ _ = record { split = h.0.1.0; size = rw c.loop-i.invariant.0 at h.0.1.1; some = h.0.1.2 } in
    omega (arith, chunk_fits c.loop-i.invariant.1 part)

pub slice_bounds-write_packet-count : goal.slice_bounds-write_packet-count
unfolding payload_size
slice_bounds-write_packet-count c =
    let h = c.in-Some.ensures.steps in
    let part : Chunk _ _ _ = record { split = h.0.1.0; size = rw c.loop-i.invariant.0 at h.0.1.1; some = h.0.1.2 } in
    omega (arith, chunk_fits c.loop-i.invariant.1 part)

pub slice_bounds-write_packet-start : goal.slice_bounds-write_packet-start
unfolding payload_size
slice_bounds-write_packet-start c =
    let h = c.in-Some.ensures.steps in
    let part : Chunk _ _ _ = record { split = h.0.1.0; size = rw c.loop-i.invariant.0 at h.0.1.1; some = h.0.1.2 } in
    let f = chunk_fits c.loop-i.invariant.1 part in
    let within : c.in-Some.i * 1520 ≤ length c.loop-i.out = omega arith in
    within

pub write_packet-requires : goal.write_packet-requires
unfolding payload_size
write_packet-requires c =
    let h = c.in-Some.ensures.steps in
    let part : Chunk _ _ _ = record { split = h.0.1.0; size = rw c.loop-i.invariant.0 at h.0.1.1; some = h.0.1.2 } in
    let f = chunk_fits c.loop-i.invariant.1 part in
    (f.small, simp (length-take, length-drop) (omega arith))

pub loop-i-preserved : goal.loop-i-preserved
unfolding payload_size
loop-i-preserved c =
    let h = c.in-Some.ensures.steps in
    let part : Chunk _ _ _ = record { split = h.0.1.0; size = rw c.loop-i.invariant.0 at h.0.1.1; some = h.0.1.2 } in
    (h.0.0 ∙ c.loop-i.invariant.0, chunk_next c.loop-i.invariant.1 part h.1 h.2 c.write_packet.ensures)

pub returns : goal.returns
returns c = chunked_all c.loop-i.invariant.1 c.in-None.ensures.steps.0.1.0
