-- What goes with the bytes that are left, of the entries that the blocks have left, after those passed, is what goes in all.
use Rattle.std.proofs.Common.{◌≡◌, ◌+◌, length}
use Rattle.std.specs.Slice.Iter.{chunks_rest, chunks_size}
use Rattle.writer.specs.Packing.{removal}
use Rattle.writer.proofs.Entries.{after}
use Rattle.writer.proofs.Queue.removed_with.Given as goal

abbrev pub invariant-loop-block : goal.invariant-loop-block
invariant-loop-block l =
    (chunks_size l.block-iterator ≡ 64)
    × (l.passed + length (chunks_rest l.block-iterator) ≡ length l.self.lengths.now)
    × (after l.passed (removal l.left (chunks_rest l.block-iterator)) ≡ removal l.q l.self.lengths.now)
