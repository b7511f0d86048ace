-- A turn writes the first of the lengths left. Assumes nothing.
use Rattle.std.proofs.Common.{◌∙◌, sym, arith, length-set}
use Rattle.packet.specs.Sizes.{payload_size}
use Rattle.outstanding.proofs.Loops.{length_more, lengths_end}
use Rattle.outstanding.proofs.put_lengths.Goals as goal

pub loop-length-preserved : goal.loop-length-preserved
unfolding payload_size
loop-length-preserved c =
    let w = c.loop-length in
    simp length-set (length_more w.lengths w.length-index w.left c.min-part.result c.min-part.ensures (omega arith) ∙ w.invariant)

pub returns : goal.returns
returns c =
    let w = c.loop-length in
    sym (lengths_end w.lengths w.length-index _ (omega arith)) ∙ w.invariant
