-- A turn writes the first of the numbers left. Assumes nothing.
use Rattle.std.proofs.Common.{◌∙◌, sym, arith, length-set}
use Rattle.outstanding.proofs.Loops.{number_more, numbers_end}
use Rattle.outstanding.proofs.put_numbers.Goals as goal

pub loop-i-preserved : goal.loop-i-preserved
loop-i-preserved c =
    let w = c.loop-i in
    simp length-set (number_more w.numbers w.i c.args.next (omega arith) ∙ w.invariant)

pub returns : goal.returns
returns c =
    let w = c.loop-i in
    sym (numbers_end w.numbers w.i _ (omega arith)) ∙ w.invariant
