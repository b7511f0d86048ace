-- A turn adds one length, and past the last none is left. Assumes nothing.
use Rattle.std.proofs.Common.{arith}
use Rattle.writer.proofs.Entries.{sum_next, sum_end}
use Rattle.writer.proofs.checked_sum_of.Goals as goal

pub returns-in_err-sum : goal.returns-in_err-sum
returns-in_err-sum c =
    let next = sum_next c.args.lengths.now c.loop-length.length-index c.loop-length-test.true in
    let over = c.in_err-sum.ensures in
    rw c.from_residual.ensures (λ fits. omega arith)

pub loop-length-preserved : goal.loop-length-preserved
loop-length-preserved c =
    let next = sum_next c.args.lengths.now c.loop-length.length-index c.loop-length-test.true in
    let added = c.in_ok-sum.ensures in
    omega arith

pub returns : goal.returns
returns c = omega (arith, sum_end c.args.lengths.now c.loop-length.length-index c.loop-length-test.false)
