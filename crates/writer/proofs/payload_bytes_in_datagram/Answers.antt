-- A header whose payload does not follow whole announces nothing, another one its field, and a tail of under 20 bytes nothing. Assumes nothing.
use Rattle.std.proofs.Common.{arith}
use Rattle.writer.proofs.Announced.{announced_first, announced_tail, announced_short, announced_next}
use Rattle.writer.proofs.payload_bytes_in_datagram.Goals as goal

pub loop-at-init : goal.loop-at-init
loop-at-init c = omega (arith, announced_first c.args.datagram.now)

pub returns-then-datagram-at : goal.returns-then-datagram-at
returns-then-datagram-at c =
    let none = announced_short c.args.datagram.now c.loop-at.at c.loop-at-test.true c.field-field.ensures c.if-datagram-at.true in
    omega arith

pub loop-at-preserved : goal.loop-at-preserved
loop-at-preserved c =
    let next = announced_next c.args.datagram.now c.loop-at.at c.loop-at-test.true c.field-field.ensures c.if-datagram-at.false in
    omega arith

pub returns : goal.returns
returns c = omega (arith, announced_tail c.args.datagram.now c.loop-at.at c.loop-at-test.false)
