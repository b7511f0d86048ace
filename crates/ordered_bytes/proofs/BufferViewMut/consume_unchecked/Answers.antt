-- What was read is what the definition gives.
use borrow.Author.Tests.{lt-ltb, le-ltb}
use Rattle.ordered_bytes.specs.Buffer.{buffer_now, view}
use Rattle.ordered_bytes.specs.Calls.{consuming}
use Rattle.ordered_bytes.proofs.Walk.{consumed_took}
use Rattle.ordered_bytes.proofs.Given.{read_given}
use Rattle.ordered_bytes.proofs.BufferViewMut.consume_unchecked.Goals as goal

pub returns-then-buf-len-clause-value : goal.returns-then-buf-len-clause-value
unfolding consuming
returns-then-buf-len-clause-value c = simp (c.requires, lt-ltb _ _ c.if-buf-len.true)

pub take_packets-requires-clause-all_held : goal.take_packets-requires-clause-all_held
take_packets-requires-clause-all_held c =
    let e = rw c.assume_checked.ensures.whole at c.read_bytes-read.ensures in
    rw e.packets (consumed_took (view (buffer_now c.args.self.now)) c.args.len).were

pub returns-clause-value : goal.returns-clause-value
unfolding consuming
returns-clause-value c =
    simp (c.requires, le-ltb _ _ c.if-buf-len.false)
    (read_given c.assume_checked.ensures.good c.args.len c.args.buf.now (rw c.assume_checked.ensures.whole at c.read_bytes-read.ensures) c.take_packets.ensures.value)
