-- A part of the carry-over, or all of it and what the walk gives.
use Rattle.ordered_bytes.proofs.Given.{part_read, whole_read}
use Rattle.ordered_bytes.proofs.checked.Checked.read_bytes.Goals as goal

pub returns-then-len-carry_len : goal.returns-then-len-carry_len
returns-then-len-carry_len c =
    let place = c.carry_at-carry_at.ensures.value in
    rw place (part_read c.args.self.now.good c.args.len c.args.buf.now c.if-len-carry_len.true c.min.ensures (rw place at c.copy_part.ensures))

pub returns : goal.returns
returns c =
    whole_read c.args.self.now.good c.args.len c.args.buf.now c.if-len-carry_len.false c.requires c.min.ensures
    (rw c.carry_at-carry_at.ensures.value at c.copy_part.ensures) c.walk_packets-walked.ensures c.base_packet_number.ensures c.unless_empty.ensures
