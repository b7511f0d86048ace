-- What was counted decides the answer; what is copied and taken then is as much as was counted.
use Rattle.ordered_bytes.specs.Buffer.{buffer_now}
use Rattle.ordered_bytes.proofs.Gathered.{again_length, pieces_short, pieces_none, pieces_room, pieces-given}
use Rattle.ordered_bytes.proofs.BufferViewMut.consume_bytes_unchecked.Goals as goal

pub returns-then-buf-taken-clause-value : goal.returns-then-buf-taken-clause-value
returns-then-buf-taken-clause-value c =
    pieces_short (buffer_now c.args.self.now) c.args.limit c.args.buf.now c.args.list.now c.requires (rw c.assume_checked-checked.ensures.whole at c.count_pieces-pieces.ensures) c.then-buf-taken.either

pub returns-then-pieces-eq0-clause-value : goal.returns-then-pieces-eq0-clause-value
returns-then-pieces-eq0-clause-value c =
    pieces_none (buffer_now c.args.self.now) c.args.limit c.args.buf.now c.args.list.now c.requires (rw c.assume_checked-checked.ensures.whole at c.count_pieces-pieces.ensures)
    c.if-buf-taken.false c.if-list-pieces.false c.if-pieces-eq0.true

pub copy_pieces-requires-clause-all_held : goal.copy_pieces-requires-clause-all_held
copy_pieces-requires-clause-all_held c = rw c.assume_checked-checked.ensures.whole (again_length (buffer_now c.args.self.now) c.args.limit (rw c.assume_checked-checked.ensures.whole at c.count_pieces-pieces.ensures.packets))

pub copy_pieces-requires-clause-room_for : goal.copy_pieces-requires-clause-room_for
copy_pieces-requires-clause-room_for c =
    rw c.assume_checked-checked.ensures.whole
    (pieces_room (buffer_now c.args.self.now) c.args.limit c.args.buf.now c.args.list.now c.requires (rw c.assume_checked-checked.ensures.whole at c.count_pieces-pieces.ensures)
    c.if-buf-taken.false c.if-list-pieces.false)

pub take_packets-requires-clause-all_held : goal.take_packets-requires-clause-all_held
take_packets-requires-clause-all_held c = again_length (buffer_now c.args.self.now) c.args.limit (rw c.assume_checked-checked.ensures.whole at c.count_pieces-pieces.ensures.packets)

pub returns-clause-value : goal.returns-clause-value
returns-clause-value c =
    pieces-given (buffer_now c.args.self.now) c.args.limit c.args.buf.now c.args.list.now c.requires (rw c.assume_checked-checked.ensures.whole at c.count_pieces-pieces.ensures)
    c.if-buf-taken.false c.if-list-pieces.false c.if-pieces-eq0.false c.take_packets.ensures.value (rw c.assume_checked-checked.ensures.whole at c.copy_pieces.ensures)
