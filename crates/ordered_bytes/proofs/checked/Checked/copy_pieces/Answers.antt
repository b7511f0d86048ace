-- The carry-over first, the payloads behind it.
use Rattle.std.proofs.Common.{◌≡◌, cond, eqb, set, arith}
use mathlib.Core.List.{flatten}
use borrow.Author.Tests.{eq-eqb, ne_eqb}
use Rattle.ordered_bytes.specs.Buffer.{buffer_in, view}
use Rattle.ordered_bytes.specs.Steps.{held_payloads}
use Rattle.ordered_bytes.proofs.View.{length-carry}
use Rattle.ordered_bytes.proofs.Given.{carry_then}
use Rattle.ordered_bytes.proofs.Walk.{flatten_carry}
use Rattle.ordered_bytes.proofs.Gathered.{cells_written, room_behind}
use Rattle.ordered_bytes.proofs.checked.Checked.copy_pieces.Goals as goal
use Rattle.ordered_bytes.proofs.checked.Checked.copy_pieces.Goals.{then-carry_len-gt0, else-carry_len-gt0}

pub copy_part-requires : goal.copy_part-requires
copy_part-requires c =
    let behind = room_behind c.args.self.now.good c.args.packets c.args.buf.now c.args.list.now c.requires.room_for in
    let at = c.carry_at.ensures in
    (omega arith, omega arith, omega (arith, behind.bytes))

pub returns : goal.returns
returns c =
    let g = c.args.self.now.good in
    let v = c.args.self.now.view in
    let ps = held_payloads (buffer_in v) c.args.packets in
    let behind = room_behind g c.args.packets c.args.buf.now c.args.list.now c.requires.room_for in
    let copies = c.copy_payloads.ensures in
    let list_after : c.if-carry_len-gt0.list ≡ cond (eqb v.state.carry_len 0) c.args.list.now (set c.args.list.now 0 v.state.carry_len) =
    elim c.if-carry_len-gt0.branch [
      | then-carry_len-gt0 w ↦ rw (w.list-is, ne_eqb v.state.carry_len 0 (λ e. omega (arith, w.if-carry_len-gt0.true)))
      | else-carry_len-gt0 w ↦ rw (w.list-is, eq-eqb v.state.carry_len 0 (omega (arith, w.if-carry_len-gt0.false)))
    ] in
    let carried = rw c.carry_at.ensures.value at c.copy_part.ensures in
    record {
      bytes = rw (flatten_carry (view (buffer_in v)).carry ps) (carry_then g (flatten ps) c.args.buf.now (omega (arith, behind.bytes)) carried copies.bytes);
      cells = cells_written (view (buffer_in v)).carry c.args.list.now ps (length-carry g) c.carry_pieces.ensures (omega (arith, c.carry_pieces.ensures, behind.cells)) list_after copies.cells;
    }
