-- A turn pops one ack, and writes its header behind the others. Assumes nothing.
use Rattle.std.proofs.Common.{◌≡◌, sym, ◌∙◌, take, arith, false}
use Rattle.ring_buffer.specs.Ring.{contents}
use Rattle.ring_buffer.proofs.Popping.{none_popped, popped_well, popped_next, popped_record}
use Rattle.writer.specs.Acks.{any_too_large}
use Rattle.writer.proofs.AckTurns.{written_none, written_next, ack_small}
use Rattle.writer.proofs.acks.consume_acks_into.Goals as goal

pub loop-i-init : goal.loop-i-init
loop-i-init c =
    let v = c.args.ring.now in record {
      popped = none_popped v (sym c.if-not-well_formed.ensures);
      out = written_none v.state v.records.now c.args.used c.args.ids.source c.args.ids.destination c.args.out.now;
    }

pub pop_front_unchecked-ack-requires-clause-well : goal.pop_front_unchecked-ack-requires-clause-well
pop_front_unchecked-ack-requires-clause-well c = popped_well c.loop-i.i c.args.ring.now c.loop-i.ring c.loop-i.invariant.popped (omega arith)

pub write_ack-requires-clause-count : goal.write_ack-requires-clause-count
write_ack-requires-clause-count c =
    let v = c.args.ring.now in
    let k = c.min-acks.result in
    let e = c.pop_front_unchecked-ack.ensures in
    let so_far = c.loop-i.invariant.popped in
    let small : any_too_large (take k (contents v.state v.records.now)) ≡ false = cc in
    rw (popped_record c.loop-i.i v c.loop-i.ring so_far (omega arith) c.pop_front_unchecked-ack.new.self c.pop_front_unchecked-ack.result e.lent e.popped)
    (ack_small v.state v.records.now so_far.well k c.loop-i.i c.loop-i-test.true (omega arith) small)

pub loop-i-preserved : goal.loop-i-preserved
loop-i-preserved c =
    let v = c.args.ring.now in
    let i = c.loop-i.i in
    let a = c.pop_front_unchecked-ack.result in
    let x = c.pop_front_unchecked-ack.new.self in
    let e = c.pop_front_unchecked-ack.ensures in
    let so_far = c.loop-i.invariant.popped in
    let here = popped_record i v c.loop-i.ring so_far (omega arith) x a e.lent e.popped in record {
      popped = popped_next i v c.loop-i.ring so_far (omega arith) x a e.lent e.popped;
      out = c.write_ack.ensures
          ∙ rw (c.loop-i.invariant.out, here) (written_next v.state v.records.now so_far.well c.args.used c.args.ids.source c.args.ids.destination c.args.out.now i (omega arith) (omega arith));
    }
