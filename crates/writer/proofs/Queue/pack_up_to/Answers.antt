-- The checks in their order, then the packets written and what leaves the queue. Assumes nothing.
use Rattle.std.proofs.Common.{◌≡◌, ◌∙◌, ◌+◌, ◌<◌, sym, arith, rules, length, take, Err}
use Rattle.std.proofs.Math.Seq.{length-take-le}
use Rattle.refusal.specs.declared.Refusal.TheVariants.{Exhausted}
use Rattle.writer.specs.Packing.{payload_size, packets_for}
use Rattle.lists.specs.Numbers.{largest}
use Rattle.writer.proofs.Packed.{packets_ceil, malformed, exhausted, short, packed}
use Rattle.writer.proofs.Queue.pack_up_to.Goals as goal

pub returns-then-not-adds_up : goal.returns-then-not-adds_up
returns-then-not-adds_up c = malformed _ _ _ _ _ _ _ (sym c.if-not-adds_up.ensures)

pub returns-in_err-next : goal.returns-in_err-next
unfolding payload_size
returns-in_err-next c =
    let p : c.div_ceil-p.result ≡ packets_for c.min-q.result = c.div_ceil-p.ensures ∙ packets_ceil c.min-q.result in
    let none = rw c.in_err-next.ensures.ok_part at c.checked_add.ensures in
    let over : largest < c.args.next_packet_num + packets_for c.min-q.result = omega arith in
    let refused : c.from_residual.result ≡ Err Exhausted = search rules in
    rw refused (exhausted _ _ _ _ _ _ _ (sym c.if-not-adds_up.ensures) c.min-q.ensures over)

pub returns-then-out-q : goal.returns-then-out-q
unfolding payload_size
returns-then-out-q c =
    let p : c.div_ceil-p.result ≡ packets_for c.min-q.result = c.div_ceil-p.ensures ∙ packets_ceil c.min-q.result in
    let some = rw c.in_ok-next.ensures.ok_part at c.checked_add.ensures in
    short _ _ _ _ _ _ _ (sym c.if-not-adds_up.ensures) c.min-q.ensures (omega arith) (omega (arith, c.if-out-q.true))

pub write_packets-requires : goal.write_packets-requires
unfolding payload_size
write_packets-requires c =
    let p : c.div_ceil-p.result ≡ packets_for c.min-q.result = c.div_ceil-p.ensures ∙ packets_ceil c.min-q.result in
    let some = rw c.in_ok-next.ensures.ok_part at c.checked_add.ensures in
    let long : length (take c.min-q.result c.args.self.now.bytes.now) ≡ c.min-q.result = length-take-le _ _ (omega arith) in
    rw long (omega (arith, c.if-out-q.false))

pub returns : goal.returns
unfolding payload_size
returns c =
    let p : c.div_ceil-p.result ≡ packets_for c.min-q.result = c.div_ceil-p.ensures ∙ packets_ceil c.min-q.result in
    let some = rw c.in_ok-next.ensures.ok_part at c.checked_add.ensures in
    let next : c.in_ok-next.next ≡ c.args.next_packet_num + packets_for c.min-q.result = omega arith in
    rw (p, next)
    (packed _ _ _ _ _ _ _ (sym c.if-not-adds_up.ensures) c.min-q.ensures (omega arith) (omega (arith, c.if-out-q.false)) c.write_packets.ensures c.removed_up_to-removal.ensures)
