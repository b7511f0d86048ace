-- A datagram too long or too short is refused as a whole; of any other the walk begins at its first byte. Assumes nothing.
use Rattle.std.proofs.Common.{refl, sym, ap, ◌∙◌, arith, zero-le}
use Rattle.packet.specs.Datagram.{reading_limit}
use Rattle.packet.specs.Step.{outcome}
use Rattle.packet.proofs.Walk.{out_ending, begin_long, begin_short, begin_walk}
use Rattle.packet.proofs.parse.Packets.new.Goals as goal

-- the code's limit by arithmetic here, so that another one is refused at the side on which it is wrong
pub returns-then-datagram-gt-READING_LIMIT : goal.returns-then-datagram-gt-READING_LIMIT
unfolding reading_limit
returns-then-datagram-gt-READING_LIMIT c index =
    out_ending _ 0 index zero-le (begin_long c.args.datagram.now (omega (arith, c.if-datagram-gt-READING_LIMIT.true))) ∙ rw c.into.ensures

pub returns-then-datagram-lt-HEADER_SIZE : goal.returns-then-datagram-lt-HEADER_SIZE
unfolding reading_limit
returns-then-datagram-lt-HEADER_SIZE c index =
    out_ending _ 0 index zero-le (begin_short c.args.datagram.now (omega (arith, c.if-datagram-gt-READING_LIMIT.false)) c.if-datagram-lt-HEADER_SIZE.true)
    ∙ rw (c.at.ensures.0, c.at.ensures.1)

pub returns : goal.returns
unfolding reading_limit
returns c =
    let walk = begin_walk c.args.datagram.now (omega (arith, c.if-datagram-gt-READING_LIMIT.false)) c.if-datagram-lt-HEADER_SIZE.false in
    (refl, refl, λ index. ap (outcome c.args.room 0 index) (sym walk))
