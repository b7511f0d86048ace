-- Each turn takes one packet off what is left to do. Assumes nothing.
use Rattle.std.proofs.Common.{ap, sym, ◌∙◌, arith}
use Rattle.std.specs.Iterator.Adapters.{enumerate_source, enumerate_count}
use Rattle.std.specs.Slice.Iter.{chunks_exact_rest, chunks_exact_size}
use Rattle.packet.proofs.Index.{first_cell}
use Rattle.receive.proofs.Takes.{rest, rest_on, rest_end}
use Rattle.receive.proofs.receiver.take_listed.Goals as goal

pub loop-i-init : goal.loop-i-init
loop-i-init g c =
    let made = c.into_iter-i-iterator.ensures.into_iter_gives in
    let count = ap enumerate_count made ∙ c.enumerate-i-items.ensures.count in
    let source = ap enumerate_source made ∙ c.enumerate-i-items.ensures.source in
    let cells = ap chunks_exact_rest source ∙ c.chunks_exact.ensures.rest in record {
      size = ap chunks_exact_size source ∙ c.chunks_exact.ensures.size;
      listed = rw cells c.requires.1;
      room = rw (cells, count) (omega (arith, c.requires.2));
      well = c.requires.0;
      kept = g.met.R.Receiver.kept_none _;
      same = rw (cells, count);
    }

pub invariant_of-packet : goal.invariant_of-packet
invariant_of-packet g c =
    let h = c.in-Some.ensures.steps in
    let inv = c.loop-i.invariant in
    let cell = first_cell c.args.datagram.now _ _ inv.listed h.0.1.0 (h.0.1.1 ∙ inv.size) in
    record { within = cell.within }

pub loop-i-preserved : goal.loop-i-preserved
loop-i-preserved g c =
    let r = g.R.Receiver in
    let s = c.args.datagram.now in
    let e = c.take_one.ensures in
    let h = c.in-Some.ensures.steps in
    let inv = c.loop-i.invariant in
    let cell = first_cell s _ _ inv.listed h.0.1.0 (h.0.1.1 ∙ inv.size) in
    let items = c.next.new.self in record {
      size = h.0.0 ∙ inv.size;
      listed = cell.behind;
      room = omega (arith, inv.room, cell.more, h.2);
      well = e.value.good;
      kept = g.met.R.Receiver.kept_both _ _ _ inv.kept e.kept;
      same = ap (rest r.kind r.call s (enumerate_count items) (chunks_exact_rest (enumerate_source items))) e.value.same
          ∙ rest_on r.kind r.call s _ h.1 h.2 cell
          ∙ inv.same;
    }

pub returns-clause-value : goal.returns-clause-value
returns-clause-value g c =
    let inv = c.loop-i.invariant in
    let few = c.in-None.ensures.steps.0.1.0 in
    sym (rest_end g.R.Receiver.kind g.R.Receiver.call c.args.datagram.now _ _ _ (omega (arith, inv.size, few))) ∙ inv.same
