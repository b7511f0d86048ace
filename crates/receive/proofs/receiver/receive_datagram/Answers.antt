-- One test of refusal 12, and then what the calls, one after another, would do. Assumes nothing.
use Rattle.std.proofs.Common.{List, sym, ap, ◌∙◌, arith}
use Rattle.packet.specs.Packet.{Packet}
use Rattle.packet.proofs.Index.{cut_many, cut_same, cut_within}
use Rattle.receive.specs.Datagram.{progress, takes_all}
use Rattle.receive.proofs.Whole.{lists, few, whole-taken, whole-malformed, whole_short}
use Rattle.receive.proofs.receiver.receive_datagram.Goals as goal

pub returns-then-not-well_formed-clause-value : goal.returns-then-not-well_formed-clause-value
returns-then-not-well_formed-clause-value g c =
    let a = c.args in
    rw (c.into.ensures, c.from.ensures)
    (whole-malformed g.R.Receiver.kind g.R.Receiver.call (g.R.Receiver.state a.receiver.now) a.datagram.now a.index.now a.answers.now
    (sym c.well_formed-2.ensures ∙ c.if-not-well_formed.true))

pub returns-then-answers-index-clause-value : goal.returns-then-answers-index-clause-value
returns-then-answers-index-clause-value g c =
    let a = c.args in
    rw (c.into-then-answers-index.ensures, c.from-then-answers-index.ensures)
    (whole_short g.R.Receiver.kind g.R.Receiver.call (g.R.Receiver.state a.receiver.now) a.datagram.now a.index.now a.answers.now
    (sym c.well_formed-2.ensures ∙ c.if-not-well_formed.false) c.if-answers-index.true)

pub take_listed-requires : goal.take_listed-requires
take_listed-requires g c =
    let a = c.args in
    let e = c.index_packets-indexed.ensures in
    let all = lists a.datagram.now a.index.now e in (
      sym c.well_formed-2.ensures ∙ c.if-not-well_formed.false,
      cut_within a.datagram.now _ _ all,
      omega (arith, cut_many a.datagram.now _ _ all, few a.datagram.now a.index.now e, c.if-answers-index.false),
    )

pub returns-clause-value : goal.returns-clause-value
returns-clause-value g c =
    let a = c.args in
    let r = g.R.Receiver in
    let e = c.index_packets-indexed.ensures in
    let same = cut_same a.datagram.now _ _ (lists a.datagram.now a.index.now e) in
    whole-taken a.datagram.now a.index.now e r.kind r.call (r.state a.receiver.now) a.answers.now
    (sym c.well_formed-2.ensures ∙ c.if-not-well_formed.false) c.if-answers-index.false
    (c.take_listed.ensures.value ∙ ap (λ (ps : List Packet). takes_all r.kind r.call 0 ps (progress (r.state a.receiver.now) a.answers.now)) same)
