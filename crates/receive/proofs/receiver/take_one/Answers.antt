-- One packet: another type leaves all as it was, and one of the type is taken as the definition takes it. Assumes nothing.
use Rattle.std.proofs.Common.{◌≡◌, sym, ap, ap₂, ◌∙◌, true}
use Rattle.refusal.specs.Said.{Said, refusal_in}
use Rattle.header.specs.Header.{type_at}
use Rattle.receive.proofs.Takes.{taken_other, taken-one}
use Rattle.receive.proofs.receiver.take_one.Goals as goal

pub returns-then-type_number-from-clause-value : goal.returns-then-type_number-from-clause-value
returns-then-type_number-from-clause-value g c =
    let r = g.R.Receiver in
    let p = c.args.packet.now in
    taken_other (λ x. r.well x ≡ true) r.kind r.call g.met.R.Receiver.early _ _ p.at p.len (r.state c.args.receiver.now) _
    (c.type_number.ensures ∙ ap₂ type_at c.header.ensures.0 c.header.ensures.1) (λ e. c.if-type_number-from.true (e ∙ sym (c.from.ensures ∙ c.packet_type.ensures))) c.requires.0

pub returns-clause-value : goal.returns-clause-value
returns-clause-value g c =
    let r = g.R.Receiver in
    let p = c.args.packet.now in
    let call = c.take_unchecked-taken.ensures in
    taken-one (λ x. r.well x ≡ true) r.kind r.call g.met.R.Receiver.early _ c.args.i p.at p.len (r.state c.args.receiver.now) _
    (c.type_number.ensures ∙ ap₂ type_at c.header.ensures.0 c.header.ensures.1) (c.if-type_number-from.false ∙ c.from.ensures ∙ c.packet_type.ensures)
    (c.refusal_in.ensures ∙ ap (λ (x : Said Unit × r.State). refusal_in x.0) call.value) (ap (λ (x : Said Unit × r.State). x.1) call.value) call.well
