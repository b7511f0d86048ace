-- What is read from the datagram is the listed packet's, and `buffer_in_packet` keeps the buffer well formed. Assumes nothing.
use Rattle.std.proofs.Common.{◌≡◌, ap, ap₂, ◌∙◌, arith, rules}
use Rattle.refusal.specs.Said.{Said, says}
use Rattle.header.specs.Header.{packet_number_at}
use Rattle.ordered_bytes.specs.Buffer.{buffer_now}
use Rattle.ordered_bytes.specs.Calls.{accepted_says}
use Rattle.receive.proofs.Steps.{accepted, accepted_well}
use Rattle.receive.proofs.data.BufferViewMutReceiver.take_unchecked.Goals as goal

pub returns-clause-well : goal.returns-clause-well
returns-clause-well c =
    accepted_well (buffer_now c.args.self.now) _ _ (omega (arith, c.number.type_inv)) c.buffer_in_packet_unchecked.ensures.value c.requires

pub returns-clause-value : goal.returns-clause-value
returns-clause-value c =
    let p = c.args.packet.now in
    let number = c.number.ensures ∙ ap₂ packet_number_at c.header.ensures.0 c.header.ensures.1 in
    let said : says {B = Unit} (λ x. x) c.map_err.result ≡ accepted_says c.buffer_in_packet_unchecked.result = search rules in
    ap (λ (s : Said Unit). (s, buffer_now c.buffer_in_packet_unchecked.new.self)) said
    ∙ accepted p.datagram.now p.at (buffer_now c.args.self.now) p.len number c.payload.ensures c.buffer_in_packet_unchecked.ensures.value
