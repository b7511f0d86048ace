-- What is read from the datagram is the listed packet's, and `insert_range` keeps the window well formed. Assumes nothing.
use Rattle.std.proofs.Common.{ap₂, ◌∙◌}
use Rattle.header.specs.Header.{field_at, packet_number_at}
use Rattle.receive.proofs.Steps.{entered, entered_well}
use Rattle.receive.proofs.acks.WindowViewMutReceiver.take_unchecked.Goals as goal

pub returns-clause-well : goal.returns-clause-well
returns-clause-well c = entered_well c.args.self.now.state c.args.self.now.cells.now _ _ c.insert_range_unchecked.ensures.outcome c.requires

pub returns-clause-value : goal.returns-clause-value
returns-clause-value c =
    let p = c.args.packet.now in
    entered p.datagram.now p.at c.args.self.now.state c.args.self.now.cells.now p.len
    (c.number.ensures ∙ ap₂ packet_number_at c.header-header.ensures.0 c.header-header.ensures.1)
    (c.field.ensures ∙ ap₂ field_at c.header-header.ensures.0 c.header-header.ensures.1)
    c.insert_range_unchecked.ensures.outcome
