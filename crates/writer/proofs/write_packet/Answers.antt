-- The header is the packet's, and the payload stands right behind it. Assumes nothing.
use Rattle.std.proofs.Common.{ap, ◌∙◌, refl}
use Rattle.std.proofs.Math.Seq.{paste}
use Rattle.header.specs.Header.{header_bytes}
use Rattle.header.specs.declared.BluefinHeader.{BluefinHeader}
use Rattle.writer.proofs.Run.{header_made, packet_written}
use Rattle.writer.proofs.write_packet.Goals as goal

pub returns : goal.returns
returns c =
    let a = c.args in
    let header = header_made _ _ _ a.payload.now refl c.new.ensures c.new-header.ensures c.with_packet_number.ensures in
    packet_written _ _ _ a.payload.now a.out.now c.requires.1
    (c.serialise_at_unchecked.ensures ∙ ap (λ (h : BluefinHeader). paste a.out.now 0 (header_bytes h) 20) header) c.put.ensures
