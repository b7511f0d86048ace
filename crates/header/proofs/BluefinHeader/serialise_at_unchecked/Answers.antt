-- The four parts of a header are put one behind the other. Assumes nothing.
use Rattle.std.proofs.Common.{◌∙◌}
use Rattle.parts.proofs.BigEndian.{to_be_bytes_4, to_be_bytes_8}
use Rattle.header.proofs.Parts.{written}
use Rattle.header.proofs.BluefinHeader.serialise_at_unchecked.Goals as goal

pub returns : goal.returns
returns c =
    written c.args.self c.args.buf.now c.args.at c.requires.2
    c.leading_bytes.ensures (c.to_be_bytes.ensures ∙ to_be_bytes_4 _) (c.to_be_bytes-2.ensures ∙ to_be_bytes_4 _) (c.to_be_bytes-3.ensures ∙ to_be_bytes_8 _)
    c.put.ensures c.put-2.ensures c.put-3.ensures c.put-4.ensures
