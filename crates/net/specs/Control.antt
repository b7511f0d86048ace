-- The packet that is a header alone, and writing a FIN or a FIN-ACK: document 01, "Closing"; net/mod.rs and worker/writer.rs.
use Rattle.std.specs.Prelude.{ℕ, List, [], ◌∷◌, length, ltb}
use Rattle.std.proofs.Math.Seq.{paste}
use Rattle.refusal.specs.Said.{Said, answers, refuses, checks}
use Rattle.header.specs.declared.PacketType.{PacketType}
use Rattle.header.specs.declared.BluefinHeader.{BluefinHeader}
use Rattle.header.specs.Types.{type_of}
use Rattle.header.specs.Header.{header_bytes, plain_header}

-- the empty packet: version 0, field 0, not encrypted, mask 0; a packet with no payload is its header
abbrev pub header_alone : PacketType → ℕ → ℕ → ℕ → BluefinHeader
header_alone type source destination number = plain_header source destination type 0 number

-- "writing either header is another [call], with 10 only"; "Writing answers the bytes written; those after them stay."
abbrev pub writes_control : PacketType → ℕ → ℕ → ℕ → List ℕ → Said ℕ × List ℕ
writes_control type source destination number buf =
    checks ((ltb (length buf) 20, 10) ∷ [])
    (λ n. (refuses n, buf))
    (answers 20, paste buf 0 (header_bytes (header_alone type source destination number)) 20)

-- "A FIN or FIN-ACK is a header alone, type 5 or 6, field 0"
abbrev pub writes_fin : ℕ → ℕ → ℕ → List ℕ → Said ℕ × List ℕ
writes_fin = writes_control (type_of 5)

abbrev pub writes_fin_ack : ℕ → ℕ → ℕ → List ℕ → Said ℕ × List ℕ
writes_fin_ack = writes_control (type_of 6)
