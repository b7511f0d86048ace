-- One packet: a header beside a payload, written and read alone. Document 01, "The header, last leaf"; core/packet.rs.
use Rattle.std.specs.Prelude.{ℕ, ◌+◌, List, [], ◌∷◌, ◌++◌, length, drop, ltb}
use Rattle.std.proofs.Math.Seq.{paste}
use Rattle.refusal.specs.Said.{Said, answers, refuses, refuses_at, checks}
use Rattle.header.specs.Header.{header_bytes, deserialises_at, fields_too_large}
use Rattle.header.specs.declared.BluefinHeader.{BluefinHeader}

pub record Packet : Type 0 where
  pub header : BluefinHeader
  pub payload : List ℕ

abbrev pub packet_bytes : Packet → List ℕ
packet_bytes p = header_bytes p.header ++ p.payload

-- packets end to end: the bytes of the datagram that they make
unfoldable pub joined : List Packet → List ℕ
joined [] = []
joined (p ∷ ps) = packet_bytes p ++ joined ps

-- "Writing version above 15 or mask above 127: 11; then buffer short: 10. A packet's field isn't checked against its payload on writing.
-- Writing answers the bytes written; those after them stay."
abbrev pub serialises_into : Packet → List ℕ → Said ℕ × List ℕ
serialises_into p buf =
    checks ((fields_too_large p.header, 11) ∷ (ltb (length buf) (20 + length p.payload), 10) ∷ [])
    (λ n. (refuses n, buf))
    (answers (20 + length p.payload), paste buf 0 (packet_bytes p) (20 + length p.payload))

-- "A packet read alone (`BluefinPacket::deserialise`) is a header and all bytes after it; under 20 bytes: 1."
abbrev pub deserialises : List ℕ → Said BluefinHeader
deserialises s = checks ((ltb (length s) 20, 1) ∷ []) (λ n. refuses_at n 0) (deserialises_at s 0)

-- "all bytes after it"
abbrev pub payload_of : List ℕ → List ℕ
payload_of s = drop 20 s
