-- Which packets are printed: each is one of the datagram's, by its offset and its payload length.
use Rattle.std.specs.Prelude.{ℕ, List, Contains}
use Rattle.packet.specs.Datagram.{packets_of}

-- a packet of the datagram, by its offset and its payload length
abbrev pub IsPacket : List ℕ → ℕ → ℕ → Type 0
IsPacket s offset payload_len = Contains (packets_of s).cells (offset, payload_len)
