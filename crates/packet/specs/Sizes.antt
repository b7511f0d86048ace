-- Document 01's sizes of a packet and of a datagram, which what is sent and what is kept of it name alike.
use Rattle.std.specs.Prelude.{ℕ}

-- "Every payload is 1,500 bytes"
unfoldable pub payload_size : ℕ
payload_size = 1500

-- "(15,200 − used) / 20": the bytes of a datagram. The Rust's `MAX_BLUEFIN_BYTES_IN_UDP_DATAGRAM`
unfoldable pub datagram_limit : ℕ
datagram_limit = 15200
