-- The payload bytes that a datagram's headers announce: document 01, "From a datagram to packets", its last paragraph. Reference: `payload_bytes_in_datagram`.
use Rattle.std.specs.Prelude.{ℕ, zero, suc, ◌+◌, cond, ◌||◌, List, length, ltb}
use Rattle.header.specs.Header.{field_at}

-- "adds the fields of all packets of any type, stopping where header or payload would run past the end".
-- Every packet has 20 bytes or more, so that as many steps as there are bytes left, and one, are enough.
unfoldable pub payload_bytes_by : ℕ → List ℕ → ℕ → ℕ
payload_bytes_by zero s at = 0
payload_bytes_by (suc steps) s at =
    cond (ltb (length s) (at + 20) || ltb (length s) (at + 20 + field_at s at)) 0
    (field_at s at + payload_bytes_by steps s (at + 20 + field_at s at))

abbrev pub payload_bytes : List ℕ → ℕ
payload_bytes s = payload_bytes_by (suc (length s)) s 0
