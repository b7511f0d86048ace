-- The header of 20 bytes: its bytes, what is read from bytes, and what each call says and leaves.
-- Carries document 01, "The header, last leaf".
use Rattle.std.specs.Prelude.{ℕ, ◌+◌, ◌*◌, ◌/◌, ◌%◌, Bool, false, cond, not, ◌||◌, List, [], ◌∷◌, ◌++◌, length, get_or, ltb, leb, eqb}
use Rattle.std.proofs.Math.Seq.{paste}
use Rattle.refusal.specs.Said.{Said, answers, refuses, refuses_at, checks}
use Rattle.parts.specs.BigEndian.{bytes_of, number_at}
use Rattle.header.specs.declared.PacketType.{PacketType}
use Rattle.header.specs.declared.BluefinSecurityFields.{BluefinSecurityFields}
use Rattle.header.specs.declared.BluefinHeader.{BluefinHeader}
use Rattle.header.specs.Types.{type_number, type_of, row_of}

-- "security byte (bit 7 encrypted, low 7 mask)"
abbrev pub security_byte : BluefinSecurityFields → ℕ
security_byte f = cond f.header_encrypted (128 + f.header_protection_mask) f.header_protection_mask

-- the fields in a security byte
abbrev pub security_of : ℕ → BluefinSecurityFields
security_of b = record { header_encrypted = leb 128 b; header_protection_mask = b % 128 }

-- "version (high four bits) and type; field, 2; security byte": the four bytes before the ids
abbrev pub leading_bytes : BluefinHeader → List ℕ
leading_bytes h =
    ((h.version * 16 + type_number h.type_field) ∷ [])
    ++ bytes_of 2 h.type_specific_payload
    ++ (security_byte h.security_fields ∷ [])

-- "20 bytes: ..; source, 4; destination, 4; packet number, 8"
unfoldable pub header_bytes : BluefinHeader → List ℕ
header_bytes h =
    leading_bytes h
    ++ bytes_of 4 h.source_connection_id
    ++ bytes_of 4 h.destination_connection_id
    ++ bytes_of 8 h.packet_number

-- type number, field and packet number of the header at `at`: who reads no more of it reads these
abbrev pub type_at : List ℕ → ℕ → ℕ
type_at s at = get_or s at 0 % 16

abbrev pub field_at : List ℕ → ℕ → ℕ
field_at s at = number_at s (at + 1) 2

abbrev pub packet_number_at : List ℕ → ℕ → ℕ
packet_number_at s at = number_at s (at + 12) 8

-- the header in the 20 bytes of s from `at` on, where its type is known
unfoldable pub header_at : List ℕ → ℕ → BluefinHeader
header_at s at =
    record {
      version = get_or s at 0 / 16;
      type_field = type_of (type_at s at);
      type_specific_payload = field_at s at;
      security_fields = security_of (get_or s (at + 3) 0);
      source_connection_id = number_at s (at + 4) 4;
      destination_connection_id = number_at s (at + 8) 4;
      packet_number = packet_number_at s at;
    }

-- a header made anew has version 0 and number 0
abbrev pub header_of : ℕ → ℕ → PacketType → ℕ → BluefinSecurityFields → BluefinHeader
header_of source destination type field security =
    record {
      version = 0;
      type_field = type;
      type_specific_payload = field;
      security_fields = security;
      source_connection_id = source;
      destination_connection_id = destination;
      packet_number = 0;
    }

-- a header with another packet number
abbrev pub with_number : BluefinHeader → ℕ → BluefinHeader
with_number h n = record h { packet_number = n }

-- a header that is not encrypted, and has mask 0: every header that the link makes
abbrev pub plain_header : ℕ → ℕ → PacketType → ℕ → ℕ → BluefinHeader
plain_header source destination type field number =
    with_number (header_of source destination type field (record { header_encrypted = false; header_protection_mask = 0 })) number

-- What the calls say, and leave.

-- a mask that 7 bits do not hold
abbrev pub mask_too_large : BluefinSecurityFields → Bool
mask_too_large f = ltb 127 f.header_protection_mask

-- "mask above 127: 11"
abbrev pub serialises_security : BluefinSecurityFields → Said ℕ
serialises_security f = checks ((mask_too_large f, 11) ∷ []) refuses (answers (security_byte f))

-- the fields of the first byte; none: 1
abbrev pub deserialises_security : List ℕ → Said BluefinSecurityFields
deserialises_security s = checks ((eqb (length s) 0, 1) ∷ []) (λ n. refuses_at n 0) (answers (security_of (get_or s 0 0)))

-- "version above 15 or mask above 127": what no four or seven bits hold
abbrev pub fields_too_large : BluefinHeader → Bool
fields_too_large h = ltb 15 h.version || mask_too_large h.security_fields

-- "Writing version above 15 or mask above 127: 11; then buffer short: 10."
-- "Writing answers the bytes written; those after them stay."
abbrev pub serialises_into : BluefinHeader → List ℕ → Said ℕ × List ℕ
serialises_into h buf =
    checks ((fields_too_large h, 11) ∷ (ltb (length buf) 20, 10) ∷ [])
    (λ n. (refuses n, buf))
    (answers 20, paste buf 0 (header_bytes h) 20)

-- the header in the 20 bytes from `at` on; an unknown type: 4, with `at` as the cursor
abbrev pub deserialises_at : List ℕ → ℕ → Said BluefinHeader
deserialises_at s at = checks ((not (row_of (type_at s at)).known, 4) ∷ []) (λ n. refuses_at n at) (answers (header_at s at))

-- "In the reads below the cursor is 0. A header read from any other length than 20: 1."
abbrev pub deserialises : List ℕ → Said BluefinHeader
deserialises s = checks ((not (eqb (length s) 20), 1) ∷ []) (λ n. refuses_at n 0) (deserialises_at s 0)
