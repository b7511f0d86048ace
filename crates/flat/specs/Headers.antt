-- Headers as a host has them: every field a number, the type too.
use Rattle.std.specs.Prelude.{ℕ, false, not, [], ◌∷◌}
use Rattle.refusal.specs.Said.{Said, answers, refuses, refusal_in, checks}
use Rattle.header.specs.Types.{type_number, type_of, row_of}
use Rattle.header.specs.declared.BluefinHeader.{BluefinHeader}
use Rattle.flat.specs.declared.headers.Header.{Header}
use Rattle.flat.specs.declared.headers.Written.{Written}
use Rattle.flat.specs.declared.headers.HeaderRead.{HeaderRead}
use Rattle.flat.specs.Answers.{cursor_in, value_or}

-- the header that the numbers mean; a type number above 6 stands for the last type: writing refuses it first, and the handshake tests ask for earlier ones
abbrev pub header_in : Header → BluefinHeader
header_in h = record {
  version = h.version;
  type_field = type_of h.type_field;
  type_specific_payload = h.type_specific_payload;
  security_fields = record { header_encrypted = h.header_encrypted; header_protection_mask = h.header_protection_mask };
  source_connection_id = h.source_connection_id;
  destination_connection_id = h.destination_connection_id;
  packet_number = h.packet_number;
}

abbrev pub flat_header : BluefinHeader → Header
flat_header h = record {
  packet_number = h.packet_number;
  source_connection_id = h.source_connection_id;
  destination_connection_id = h.destination_connection_id;
  type_specific_payload = h.type_specific_payload;
  version = h.version;
  type_field = type_number h.type_field;
  header_protection_mask = h.security_fields.header_protection_mask;
  header_encrypted = h.security_fields.header_encrypted;
}

-- all 0
abbrev pub no_header : Header
no_header = record {
  packet_number = 0;
  source_connection_id = 0;
  destination_connection_id = 0;
  type_specific_payload = 0;
  version = 0;
  type_field = 0;
  header_protection_mask = 0;
  header_encrypted = false;
}

-- Writing a header of a type that document 01's table does not know: 4, before the checks of its fields and of the room.
abbrev pub unless_unknown : {A L : Type 0} → Header → L → Said A × L → Said A × L
unless_unknown h left = checks ((not (row_of h.type_field).known, 4) ∷ []) (λ n. (refuses n, left))

-- the header that the numbers mean, where its type is known
abbrev pub header_known : Header → Said BluefinHeader
header_known h = checks ((not (row_of h.type_field).known, 4) ∷ []) refuses (answers (header_in h))

abbrev pub written_of : Said ℕ → Written
written_of s = record { bytes = value_or 0 (λ n. n) s; refusal = refusal_in s }

abbrev pub header_read_of : Said BluefinHeader → HeaderRead
header_read_of s = record { header = value_or no_header flat_header s; cursor = cursor_in s; refusal = refusal_in s }
