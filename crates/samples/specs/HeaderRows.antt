-- Boundaries of the header: document 01, "The header, last leaf".
use Rattle.std.specs.Prelude.{ℕ, ◌^◌, ◌-◌, ◌≡◌, true, false, List, [], ◌∷◌, ◌++◌, map, replicate}
use Rattle.refusal.specs.Said.{answers, refuses, refuses_at, refusal_in}
use Rattle.header.specs.Types.{row_of}
use Rattle.header.specs.Header.{serialises_security, deserialises_security, serialises_into, deserialises}
use Rattle.header.specs.declared.PacketType.TheVariants.{UnencryptedData, Ack, FinAck}
use Rattle.header.specs.declared.BluefinHeader.{BluefinHeader}
use Rattle.samples.specs.Inputs.{Leaves, lent, security, header, head}

-- each byte is another, and its bytes
abbrev pub mixed : BluefinHeader
mixed = header 1 Ack 515 (security false 4) 84281096 151653132 940705933847302932

abbrev pub mixed_bytes : List ℕ
mixed_bytes = 20 ∷ 2 ∷ 3 ∷ 4 ∷ 5 ∷ 6 ∷ 7 ∷ 8 ∷ 9 ∷ 10 ∷ 11 ∷ 12 ∷ 13 ∷ 14 ∷ 15 ∷ 16 ∷ 17 ∷ 18 ∷ 19 ∷ 20 ∷ []

-- every field at its largest
abbrev pub full : BluefinHeader
full = header 15 FinAck 65535 (security true 127) (2 ^ 32 - 1) (2 ^ 32 - 1) (2 ^ 64 - 1)

-- one above the largest version, and one above the largest mask
abbrev pub version16 : BluefinHeader
version16 = header 16 UnencryptedData 5 (security false 0) 1 2 7

abbrev pub mask128 : BluefinHeader
mask128 = header 0 UnencryptedData 5 (security false 128) 1 2 7

pub record HeaderRows : Type 0 where
  -- "security byte (bit 7 encrypted, low 7 mask)"; "mask above 127: 11"
  pub security_0 : serialises_security (security false 0) ≡ answers 0
  pub security_127 : serialises_security (security false 127) ≡ answers 127
  pub security_encrypted : serialises_security (security true 0) ≡ answers 128
  pub security_128 : serialises_security (security false 128) ≡ refuses 11
  pub security_128_encrypted : serialises_security (security true 128) ≡ refuses 11
  pub byte_0 : deserialises_security (0 ∷ []) ≡ answers (security false 0)
  pub byte_127 : deserialises_security (127 ∷ []) ≡ answers (security false 127)
  pub byte_128 : deserialises_security (128 ∷ []) ≡ answers (security true 0)
  pub byte_255 : deserialises_security (255 ∷ []) ≡ answers (security true 127)
  pub byte_missing : deserialises_security [] ≡ refuses_at 1 0
  -- "for each of the sixteen type numbers, whether it is known and whether it has a payload": 3 alone has one, 7 to 15 are unknown
  pub types_known : map (λ n. (row_of n).known) (0 ∷ 1 ∷ 2 ∷ 3 ∷ 4 ∷ 5 ∷ 6 ∷ 7 ∷ 8 ∷ 9 ∷ 10 ∷ 11 ∷ 12 ∷ 13 ∷ 14 ∷ 15 ∷ [])
      ≡ true ∷ true ∷ true ∷ true ∷ true ∷ true ∷ true ∷ replicate 9 false
  pub types_with_payload : map (λ n. (row_of n).has_payload) (0 ∷ 1 ∷ 2 ∷ 3 ∷ 4 ∷ 5 ∷ 6 ∷ 7 ∷ 8 ∷ 9 ∷ 10 ∷ 11 ∷ 12 ∷ 13 ∷ 14 ∷ 15 ∷ [])
      ≡ false ∷ false ∷ false ∷ true ∷ replicate 12 false
  -- "version (high four bits) and type; field, 2; security byte ..; source, 4; destination, 4; packet number, 8"
  pub writes_mixed : Leaves (serialises_into mixed (lent 20)) (answers 20) mixed_bytes
  pub writes_full : Leaves (serialises_into full (lent 20)) (answers 20) (246 ∷ replicate 19 255)
  pub reads_mixed : deserialises mixed_bytes ≡ answers mixed
  pub reads_full : deserialises (246 ∷ replicate 19 255) ≡ answers full
  -- "Writing version above 15 or mask above 127: 11; then buffer short: 10." "Writing answers the bytes written; those after them stay."
  pub version_16 : Leaves (serialises_into version16 (lent 20)) (refuses 11) (lent 20)
  pub mask_128 : Leaves (serialises_into mask128 (lent 20)) (refuses 11) (lent 20)
  pub version_before_room : Leaves (serialises_into version16 (lent 19)) (refuses 11) (lent 19)
  pub mask_before_room : Leaves (serialises_into mask128 (lent 19)) (refuses 11) (lent 19)
  pub writes_no_byte : Leaves (serialises_into mixed []) (refuses 10) []
  pub writes_19 : Leaves (serialises_into mixed (lent 19)) (refuses 10) (lent 19)
  pub writes_21 : Leaves (serialises_into mixed (lent 21)) (answers 20) (mixed_bytes ++ (99 ∷ []))
  -- "In the reads below the cursor is 0. A header read from any other length than 20: 1."
  pub reads_no_byte : deserialises [] ≡ refuses_at 1 0
  pub reads_19 : deserialises (replicate 19 0) ≡ refuses_at 1 0
  pub reads_21 : deserialises (replicate 21 0) ≡ refuses_at 1 0
  -- "Types 7 to 15 are refusal 4": by its type alone, with a version beside it, and after the length
  pub reads_each_type : map (λ t. refusal_in (deserialises (head t 0 7))) (0 ∷ 1 ∷ 2 ∷ 3 ∷ 4 ∷ 5 ∷ 6 ∷ 7 ∷ 8 ∷ 9 ∷ 10 ∷ 11 ∷ 12 ∷ 13 ∷ 14 ∷ 15 ∷ [])
      ≡ replicate 7 0 ++ replicate 9 4
  pub reads_type_15 : deserialises (head 15 0 7) ≡ refuses_at 4 0
  pub reads_type_7_version_15 : deserialises (head 247 0 7) ≡ refuses_at 4 0
  pub type_7_in_19 : deserialises (7 ∷ replicate 18 0) ≡ refuses_at 1 0
  pub type_7_in_21 : deserialises (7 ∷ replicate 20 0) ≡ refuses_at 1 0
