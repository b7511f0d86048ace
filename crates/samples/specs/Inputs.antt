-- What the rows share: lent bytes, headers by their fields and by their bytes, and stores of outstanding packets.
use Rattle.std.specs.Prelude.{ℕ, ◌-◌, ◌≡◌, Bool, List, [], ◌∷◌, ◌++◌, length, replicate}
use Rattle.refusal.specs.Said.{Said}
use Rattle.header.specs.declared.PacketType.{PacketType}
use Rattle.header.specs.declared.BluefinSecurityFields.{BluefinSecurityFields}
use Rattle.header.specs.declared.BluefinHeader.{BluefinHeader}
use Rattle.outstanding.specs.Outstanding.{Store}

-- a call on one lent list: what it says, and the list that it leaves
abbrev pub Leaves : {A : Type 0} → Said A × List ℕ → Said A → List ℕ → Type 0
Leaves {A} call said left = ◌≡◌ {A = Said A × List ℕ} call (said, left)

-- a lent list of so many numbers, each of which no row writes
abbrev pub lent : ℕ → List ℕ
lent n = replicate n 99

abbrev pub security : Bool → ℕ → BluefinSecurityFields
security encrypted mask = record { header_encrypted = encrypted; header_protection_mask = mask }

-- a header by its fields: version, type, field, security fields, source, destination, number
abbrev pub header : ℕ → PacketType → ℕ → BluefinSecurityFields → ℕ → ℕ → ℕ → BluefinHeader
header version type field fields source destination number = record {
  version = version;
  type_field = type;
  type_specific_payload = field;
  security_fields = fields;
  source_connection_id = source;
  destination_connection_id = destination;
  packet_number = number;
}

-- the bytes of a header with version 0, security byte 0, source 1 and destination 2: its type, the two bytes of its field, the last byte of its number
abbrev pub head_of : ℕ → ℕ → ℕ → ℕ → List ℕ
head_of type high low number = type ∷ high ∷ low ∷ 0 ∷ 0 ∷ 0 ∷ 0 ∷ 1 ∷ 0 ∷ 0 ∷ 0 ∷ 2 ∷ 0 ∷ 0 ∷ 0 ∷ 0 ∷ 0 ∷ 0 ∷ 0 ∷ number ∷ []

-- .. with a field below 256
abbrev pub head : ℕ → ℕ → ℕ → List ℕ
head type field number = head_of type 0 field number

-- a lent list of n numbers, of which the first are these
abbrev pub begins : List ℕ → ℕ → List ℕ
begins front n = front ++ lent (n - length front)

-- a store that counts so many packets, in just enough lent memory: 64 cells, 64 lengths and 64 times 1,520 bytes, of which the first are these. No row writes behind the first
-- 17,280 bytes; so the other 80,000 stand apart, and need not be compared one by one
abbrev pub counts : ℕ → List ℕ → List ℕ → List ℕ → Store
counts n numbers lengths packets = record { state = record { count = n }; numbers = begins numbers 64; lengths = begins lengths 64; packets = begins packets 17280 ++ lent 80000 }

-- .. and that counts as many as numbers are given
abbrev pub kept : List ℕ → List ℕ → List ℕ → Store
kept numbers lengths packets = counts (length numbers) numbers lengths packets

abbrev pub nothing_kept : Store
nothing_kept = kept [] [] []
