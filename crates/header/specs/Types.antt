-- The packet types and their numbers (core/header.rs, `PacketType`), and the rule of document 01's table of sixteen.
use Rattle.std.specs.Prelude.{ℕ, zero, suc, ◌<◌, ◌≡◌, Bool, true, false, not, List, [], ◌∷◌, get_or, ltb, eqb}
use Rattle.refusal.specs.Said.{Said, answers, refuses, checks}
use Rattle.header.specs.declared.PacketType.{PacketType}
use Rattle.header.specs.declared.PacketType.TheVariants.{UnencryptedClientHello, UnencryptedServerHello, ClientAck, UnencryptedData, Ack, Fin, FinAck}
use Rattle.header.specs.declared.TypeRow.{TypeRow}
use Rattle.header.specs.declared.TypeRow.TheVariants.{Unknown, HeaderAlone, WithPayload}

-- the number of a type
abbrev pub type_number : PacketType → ℕ
type_number UnencryptedClientHello = 0
type_number UnencryptedServerHello = 1
type_number ClientAck = 2
type_number UnencryptedData = 3
type_number Ack = 4
type_number Fin = 5
type_number FinAck = 6

-- the type of a known number; the last one stands for every other, of which no call of this crate asks
abbrev pub type_of : ℕ → PacketType
type_of zero = UnencryptedClientHello
type_of (suc zero) = UnencryptedServerHello
type_of (suc (suc zero)) = ClientAck
type_of (suc (suc (suc zero))) = UnencryptedData
type_of (suc (suc (suc (suc zero)))) = Ack
type_of (suc (suc (suc (suc (suc zero))))) = Fin
type_of (suc (suc (suc (suc (suc (suc n)))))) = FinAck

-- what the table says of a type number
pub record Row : Type 0 where
  pub known : Bool
  pub has_payload : Bool

-- "for each of the sixteen type numbers, whether it is known and whether it has a payload":
-- "Types 0, 1, 2, 4, 5, 6 have no payload", "Type 3 has", "Types 7 to 15 are refusal 4"
abbrev pub row_of : ℕ → Row
row_of n = record { known = ltb n 7; has_payload = eqb n 3 }

-- a row as the table holds it
abbrev pub row_says : TypeRow → Row
row_says Unknown = record { known = false; has_payload = false }
row_says HeaderAlone = record { known = true; has_payload = false }
row_says WithPayload = record { known = true; has_payload = true }

-- "One table gives, for each of the sixteen type numbers, whether it is known and whether it has a payload."
abbrev pub TypeTable : List TypeRow → Type 0
TypeTable table = (n : ℕ) → n < 16 → row_says (get_or table n Unknown) ≡ row_of n

-- the type of a number that a byte may hold: refusal 4 where it is not known
abbrev pub typed : ℕ → Said PacketType
typed n = checks ((not (row_of n).known, 4) ∷ []) refuses (answers (type_of n))
