-- The packets of a datagram: document 01, "From a datagram to packets", with the reading limit of document 02 §1;
-- `from_bytes` and `from_bytes_into` of core/packet.rs.
use Rattle.std.specs.Prelude.{ℕ, zero, suc, ◌+◌, ◌-◌, ◌*◌, ◌/◌, ◌<◌, ◌≤◌, min, Bool, not, cond, ◌&&◌, ◌||◌, List, [], ◌∷◌, length, get_or, take, drop, ltb, leb}
use Rattle.std.proofs.lemmas.List.Edits.{sets}
use Rattle.refusal.specs.Said.{Said, answers, refuses, refuses_at, checks}
use Rattle.header.specs.Types.{row_of}
use Rattle.header.specs.Header.{type_at, field_at, header_at}
use Rattle.packet.specs.Packet.{Packet}

-- 02 §1, in place of 01's 65,527: "The studio runs IPv4, whose total length of 65,535 includes at least 20 header bytes, then UDP's 8. So the reading limit becomes 65,507"
unfoldable pub reading_limit : ℕ
reading_limit = 65507

-- ---- one packet of a datagram

-- "refusal 2 if cursor + 20, or cursor + 19 + field, reaches the length or more"
unfoldable pub payload_missing : ℕ → ℕ → ℕ → Bool
payload_missing len at field = leb len (at + 20) || leb len (at + 19 + field)

-- "Types 0, 1, 2, 4, 5, 6 have no payload, whatever the field says. Type 3 has as many payload bytes as the field"
abbrev pub payload_length : List ℕ → ℕ → ℕ
payload_length s at = cond (row_of (type_at s at)).has_payload (field_at s at) 0

-- "Types 7 to 15 are refusal 4", and refusal 2
abbrev pub packet_checks : List ℕ → ℕ → List (Bool × ℕ)
packet_checks s at =
    (not (row_of (type_at s at)).known, 4)
    ∷ ((row_of (type_at s at)).has_payload && payload_missing (length s) at (field_at s at), 2)
    ∷ []

-- ---- the walk over all of them

-- the packets met, each as header offset and payload length, and how the walk ended
pub record Walk : Type 0 where
  pub cells : List (ℕ × ℕ)
  pub ending : Said Unit

abbrev pub ends : Said Unit → Walk
ends e = record { cells = []; ending = e }

abbrev pub onto : ℕ × ℕ → Walk → Walk
onto c w = record { cells = c ∷ w.cells; ending = w.ending }

-- "At each cursor with 20 bytes left, a header is read." "One to 19 bytes at the end are 3."
-- Every packet has 20 bytes or more, so that as many steps as there are bytes left, and one, are enough.
unfoldable pub walk_by : ℕ → List ℕ → ℕ → Walk
walk_by zero s at = ends (answers tt)
walk_by (suc steps) s at =
    cond (leb (length s) at) (ends (answers tt))
    (cond (ltb (length s) (at + 20)) (ends (refuses_at 3 at))
    (checks (packet_checks s at) (λ n. ends (refuses_at n at)) (onto (at, payload_length s at) (walk_by steps s (at + 20 + payload_length s at)))))

abbrev pub walk_at : List ℕ → ℕ → Walk
walk_at s at = walk_by (suc (length s - at)) s at

-- 02 §1: "11 covers 65,508 and up". 01: "Then under 20 bytes: 1."
unfoldable pub packets_of : List ℕ → Walk
packets_of s = cond (ltb reading_limit (length s)) (ends (refuses 11)) (cond (ltb (length s) 20) (ends (refuses_at 1 0)) (walk_at s 0))

-- ---- the index

-- "Each packet is written to a lent index, from its start, as header offset and payload length": a cell is two numbers, and exists if both do
abbrev pub cells_in : List ℕ → ℕ
cells_in index = length index / 2

unfoldable pub flat : List (ℕ × ℕ) → List ℕ
flat [] = []
flat (c ∷ cs) = c.0 ∷ c.1 ∷ flat cs

-- "The answer is the count", where the walk came to the end
abbrev pub counted : ℕ → Said Unit → Said ℕ
counted n (answers u) = answers n
counted n (refuses r) = refuses r
counted n (refuses_at r at) = refuses_at r at

-- "Where the next cell is missing: 10, after that packet's other checks": so too where a packet further on has a fault
abbrev pub answered : ℕ → ℕ → Said Unit → Said ℕ
answered room n ending = cond (ltb room n) (refuses 10) (counted n ending)

unfoldable pub parsed : List ℕ → ℕ → Said ℕ
parsed s room = answered room (length (packets_of s).cells) (packets_of s).ending

-- "`from_bytes_into` keeps the packets before the refusal": how many cells are written
abbrev pub cells_written : List ℕ → List ℕ → ℕ
cells_written s index = min (cells_in index) (length (packets_of s).cells)

-- "later cells stay"
abbrev pub parses_into : List ℕ → List ℕ → Said ℕ × List ℕ
parses_into s index = (parsed s (cells_in index), sets index 0 (flat (take (cells_in index) (packets_of s).cells)))

-- .. and with it how many cells are written
abbrev pub indexes : List ℕ → List ℕ → Said ℕ × List ℕ × ℕ
indexes s index = ((parses_into s index).0, (parses_into s index).1, cells_written s index)

-- "`from_bytes` writes nothing on refusal"
abbrev pub left_by : Said ℕ → List ℕ → List ℕ → List ℕ
left_by (answers n) written index = written
left_by (refuses r) written index = index
left_by (refuses_at r at) written index = index

abbrev pub parses : List ℕ → List ℕ → Said ℕ × List ℕ
parses s index = (parsed s (cells_in index), left_by (parsed s (cells_in index)) (parses_into s index).1 index)

-- ---- the packets that an index lists

-- the packet that a cell names; its laws, and those of `listed`, are in proofs/Index.antt
unfoldable pub packet_at : List ℕ → ℕ × ℕ → Packet
packet_at s c = record { header = header_at s c.0; payload = take c.1 (drop (c.0 + 20) s) }

-- the packets of the first n cells
unfoldable pub listed : List ℕ → List ℕ → ℕ → List Packet
listed s index zero = []
listed s [] (suc n) = []
listed s (o ∷ []) (suc n) = []
listed s (o ∷ l ∷ index) (suc n) = packet_at s (o, l) ∷ listed s index n

-- what a loop over an index has to know of it: the first n cells are there, and the packet that each names lies within the datagram
pub record Listed (s index : List ℕ) (n : ℕ) : Type 0 where
  pub cells : 2 * n ≤ length index
  pub within : (i : ℕ) → i < n → get_or index (2 * i) 0 + 20 + get_or index (2 * i + 1) 0 ≤ length s
