-- One call for a whole datagram: `from_bytes_into`, and then one call for each packet of a type that it listed, in order.
-- The steps are the definitions that those calls' own contracts cite: `parses_into`, `accepting`, `insert_range`.
use Rattle.std.specs.Prelude.{ℕ, suc, ◌≡◌, Bool, true, not, cond, List, [], ◌∷◌, length, set, ltb, eqb}
use Rattle.refusal.specs.Said.{Said, refuses, refusal_in, checks}
use Rattle.header.specs.Types.{type_number}
use Rattle.packet.specs.Packet.{Packet}
use Rattle.packet.specs.Datagram.{cells_in, cells_written, parses_into, listed}
use Rattle.ordered_bytes.specs.Buffer.{Buffer}
use Rattle.ordered_bytes.specs.Buffer as buffer
use Rattle.ordered_bytes.specs.Calls.{accepting}
use Rattle.window.specs.Window.{insert_range}
use Rattle.window.specs.Window as window
use Rattle.window.specs.declared.SlidingWindow.{SlidingWindow}
use Rattle.window.specs.declared.WindowViewMut.{WindowViewMut}

-- ---- the call for one packet

-- `buffer_in_packet`: number and payload are the packet's. A 5 means "ack its number, count 1": the ack is not said again, since the caller reads the number off the header at the index.
abbrev pub accepts : Buffer → Packet → Said Unit × Buffer
accepts b p = let a = accepting b p.header.packet_number p.payload in (a.said, a.buffer)

-- the window and its cells
pub record Acks : Type 0 where
  pub window : SlidingWindow
  pub cells : List ℕ

abbrev pub acks_of : SlidingWindow → List ℕ → Acks
acks_of w cells = record { window = w; cells = cells }

abbrev pub acks_in : WindowViewMut → Acks
acks_in v = acks_of v.state v.cells.now

-- `insert_range`: base and count are the packet's number and field
abbrev pub enters : Acks → Packet → Said Unit × Acks
enters a p =
    let o = insert_range a.window a.cells p.header.packet_number p.header.type_specific_payload in
    (o.0, acks_of o.1 o.2)

-- ---- the call for each listed packet of a type

-- what such calls change: their state, and the list of answers
pub record Progress (S : Type 0) : Type 0 where
  pub state : S
  pub answers : List ℕ

abbrev pub progress : {S : Type 0} → S → List ℕ → Progress S
progress state answers = record { state = state; answers = answers }

-- the i-th packet: where it is of the type, the call is made, and the i-th number of the answers becomes what it answered
abbrev pub takes : {S : Type 0} → ℕ → (S → Packet → Said Unit × S) → ℕ → Packet → Progress S → Progress S
takes type call i p d =
    let made = call d.state p in
    cond (eqb (type_number p.header.type_field) type) (progress made.1 (set d.answers i (refusal_in made.0))) d

-- packets i, i + 1 and so on, in order
unfoldable pub takes_all : {S : Type 0} → ℕ → (S → Packet → Said Unit × S) → ℕ → List Packet → Progress S → Progress S
takes_all type call i [] d = d
takes_all type call i (p ∷ ps) d = takes_all type call (suc i) ps (takes type call i p d)

-- the first n packets that an index lists
abbrev pub takes_listed : {S : Type 0} → ℕ → (S → Packet → Said Unit × S) → List ℕ → List ℕ → ℕ → Progress S → Progress S
takes_listed type call s index n = takes_all type call 0 (listed s index n)

-- ---- the whole

pub record Reception (S : Type 0) : Type 0 where
  pub said : Said ℕ
  -- how many packets stand in the index: "`from_bytes_into` keeps the packets before the refusal"
  pub cells : ℕ
  pub index : List ℕ
  pub answers : List ℕ
  pub state : S

-- a refusal that changes nothing
abbrev pub untouched : {S : Type 0} → ℕ → S → List ℕ → List ℕ → Reception S
untouched n state index answers = record { said = refuses n; cells = 0; index = index; answers = answers; state = state }

-- `from_bytes_into`, and the calls: where it refuses, "the packets before the refusal" are listed, and taken all the same
abbrev pub takes_parsed : {S : Type 0} → ℕ → (S → Packet → Said Unit × S) → S → List ℕ → List ℕ → List ℕ → Reception S
takes_parsed type call state s index answers =
    let parsed = parses_into s index in
    let taken = takes_listed type call s parsed.1 (cells_written s index) (progress state answers) in
    record { said = parsed.0; cells = cells_written s index; index = parsed.1; answers = taken.answers; state = taken.state }

-- 12 where the state is not well formed; 10 where the answers have fewer places than the index has cells
abbrev pub datagram_checks : Bool → List ℕ → List ℕ → List (Bool × ℕ)
datagram_checks well_formed index answers = (not well_formed, 12) ∷ (ltb (length answers) (cells_in index), 10) ∷ []

-- .. then `from_bytes_into`'s own
abbrev pub takes_datagram : {S : Type 0} → Bool → ℕ → (S → Packet → Said Unit × S) → S → List ℕ → List ℕ → List ℕ → Reception S
takes_datagram well_formed type call state s index answers =
    checks (datagram_checks well_formed index answers) (λ n. untouched n state index answers) (takes_parsed type call state s index answers)

-- type 3: the data packets
unfoldable pub receiving : Buffer → List ℕ → List ℕ → List ℕ → Reception Buffer
receiving b = takes_datagram (buffer.well_formed b) 3 accepts b

-- type 4: the acks
unfoldable pub receiving_acks : SlidingWindow → List ℕ → List ℕ → List ℕ → List ℕ → Reception Acks
receiving_acks w cells = takes_datagram (window.well_formed w cells) 4 enters (acks_of w cells)

-- ---- what the loops keep

-- the state of each call is well formed
abbrev pub WellBuffer : Buffer → Type 0
WellBuffer b = buffer.well_formed b ≡ true

abbrev pub WellAcks : Acks → Type 0
WellAcks a = window.well_formed a.window a.cells ≡ true

-- what is left is what the definition says, and its state is good
pub record Leaves {S : Type 0} (Good : S → Type 0) (said left : Progress S) : Type 0 where
  pub same : left ≡ said
  pub good : Good left.state
