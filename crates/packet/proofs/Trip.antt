-- Packets written end to end are read back: the walk meets exactly them, and an index with room for them lists exactly them.
-- Assumes nothing.
use Prim.Native.Nat.{ℕ, ◌+◌, ◌-◌, ◌<◌, ◌≤◌}
use mathlib.Core.Path.{◌≡◌, refl, sym, ap, ap₂, ◌∙◌}
use mathlib.Core.Bool.{Bool, true, false, cond}
use mathlib.Core.List.{List, [], ◌∷◌, ◌++◌, map, append_assoc}
use native.Mathlib.Omega.{arith}
use lib.ListN.{length, take, drop, length-append, length-drop, length-map}
use lib.Seq.{drop_at, drop-drop, take_at}
use borrow.Author.Tests.{lt-ltb, le-ltb}
use Rattle.std.specs.Prelude.{Some, Ok}
use Rattle.refusal.specs.Said.{answers}
use Rattle.header.specs.Types.{type_number, row_of}
use Rattle.header.specs.Header.{header_bytes, type_at, field_at, header_at}
use Rattle.header.specs.declared.BluefinHeader.{BluefinHeader}
use Rattle.header.proofs.Types.{number_known}
use Rattle.header.proofs.Trip.{Sized, length-header, read_at, type_read}
use Rattle.packet.specs.Packet.{Packet, packet_bytes, joined}
use Rattle.packet.specs.Datagram.{Walk, walk_at, reading_limit, packets_of, cells_in, parsed, parses, packet_at, listed}
use Rattle.packet.specs.Step.{look_at}
use Rattle.packet.proofs.Alone.{length_packet}
use Rattle.packet.proofs.Step.{at_end, at_bare, at_whole_payload}
use Rattle.packet.proofs.Walk.{walk_end, walk_packet, begin_walk}
use Rattle.packet.proofs.Index.{packet_is, listed-parsed}

-- whether a packet of this header's type has a payload
abbrev pub has_payload : BluefinHeader → Bool
has_payload h = (row_of (type_number h.type_field)).has_payload

-- the header can be written, and the payload is as long as it says: by its field, or none where its type has none
pub record Honest (p : Packet) : Type 0 where
  pub sized : Sized p.header
  pub long : length p.payload ≡ cond (has_payload p.header) p.header.type_specific_payload 0

-- Packets that make a datagram: at least one, each honest, and the last not a data packet without payload ("data, field 0, alone: 2").
pub data Readable : List Packet → Type 0 where
  last : {p : Packet} → Honest p → (has_payload p.header ≡ true → 0 < length p.payload) → Readable (p ∷ [])
  before : {p : Packet} {ps : List Packet} → Honest p → Readable ps → Readable (p ∷ ps)

-- a walk over s that came to the end and met exactly these packets
pub record Meets (s : List ℕ) (w : Walk) (ps : List Packet) : Type 0 where
  pub ended : w.ending ≡ answers tt
  pub packets : map (packet_at s) w.cells ≡ ps

-- A packet at a cursor, with others behind it.
module _ (s : List ℕ) (at : ℕ) (p : Packet) (rest : List ℕ) (h : Honest p) (q : drop at s ≡ packet_bytes p ++ rest) where
  behind : drop at s ≡ header_bytes p.header ++ (p.payload ++ rest)
  behind = q ∙ append_assoc (header_bytes p.header) p.payload rest

  left : length s - at ≡ 20 + length p.payload + length rest
  left = sym (length-drop at s) ∙ ap length q ∙ length-append (packet_bytes p) rest ∙ rw length_packet

  after_packet : drop (at + 20 + length p.payload) s ≡ rest
  after_packet =
      let long = 20 + length p.payload in
      let z : at + 20 + length p.payload ≡ at + long = omega arith in
      rw z (sym (drop-drop long at s) ∙ ap (drop long) q ∙ drop_at (packet_bytes p) rest long (length_packet p.header p.payload))

  header_read : header_at s at ≡ p.header
  header_read = read_at p.header h.sized s (p.payload ++ rest) at behind

  packet_read : packet_at s (at, length p.payload) ≡ p
  packet_read =
      let payload : take (length p.payload) (drop (at + 20) s) ≡ p.payload =
      rw (sym (drop-drop 20 at s)) (rw (behind, drop_at (header_bytes p.header) (p.payload ++ rest) 20 (length-header p.header)) (take_at p.payload rest (length p.payload) refl)) in
      packet_is s at (length p.payload) header_read payload

  field_read : field_at s at ≡ p.header.type_specific_payload
  unfolding header_at
  field_read = ap (λ (x : BluefinHeader). x.type_specific_payload) header_read

  looked : (has_payload p.header ≡ true → 0 < length p.payload + length rest) → look_at s at ≡ Ok (Some (length p.payload))
  looked some =
      let type : type_at s at ≡ type_number p.header.type_field = type_read p.header h.sized s (p.payload ++ rest) at behind in
      let known : (row_of (type_at s at)).known ≡ true = rw type (lt-ltb _ 7 (number_known p.header.type_field)) in
      by known type (has_payload p.header) refl
    where
      by : (row_of (type_at s at)).known ≡ true → type_at s at ≡ type_number p.header.type_field → (t : Bool) → has_payload p.header ≡ t
          → look_at s at ≡ Ok (Some (length p.payload))
      by known type true e =
          let long : length p.payload ≡ field_at s at = h.long ∙ rw e (sym field_read) in
          rw long (at_whole_payload s at (omega (arith, left)) known (rw type e) (omega (arith, left, some e)) (omega (arith, left)))
      by known type false e =
          let none : length p.payload ≡ 0 = h.long ∙ rw e in
          rw none (at_bare s at (omega (arith, left)) known (rw type e))

-- The walk from a cursor from which such packets stand.
long_enough : {ps : List Packet} → Readable ps → 20 ≤ length (joined ps)
unfolding joined
long_enough (last {p} h some) = simp (length-append, length-header) (omega arith)
long_enough (before {p} {ps} h r) = simp (length-append, length-header) (omega arith)

module _ (s : List ℕ) where
  onward : {p : Packet} {ps : List Packet} (rest : List ℕ) (at : ℕ) → Honest p → (has_payload p.header ≡ true → 0 < length p.payload + length rest)
      → drop at s ≡ packet_bytes p ++ rest → Meets s (walk_at s (at + 20 + length p.payload)) ps → Meets s (walk_at s at) (p ∷ ps)
  onward {p} rest at h some q m =
      let walk = walk_packet s at (looked s at p rest h q some) in
      record {
        ended = ap (λ (w : Walk). w.ending) walk ∙ m.ended;
        packets = ap (λ (w : Walk). map (packet_at s) w.cells) walk ∙ ap₂ (λ (x : Packet) (xs : List Packet). x ∷ xs) (packet_read s at p rest h q) m.packets;
      }

  meets : {ps : List Packet} (at : ℕ) → Readable ps → drop at s ≡ joined ps → Meets s (walk_at s at) ps
  unfolding joined
  meets at (last {p} h some) q =
      let end = at + 20 + length p.payload in
      let none : length s - end ≡ 0 = sym (length-drop end s) ∙ ap length (after_packet s at p [] h q) in
      let walk = walk_end s end (at_end s end none) in
      onward [] at h (λ e. omega (arith, some e)) q (record { ended = ap (λ (w : Walk). w.ending) walk; packets = ap (λ (w : Walk). map (packet_at s) w.cells) walk })
  meets at (before {p} {ps} h r) q =
      onward (joined ps) at h (λ e. omega (arith, long_enough r)) q (meets (at + 20 + length p.payload) r (after_packet s at p (joined ps) h q))

module _ {ps : List Packet} (r : Readable ps) (fits : length (joined ps) ≤ reading_limit) where
  -- the walk over a datagram of such packets meets exactly them
  pub packets_joined : Meets (joined ps) (packets_of (joined ps)) ps
  packets_joined = rw (begin_walk (joined ps) fits (long_enough r)) (meets (joined ps) 0 r refl)

  -- and where the index has room for them, parsing answers how many they are, and the index lists exactly them
  module _ (index : List ℕ) (room : length ps ≤ cells_in index) where
    pub parsed-joined : parsed (joined ps) (cells_in index) ≡ answers (length ps)
    unfolding parsed
    parsed-joined =
        let m = packets_joined in
        let count : length (packets_of (joined ps)).cells ≡ length ps = sym (length-map (packets_of (joined ps)).cells (packet_at (joined ps))) ∙ ap length m.packets in
        rw (count, le-ltb (cells_in index) (length ps) room, m.ended)

    pub listed-joined : listed (joined ps) (parses (joined ps) index).1 (length ps) ≡ ps
    listed-joined = listed-parsed (joined ps) index parsed-joined ∙ packets_joined.packets
