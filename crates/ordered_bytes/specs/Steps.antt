-- What the inner functions of the reads count, copy and leave, each as one fact with a name for each of its parts, so that a contract is short.
-- Nothing of document 01 is decided here: Receiver says what a read takes and gives, Calls what is answered and left.
use Rattle.std.specs.Prelude.{ℕ, ◌+◌, ◌*◌, ◌≤◌, ◌<◌, ◌≡◌, length, take, drop, get_or}
use mathlib.Core.List.{List, ◌++◌, map, flatten}
use Rattle.std.proofs.Math.Seq.{paste}
use Rattle.ordered_bytes.specs.declared.stream.Walked.{Walked}
use Rattle.ordered_bytes.specs.declared.stream.BytesRead.{BytesRead}
use Rattle.ordered_bytes.specs.declared.pieces.Payloads.{Payloads}
use Rattle.ordered_bytes.specs.declared.ConsumeResult.{ConsumeResult}
use Rattle.ordered_bytes.specs.Receiver.{Walk, Read, walk, consumed, payloads, carry_piece, taken_payloads, pieces, base}
use Rattle.ordered_bytes.specs.Buffer.{Buffer, slots, width, view}
use Rattle.ordered_bytes.specs.Calls.{consumed_says, given}

-- a slot of the ring: its mark and its length are in the lists, and its payload is in the store, which has at most 2,001 times 65,535 bytes
pub record InRing (b : Buffer) (slot : ℕ) : Type 0 where
  pub few : slot < 2000
  pub marks : slot < length b.marks
  pub lengths : slot < length b.lengths
  pub size : get_or b.lengths slot 0 ≤ width b
  pub wide : width b ≤ 65535
  pub ends : slot * width b + width b ≤ length b.store
  pub store : length b.store ≤ 131135535

-- "Carry-over begins at the extra W's start", and is no longer than W
pub record CarryAt (b : Buffer) (at : ℕ) : Type 0 where
  pub value : at ≡ slots b * width b
  pub small : b.state.carry_len ≤ width b
  pub wide : width b ≤ 65535
  pub ends : at + width b ≤ length b.store
  pub store : length b.store ≤ 131135535

-- ---- `consume`

-- these bytes stand in the store, `size` of them from `at` on, and are no more than W
pub record Stands (b : Buffer) (at size : ℕ) (bytes : List ℕ) : Type 0 where
  pub are : take size (drop at b.store) ≡ bytes
  pub within : at + size ≤ length b.store
  pub small : size ≤ width b

-- what a walk takes, copied to the output from `at` on
pub record Walks (b : Buffer) (w : Walk) (at : ℕ) (out out' : List ℕ) (r : Walked) : Type 0 where
  pub packets : r.packets ≡ w.packets
  pub bytes : r.bytes ≡ length w.bytes
  pub copied : out' ≡ paste out at w.bytes r.bytes
  pub rest : Stands b r.rest_at r.rest w.rest

abbrev pub WalkCopied : Buffer → ℕ → ℕ → List ℕ → List ℕ → Walked → Type 0
WalkCopied b room at out out' r = Walks b (walk room (view b).held) at out out' r

-- what a read gives, copied to the output's start
pub record Reads (b : Buffer) (x : Read) (out out' : List ℕ) (r : BytesRead) : Type 0 where
  pub answer : consumed_says r.answer ≡ (given b x out).said
  pub packets : r.packets ≡ x.packets
  pub copied : out' ≡ paste out 0 x.bytes (length x.bytes)
  pub carry : Stands b r.rest_at r.rest x.carry

abbrev pub ReadCopied : Buffer → ℕ → List ℕ → List ℕ → BytesRead → Type 0
ReadCopied b len out out' r = Reads b (consumed (view b) len) out out' r

-- ---- `consume_bytes`

-- the payloads of at most k held packets from the front on
abbrev pub held_payloads : Buffer → ℕ → List (List ℕ)
held_payloads b k = payloads k (view b).held

-- the bound is that of 2,000 payloads of 65,535 bytes
pub record PayloadsCounted (ps : List (List ℕ)) (r : Payloads) : Type 0 where
  pub packets : r.packets ≡ length ps
  pub bytes : r.bytes ≡ length (flatten ps)
  pub few : r.bytes ≤ 131070000

-- what the pieces give, and how many they are
pub record PiecesCounted (b : Buffer) (limit : ℕ) (r : ConsumeResult) (count : ℕ) : Type 0 where
  pub packets : r.num_packets_consumed ≡ length (taken_payloads (view b) limit)
  pub all : count ≡ length (pieces (view b) limit)
  pub bytes : r.bytes_consumed ≡ length (flatten (pieces (view b) limit))
  pub front : r.base_packet_number ≡ base (view b)

-- the carry-over, where there is one, and k held packets
abbrev pub pieces_of : Buffer → ℕ → List (List ℕ)
pieces_of b k = carry_piece (view b).carry ++ held_payloads b k

-- there is room for pieces in the output from `at` on, and for their lengths in the list from `first` on
pub record RoomFor (ps : List (List ℕ)) (out : List ℕ) (at : ℕ) (list : List ℕ) (first : ℕ) : Type 0 where
  pub bytes : at + length (flatten ps) ≤ length out
  pub cells : first + length ps ≤ length list

pub record PiecesCopied (ps : List (List ℕ)) (out out' : List ℕ) (at : ℕ) (list list' : List ℕ) (first : ℕ) : Type 0 where
  pub bytes : out' ≡ paste out at (flatten ps) (length (flatten ps))
  pub cells : list' ≡ paste list first (map length ps) (length ps)
