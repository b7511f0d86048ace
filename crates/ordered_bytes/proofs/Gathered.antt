-- The pieces that `consume_bytes` takes, as the code counts and copies them.
-- Assumes nothing.
use Prim.Native.Nat.{ℕ, suc, ◌+◌, ◌-◌, ◌≤◌, ◌<◌}
use mathlib.Core.Path.{◌≡◌, refl, sym, ap, ◌∙◌}
use mathlib.Core.Bool.{Bool, true, false, cond}
use mathlib.Core.Logic.{◌⊎◌, inl, inr}
use mathlib.Core.List.{List, [], ◌∷◌, ◌++◌, map, flatten}
use native.Mathlib.Omega.{arith}
use lib.ListN.{length, set, length-append}
use lib.Seq.{paste}
use lib.Dec.{eqb, eqb-suc-zero}
use borrow.Author.Tests.{lt-ltb, le-ltb, ne_eqb}
use Rattle.refusal.specs.Said.{answers, refuses}
use Rattle.lists.proofs.Cut.{paste-cons}
use Rattle.ordered_bytes.specs.declared.pieces.Payloads.{Payloads}
use Rattle.ordered_bytes.specs.declared.ConsumeResult.{ConsumeResult}
use Rattle.ordered_bytes.specs.Receiver.{carry_piece, taken_payloads, pieces, base}
use Rattle.ordered_bytes.specs.Buffer.{Buffer, view, well_formed, taken}
use Rattle.ordered_bytes.specs.Calls.{PieceConsumption, result_says, consuming_bytes}
use Rattle.ordered_bytes.specs.Steps.{held_payloads, pieces_of, PayloadsCounted, PiecesCounted, RoomFor, PiecesCopied}
use Rattle.ordered_bytes.proofs.WellFormed.{Good}
use Rattle.ordered_bytes.proofs.View.{length-carry}
use Rattle.ordered_bytes.proofs.Walk.{payloads_again, flatten_carry, flatten_pieces}

-- "carry-over is one piece", and "a carry-over length of 0 means none"
carry_count : (c : List ℕ) → length (carry_piece c) ≡ cond (eqb (length c) 0) 0 1
carry_count [] = refl
carry_count (x ∷ c) = rw (eqb-suc-zero (length c))

pub at_most_one : (m : Bool) → cond m 0 1 ≤ 1
at_most_one true = omega arith
at_most_one false = omega arith

-- the carry-over's cell and the payloads' cells behind it
pub cells_written : (c list : List ℕ) (ps : List (List ℕ)) {len first : ℕ} {list₁ list' : List ℕ}
    → length c ≡ len
    → first ≡ cond (eqb len 0) 0 1
    → first + length ps ≤ length list
    → list₁ ≡ cond (eqb len 0) list (set list 0 len)
    → list' ≡ paste list₁ first (map length ps) (length ps)
    → list' ≡ paste list 0 (map length (carry_piece c ++ ps)) (length (carry_piece c ++ ps))
cells_written [] list ps none-carried one room first then = then ∙ rw (first, one, ← none-carried)
cells_written (x ∷ c) list ps carried one room first then =
    let some-cell = rw (← carried, eqb-suc-zero (length c)) at one in
    then ∙ rw (first, one, ← carried, eqb-suc-zero (length c)) (paste-cons list (map length ps) (suc (length c)) 0 (length ps) (omega arith))

module _ {b : Buffer} (g : Good b) where
  carried : length (carry_piece (view b).carry) ≡ cond (eqb b.state.carry_len 0) 0 1
  carried = carry_count (view b).carry ∙ rw (length-carry g)

  -- what was counted is what is taken
  pub pieces-counted : (limit : ℕ) {first most from : ℕ} {p : Payloads}
      → first ≡ cond (eqb b.state.carry_len 0) 0 1
      → most ≡ limit - first
      → PayloadsCounted (held_payloads b most) p
      → from ≡ base (view b)
      → PiecesCounted b limit (record { num_packets_consumed = p.packets; base_packet_number = from; bytes_consumed = b.state.carry_len + p.bytes }) (first + p.packets)
  pieces-counted limit {first} {most} one rest counted based =
      let same : first ≡ length (carry_piece (view b).carry) = one ∙ sym carried in
      let all : held_payloads b most ≡ taken_payloads (view b) limit = rw (rest, same) in
      let packets = rw all at counted.packets in
      let bytes = rw all at counted.bytes in
      record {
        packets = packets;
        all = rw (length-append, ← packets, ← same);
        bytes = rw (flatten_pieces (view b) limit, length-append, length-carry g, ← bytes);
        front = based;
      }

  -- room for all pieces is room for the payloads behind the carry-over
  pub room_behind : (k : ℕ) (out list : List ℕ) → RoomFor (pieces_of b k) out 0 list 0
      → RoomFor (held_payloads b k) out b.state.carry_len list (cond (eqb b.state.carry_len 0) 0 1)
  room_behind k out list room =
      let bytes = rw (flatten_carry (view b).carry (held_payloads b k), length-append, length-carry g) at room.bytes in
      let cells = rw (length-append, carried) at room.cells in
      record { bytes = omega arith; cells = omega arith }

module _ (b : Buffer) (limit : ℕ) {k : ℕ} (packets : k ≡ length (taken_payloads (view b) limit)) where
  -- asked for as many as were counted, they are the same
  again : held_payloads b k ≡ taken_payloads (view b) limit
  again = rw packets (payloads_again (limit - length (carry_piece (view b).carry)) (view b).held)

  pub again_length : length (held_payloads b k) ≡ k
  again_length = ap length again ∙ sym packets

  again_pieces : pieces_of b k ≡ pieces (view b) limit
  again_pieces = rw again

-- ---- the answer, decided before anything moves

module _ (b : Buffer) (limit : ℕ) (out list : List ℕ) {p : ConsumeResult} {count : ℕ} (well : well_formed b ≡ true) (counted : PiecesCounted b limit p count) where
  -- "10 if either is short"
  pub pieces_short : (length out < p.bytes_consumed) ⊎ ((p.bytes_consumed ≤ length out) × (length list < count))
      → ◌≡◌ {A = PieceConsumption} (record { said = refuses 10; buffer = b; out = out; list = list }) (consuming_bytes b limit out list)
  unfolding consuming_bytes
  pieces_short (inl less) = rw (well, ← counted.bytes, lt-ltb _ _ less)
  pieces_short (inr fewer) = rw (well, ← counted.bytes, ← counted.all, le-ltb _ _ fewer.0, lt-ltb _ _ fewer.1)

  -- "no piece: 8"
  pub pieces_none : p.bytes_consumed ≤ length out → count ≤ length list → count ≡ 0
      → ◌≡◌ {A = PieceConsumption} (record { said = refuses 8; buffer = b; out = out; list = list }) (consuming_bytes b limit out list)
  unfolding consuming_bytes
  pieces_none fits few none = rw (well, ← counted.bytes, ← counted.all, le-ltb _ _ fits, le-ltb _ _ few, none)

  -- there is room for what is answered
  pub pieces_room : p.bytes_consumed ≤ length out → count ≤ length list → RoomFor (pieces_of b p.num_packets_consumed) out 0 list 0
  pieces_room fits few = rw (again_pieces b limit counted.packets) (record { bytes = omega (arith, counted.bytes); cells = omega (arith, counted.all) })

  -- the answer, the buffer, the output and the list
  pub pieces-given : {out' list' : List ℕ} {after : Buffer} → p.bytes_consumed ≤ length out → count ≤ length list → (count ≡ 0 → ⊥)
      → after ≡ taken b p.num_packets_consumed []
      → PiecesCopied (pieces_of b p.num_packets_consumed) out out' 0 list list' 0
      → ◌≡◌ {A = PieceConsumption} (record { said = answers (result_says p, count); buffer = after; out = out'; list = list' }) (consuming_bytes b limit out list)
  unfolding consuming_bytes
  pieces-given fits few some left copied =
      let c = rw (again_pieces b limit counted.packets) at copied in
      let room : length (flatten (pieces (view b) limit)) ≤ length out = rw counted.bytes at fits in
      let cells : length (pieces (view b) limit) ≤ length list = rw counted.all at few in
      rw (well, le-ltb _ _ room, le-ltb _ _ cells, ne_eqb _ _ (rw counted.all at some), left, c.bytes, c.cells, counted.packets, counted.bytes, counted.all, counted.front)
