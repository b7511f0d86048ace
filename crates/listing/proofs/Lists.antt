-- The cells of a parsed datagram's index, one packet's after another. Assumes nothing.
use Rattle.std.proofs.Common.{ℕ, zero, suc, ◌+◌, ◌*◌, ◌<◌, ◌≤◌, ◌≡◌, List, [], ◌∷◌, ◌++◌, length, get_or, take, drop, sym, ap, ◌∙◌, arith}
use Rattle.refusal.specs.Said.{Said, answers}
use Rattle.packet.specs.Datagram.{cells_in, packets_of, flat, parsed, parses}
use Rattle.packet.proofs.Index.{cell_within, lists_parsed, cells_parsed}
use Rattle.listing.specs.Cells.{IsPacket}

-- two numbers in front of cells that were those of the packets from the i-th on
record Turn (cs : List (ℕ × ℕ)) (i : ℕ) (cell rest : List ℕ) : Type 0 where
  here : i < length cs
  is : (d : ℕ × ℕ) → ◌≡◌ {A = ℕ × ℕ} (get_or cs i d) (get_or cell 0 0, get_or cell 1 0)
  behind : rest ≡ flat (drop (i + 1) cs)

turn : (cs : List (ℕ × ℕ)) (i : ℕ) (cell rest : List ℕ) → flat (drop i cs) ≡ cell ++ rest → length cell ≡ 2 → Turn cs i cell rest
unfolding flat
turn cs i [] rest e long = absurd (omega arith)
turn cs i (a ∷ []) rest e long = absurd (omega arith)
turn cs i (a ∷ b ∷ x ∷ xs) rest e long = absurd (omega arith)
turn [] zero (a ∷ b ∷ []) rest e long = cc
turn [] (suc i) (a ∷ b ∷ []) rest e long = cc
turn ((o, n) ∷ cs) zero (a ∷ b ∷ []) rest e long = record { here = omega arith; is = λ d. cc; behind = cc }
turn ((o, n) ∷ cs) (suc i) (a ∷ b ∷ []) rest e long =
    let t = turn cs i (a ∷ b ∷ []) rest e long in
    let next : suc i + 1 ≡ suc (i + 1) = omega arith in
    record { here = omega (arith, t.here); is = t.is; behind = rw next t.behind }

-- the next cell is that of a packet of the datagram, which lies within it
pub record NextCell (s : List ℕ) (i : ℕ) (cell rest : List ℕ) : Type 0 where
  pub packet : IsPacket s (get_or cell 0 0) (get_or cell 1 0)
  pub within : get_or cell 0 0 + 20 ≤ length s
  pub behind : rest ≡ flat (drop (i + 1) (packets_of s).cells)

pub next_cell : (s : List ℕ) (i : ℕ) {size : ℕ} {cells cell rest : List ℕ} → size ≡ 2 → cells ≡ flat (drop i (packets_of s).cells) → cells ≡ cell ++ rest → length cell ≡ size
    → NextCell s i cell rest
next_cell s i {cell = cell} {rest = rest} two all front long =
    let cs = (packets_of s).cells in
    let c : ℕ × ℕ = (get_or cell 0 0, get_or cell 1 0) in
    let t = turn cs i cell rest (sym all ∙ front) (long ∙ two) in
    record { packet = (i, t.here, t.is c); within = let w = rw (t.is c) at (cell_within s c i t.here) in omega arith; behind = t.behind }

-- what `from_bytes` leaves in the index where it answers n: the cells of all packets, from the index's start
module _ (s index after : List ℕ) (n : ℕ) (e : ◌≡◌ {A = Said ℕ × List ℕ} (answers n, after) (parses s index)) where
  said : parsed s (cells_in index) ≡ answers n
  said = sym (ap (λ (x : Said ℕ × List ℕ). x.0) e)

  left : after ≡ (parses s index).1
  left = ap (λ (x : Said ℕ × List ℕ). x.1) e

  pub room : 2 * n ≤ length after
  room = rw left (lists_parsed s index said).cells

  pub cells : take (2 * n) after ≡ flat (packets_of s).cells
  cells = rw left (cells_parsed s index said)
