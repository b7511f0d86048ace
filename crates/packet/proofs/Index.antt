-- What an index lists once a datagram is parsed: each cell lies within the datagram, and the cells read back as the packets that the walk met.
-- How many cells are enough for every datagram.
-- Assumes nothing.
use Prim.Native.Nat.{ℕ, zero, suc, ◌+◌, ◌-◌, ◌*◌, ◌/◌, ◌<◌, ◌≤◌, min}
use mathlib.Core.Path.{◌≡◌, refl, sym, ap, ◌∙◌, subst}
use mathlib.Core.Bool.{Bool, true, false, cond}
use mathlib.Core.List.{List, [], ◌∷◌, ◌++◌, map}
use native.Mathlib.Omega.{arith}
use native.Mathlib.Decide.{dec_le}
use lib.ListN.{length, get_or, take, drop, length-take}
use lib.Seq.{sets-eq, length-sets, get_or-take, take_all, take_at}
use lib.Dec.{ltb}
use borrow.Author.Tests.{ltb-false, le-ltb}
use Rattle.refusal.specs.Said.{Said, answers, refuses, refuses_at}
use Rattle.lists.specs.Numbers.{largest}
use Rattle.lists.proofs.Bytes.{Bytes}
use Rattle.lists.proofs.Table.{Every, every_at}
use Rattle.header.specs.Types.{type_number}
use Rattle.header.specs.Header.{type_at, field_at, packet_number_at, header_at}
use Rattle.header.specs.declared.BluefinHeader.{BluefinHeader}
use Rattle.header.proofs.Types.{number_type}
use Rattle.packet.specs.Packet.{Packet}
use Rattle.packet.specs.Datagram.{reading_limit, packets_of, cells_in, flat, counted, parsed, cells_written, parses_into, parses, packet_at, listed, Listed}
use Rattle.packet.proofs.Walk.{walk_all, begin_long}

-- header and payload of a cell lie within the datagram
abbrev pub Within : List ℕ → ℕ × ℕ → Type 0
Within s c = c.0 + 20 + c.1 ≤ length s

module _ (s : List ℕ) where
  within : Every (λ k. Within s) 0 (packets_of s).cells
  within = walk_all s (λ at w. (i : ℕ) → Every (λ k. Within s) i w.cells) (λ at e never i. tt) (λ at len w h each i. (h, each (suc i))) 0

  pub cell_within : (d : ℕ × ℕ) (i : ℕ) → i < length (packets_of s).cells → Within s (get_or (packets_of s).cells i d)
  cell_within d = every_at (λ k. Within s) d (packets_of s).cells within

  -- every packet has 20 bytes or more
  few_cells : length (packets_of s).cells ≤ reading_limit / 20
  few_cells =
      let fits : 20 * length (packets_of s).cells ≤ length s - 0 =
      walk_all s (λ at w. 20 * length w.cells ≤ length s - at) (λ at e never. omega arith) (λ at len w h few. omega arith) in
      elim (dec_le (length s) reading_limit) [
        | yes short ↦ omega arith
        | no long ↦ rw (begin_long s (omega arith)) (omega arith)
      ]

  -- so that an index for the longest datagram has room for every one: there is no refusal 10
  pub room_enough : (room : ℕ) → reading_limit / 20 ≤ room → parsed s room ≡ counted (length (packets_of s).cells) (packets_of s).ending
  unfolding parsed
  room_enough room h = rw (le-ltb room (length (packets_of s).cells) (omega (arith, few_cells)))

length-flat : (cs : List (ℕ × ℕ)) → length (flat cs) ≡ 2 * length cs
unfolding flat
length-flat [] = refl
length-flat (c ∷ cs) = rw (length-flat cs) (omega arith)

-- the numbers of a cell stand where the code looks for them
flat_at : (cs : List (ℕ × ℕ)) (rest : List ℕ) (i : ℕ) → i < length cs
    → ◌≡◌ {A = ℕ × ℕ} (get_or (flat cs ++ rest) (2 * i) 0, get_or (flat cs ++ rest) (2 * i + 1) 0) (get_or cs i (0, 0))
unfolding flat
flat_at [] rest i h = absurd (omega arith)
flat_at (c ∷ cs) rest zero h = refl
flat_at (c ∷ cs) rest (suc i) h =
    let second : 2 * suc i + 1 ≡ suc (suc (2 * i + 1)) = omega arith in
    let first : 2 * suc i ≡ suc (suc (2 * i)) = omega arith in
    rw (second, first) (flat_at cs rest i (omega arith))

-- ---- the packets that cells name: no other law opens `packet_at` or `listed`; samples compute them

module _ (s : List ℕ) (at len : ℕ) where
  pub packet_is : {h : BluefinHeader} {payload : List ℕ} → header_at s at ≡ h → take len (drop (at + 20) s) ≡ payload → packet_at s (at, len) ≡ record { header = h; payload = payload }
  unfolding packet_at
  packet_is h p = rw (h, p)

  pub header_is : (packet_at s (at, len)).header ≡ header_at s at
  unfolding packet_at
  header_is = refl

  pub payload_is : (packet_at s (at, len)).payload ≡ take len (drop (at + 20) s)
  unfolding packet_at
  payload_is = refl

  pub number_is : (packet_at s (at, len)).header.packet_number ≡ packet_number_at s at
  unfolding packet_at header_at
  number_is = refl

  pub field_is : (packet_at s (at, len)).header.type_specific_payload ≡ field_at s at
  unfolding packet_at header_at
  field_is = refl

  pub type_is : type_number (packet_at s (at, len)).header.type_field ≡ min (type_at s at) 6
  unfolding packet_at header_at
  type_is = number_type (type_at s at)

module _ (s : List ℕ) where
  pub number_fits : Bytes s → (c : ℕ × ℕ) → (packet_at s c).header.packet_number ≤ largest
  unfolding packet_at header_at
  number_fits b c =
      let a = c.0 + 12 in
      omega (arith, b a, b (a + 1), b (a + 2), b (a + 3), b (a + 4), b (a + 5), b (a + 6), b (a + 7))

  -- what holds of every packet that a cell can name holds of each that is listed
  pub every_listed : (P : Packet → Type 0) → ((c : ℕ × ℕ) → P (packet_at s c)) → (index : List ℕ) (n i : ℕ) → Every (λ k. P) i (listed s index n)
  unfolding listed
  every_listed P each index zero i = tt
  every_listed P each [] (suc n) i = tt
  every_listed P each (o ∷ []) (suc n) i = tt
  every_listed P each (o ∷ l ∷ index) (suc n) i = (each (o, l), every_listed P each index n (suc i))

  -- the first n cells cut off
  listed_take : (index : List ℕ) (n : ℕ) → listed s (take (2 * n) index) n ≡ listed s index n
  unfolding listed
  listed_take index zero = refl
  listed_take [] (suc n) =
      let two : 2 * suc n ≡ suc (suc (2 * n)) = omega arith in
      rw two
  listed_take (o ∷ []) (suc n) =
      let two : 2 * suc n ≡ suc (suc (2 * n)) = omega arith in
      rw two
  listed_take (o ∷ l ∷ index) (suc n) =
      let two : 2 * suc n ≡ suc (suc (2 * n)) = omega arith in
      rw two (ap (λ (ps : List Packet). packet_at s (o, l) ∷ ps) (listed_take index n))

  listed-flat : (cs : List (ℕ × ℕ)) (rest : List ℕ) → listed s (flat cs ++ rest) (length cs) ≡ map (packet_at s) cs
  unfolding flat listed
  listed-flat [] rest = refl
  listed-flat (c ∷ cs) rest = ap (λ (ps : List Packet). packet_at s c ∷ ps) (listed-flat cs rest)

  module _ (index : List ℕ) where
    -- the cells from the index's start, and behind them what it held
    written : (parses_into s index).1
        ≡ flat (take (cells_in index) (packets_of s).cells) ++ drop (0 + length (flat (take (cells_in index) (packets_of s).cells))) index
    written =
        let cs = take (cells_in index) (packets_of s).cells in
        sets-eq (flat cs) index 0 (omega (arith, length-flat cs, length-take (cells_in index) (packets_of s).cells))

    -- the cells that are written read back as the packets met, as far as there are cells
    pub listed_into : listed s (parses_into s index).1 (cells_written s index) ≡ map (packet_at s) (take (cells_in index) (packets_of s).cells)
    listed_into =
        let cs = take (cells_in index) (packets_of s).cells in
        rw (written, sym (length-take (cells_in index) (packets_of s).cells)) (listed-flat cs _)

    -- they are there, and each lies within the datagram
    pub lists_into : Listed s (parses_into s index).1 (cells_written s index)
    lists_into = record { cells = rw length-sets (omega arith); within = here }
      where
        here : (i : ℕ) → i < cells_written s index → Within s (get_or (parses_into s index).1 (2 * i) 0, get_or (parses_into s index).1 (2 * i + 1) 0)
        here i h =
            let cs = take (cells_in index) (packets_of s).cells in
            let cell = ap (λ (x : List ℕ). (get_or x (2 * i) 0, get_or x (2 * i + 1) 0)) written
            ∙ flat_at cs _ i (rw length-take h)
            ∙ get_or-take (cells_in index) (packets_of s).cells i (0, 0) (omega arith) in
            subst (Within s) (sym cell) (cell_within s (0, 0) i (omega arith))

-- the first n cells of an index as a list of their own: as many are in it, of the same packets
module _ (s index : List ℕ) (n : ℕ) (all : Listed s index n) where
  pub cut_many : length (take (2 * n) index) / 2 ≡ n
  cut_many = let room = all.cells in omega (arith, length-take (2 * n) index)

  pub cut_same : listed s (take (2 * n) index) (length (take (2 * n) index) / 2) ≡ listed s index n
  cut_same = rw cut_many (listed_take s index n)

  pub cut_within : Listed s (take (2 * n) index) (length (take (2 * n) index) / 2)
  cut_within = record { cells = omega arith; within = here }
    where
      here : (i : ℕ) → i < length (take (2 * n) index) / 2 → Within s (get_or (take (2 * n) index) (2 * i) 0, get_or (take (2 * n) index) (2 * i + 1) 0)
      here i h =
          let small : i < n = omega (arith, cut_many) in
          rw (get_or-take (2 * n) index (2 * i) 0 (omega arith), get_or-take (2 * n) index (2 * i + 1) 0 (omega arith)) (all.within i small)

-- a cell in front of others: its packet is the first of those listed and lies within the datagram, and so do theirs
pub record FirstCell (s cells cell left : List ℕ) : Type 0 where
  pub more : length cells / 2 ≡ suc (length left / 2)
  pub first : listed s cells (length cells / 2) ≡ packet_at s (get_or cell 0 0, get_or cell 1 0) ∷ listed s left (length left / 2)
  pub within : Within s (get_or cell 0 0, get_or cell 1 0)
  pub behind : Listed s left (length left / 2)

first_pair : (s left : List ℕ) (o l : ℕ) → Listed s (o ∷ l ∷ left) (length (o ∷ l ∷ left) / 2) → FirstCell s (o ∷ l ∷ left) (o ∷ l ∷ []) left
unfolding listed
first_pair s left o l all =
    let more : length (o ∷ l ∷ left) / 2 ≡ suc (length left / 2) = omega arith in
    record { more = more; first = rw more; within = all.within 0 (omega arith); behind = record { cells = omega arith; within = next } }
  where
    next : (i : ℕ) → i < length left / 2 → Within s (get_or left (2 * i) 0, get_or left (2 * i + 1) 0)
    next i h =
        let second : 2 * suc i + 1 ≡ suc (suc (2 * i + 1)) = omega arith in
        let first : 2 * suc i ≡ suc (suc (2 * i)) = omega arith in
        rw (second, first) at (all.within (suc i) (omega arith))

pub first_cell : (s : List ℕ) (cell left : List ℕ) {cells : List ℕ} → Listed s cells (length cells / 2) → cells ≡ cell ++ left → length cell ≡ 2 → FirstCell s cells cell left
first_cell s [] left all e two = absurd (omega arith)
first_cell s (o ∷ []) left all e two = absurd (omega arith)
first_cell s (o ∷ l ∷ []) left all e two =
    subst (λ (x : List ℕ). FirstCell s x (o ∷ l ∷ []) left) (sym e) (first_pair s left o l (subst (λ (x : List ℕ). Listed s x (length x / 2)) e all))
first_cell s (o ∷ l ∷ x ∷ xs) left all e two = absurd (omega arith)

-- past the last cell nothing is listed
pub none_listed : (s cells : List ℕ) → length cells < 2 → listed s cells (length cells / 2) ≡ []
unfolding listed
none_listed s cells few =
    let none : length cells / 2 ≡ 0 = omega arith in
    rw none

-- where parsing answers a count, it is the count of all packets, each has its cell, and the walk came to the end
pub record Answered (s : List ℕ) (room n : ℕ) : Type 0 where
  pub all : n ≡ length (packets_of s).cells
  pub fits : n ≤ room
  pub ended : (packets_of s).ending ≡ answers tt

pub answered_all : (s : List ℕ) (room n : ℕ) → parsed s room ≡ answers n → Answered s room n
unfolding parsed
answered_all s room n e = by (ltb room (length (packets_of s).cells)) (packets_of s).ending refl refl e
  where
    by : (full : Bool) (ending : Said Unit) → ltb room (length (packets_of s).cells) ≡ full → (packets_of s).ending ≡ ending
        → cond full (refuses 10) (counted (length (packets_of s).cells) ending) ≡ answers n → Answered s room n
    by true ending f g e = cc
    by false (answers u) f g e =
        let all : n ≡ length (packets_of s).cells = cc in
        record { all = all; fits = omega (arith, ltb-false room (length (packets_of s).cells) f); ended = g }
    by false (refuses r) f g e = cc
    by false (refuses_at r at) f g e = cc

-- and then the index lists exactly the packets met, for `from_bytes_into` and for `from_bytes`, and each cell lies within the datagram
module _ (s index : List ℕ) {n : ℕ} (e : parsed s (cells_in index) ≡ answers n) where
  all_taken : take (cells_in index) (packets_of s).cells ≡ (packets_of s).cells
  all_taken =
      let a = answered_all s (cells_in index) n e in
      take_all (cells_in index) (packets_of s).cells (omega (arith, a.all, a.fits))

  pub all_written : cells_written s index ≡ n
  all_written = let a = answered_all s (cells_in index) n e in omega (arith, a.all, a.fits)

  pub listed_all : listed s (parses_into s index).1 n ≡ map (packet_at s) (packets_of s).cells
  listed_all = rw (sym all_written) (listed_into s index ∙ rw all_taken)

  pub listed-parsed : listed s (parses s index).1 n ≡ map (packet_at s) (packets_of s).cells
  listed-parsed = rw e listed_all

  pub lists_parsed : Listed s (parses s index).1 n
  lists_parsed = rw (e, sym all_written) (lists_into s index)

  -- the index begins with the cells of all packets
  pub cells_parsed : take (2 * n) (parses s index).1 ≡ flat (packets_of s).cells
  cells_parsed =
      let a = answered_all s (cells_in index) n e in
      rw (e, written s index, all_taken) (take_at (flat (packets_of s).cells) _ (2 * n) (rw length-flat (omega (arith, a.all))))
