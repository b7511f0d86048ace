-- The packets kept to be sent again: document 02, §3. The Rust keeps none.
-- A call's definition takes the store as it came, and gives what is said and what is left of the lent memory.
use Rattle.std.specs.Prelude.{ℕ, suc, ◌≡◌, ◌+◌, ◌-◌, ◌*◌, Bool, true, not, cond, ◌&&◌, List, [], ◌∷◌, map, length, take, drop, ltb, leb}
use Rattle.std.proofs.Math.Seq.{paste}
use Rattle.refusal.specs.Said.{Said, answers, refuses, checks}
use Rattle.lists.specs.Rising.{rising}
use Rattle.lists.specs.Within.{all_within}
use Rattle.packet.specs.Packet.{Packet, joined}
use Rattle.packet.specs.Sizes.{payload_size}
use Rattle.outstanding.specs.declared.Outstanding.{Outstanding}
use Rattle.outstanding.specs.declared.StoreView.{StoreView}
use Rattle.outstanding.specs.declared.StoreViewMut.{StoreViewMut}

-- "at most 64 of them"
unfoldable pub places : ℕ
places = 64

-- How many packets are kept, and what is lent beside: their numbers and payload lengths, a cell to each from the first cell on, and the packets "whole and end
-- to end" from the first byte on, each its header of 20 bytes and its payload.
pub record Store : Type 0 where
  pub state : Outstanding
  pub numbers : List ℕ
  pub lengths : List ℕ
  pub packets : List ℕ

abbrev pub store_of : Outstanding → List ℕ → List ℕ → List ℕ → Store
store_of o numbers lengths packets = record { state = o; numbers = numbers; lengths = lengths; packets = packets }

-- the store that a view reads, and the one that a view to change has now
abbrev pub store_in : StoreView → Store
store_in v = store_of v.state v.numbers.now v.lengths.now v.packets.now

abbrev pub store_now : StoreViewMut → Store
store_now v = store_of v.state v.numbers.now v.lengths.now v.packets.now

-- a call leaves in a view the lists that were lent, so that who lent them learns what they hold
abbrev pub SameLent : StoreViewMut → StoreViewMut → Type 0
SameLent a b = (b.numbers.ghost_name ≡ a.numbers.ghost_name) × (b.lengths.ghost_name ≡ a.lengths.ghost_name) × (b.packets.ghost_name ≡ a.packets.ghost_name)

-- "Fresh has an empty store"
abbrev pub fresh : Outstanding
fresh = record { count = 0 }

abbrev pub count_of : Store → ℕ
count_of k = k.state.count

abbrev pub numbers_of : Store → List ℕ
numbers_of k = take (count_of k) k.numbers

abbrev pub lengths_of : Store → List ℕ
lengths_of k = take (count_of k) k.lengths

-- how many bytes packets with such payload lengths have
unfoldable pub size : List ℕ → ℕ
size [] = 0
size (l ∷ ls) = 20 + l + size ls

abbrev pub bytes_of : Store → List ℕ
bytes_of k = take (size (lengths_of k)) k.packets

-- the "free places"
abbrev pub free : Store → ℕ
free k = places - count_of k

-- ---- refusal 12

-- the lent memory has room for 64 packets of 1,500 bytes
abbrev pub roomy : List ℕ → List ℕ → List ℕ → Bool
roomy numbers lengths packets = leb places (length numbers) && (leb places (length lengths) && leb (places * (20 + payload_size)) (length packets))

-- "More than 64, numbers not rising .., or a payload above 1,500 is 12"
unfoldable pub well_formed : Store → Bool
well_formed k = roomy k.numbers k.lengths k.packets && (leb (count_of k) places && (rising (numbers_of k) && all_within payload_size (lengths_of k)))

unfoldable pub all_below : ℕ → List ℕ → Bool
all_below next [] = true
all_below next (n ∷ ns) = ltb n next && all_below next ns

-- ".. or not below a next number given"
unfoldable pub well_formed_below : ℕ → Store → Bool
well_formed_below next k = well_formed k && all_below next (numbers_of k)

-- ---- "Keep each packed packet"

abbrev pub number_in : Packet → ℕ
number_in p = p.header.packet_number

abbrev pub length_in : Packet → ℕ
length_in p = length p.payload

-- behind those kept before; other cells and bytes stay
unfoldable pub keeping : Store → List Packet → Store
keeping k ps = record {
  state = record { count = count_of k + length ps };
  numbers = paste k.numbers (count_of k) (map number_in ps) (length ps);
  lengths = paste k.lengths (count_of k) (map length_in ps) (length ps);
  packets = paste k.packets (size (lengths_of k)) (joined ps) (length (joined ps));
}

-- ---- "list those outstanding by rising number, whole and end to end, answering their count (10 if the buffer is short)"

unfoldable pub listing : Store → List ℕ → Said ℕ × List ℕ
listing k out =
    checks ((not (well_formed k), 12) ∷ (ltb (length out) (size (lengths_of k)), 10) ∷ [])
    (λ n. (refuses n, out)) (answers (count_of k), paste out 0 (bytes_of k) (size (lengths_of k)))

-- ---- ".. until the window's `consume` answers it or a later number"

-- how many from the front on have at most the number answered
unfoldable pub up_to : ℕ → List ℕ → ℕ
up_to last [] = 0
up_to last (n ∷ ns) = cond (leb n last) (suc (up_to last ns)) 0

-- the store without its first n packets: the others move to the first cells and bytes, and what stands behind them there stays
unfoldable pub without : ℕ → Store → Store
without n k = record {
  state = record { count = count_of k - n };
  numbers = paste k.numbers 0 (drop n k.numbers) (count_of k - n);
  lengths = paste k.lengths 0 (drop n k.lengths) (count_of k - n);
  packets = paste k.packets 0 (drop (size (take n k.lengths)) k.packets) (size (drop n (lengths_of k)));
}

unfoldable pub answering : Store → ℕ → Said Unit × Store
answering k last = checks ((not (well_formed k), 12) ∷ []) (λ n. (refuses n, k)) (answers tt, without (up_to last (numbers_of k)) k)
