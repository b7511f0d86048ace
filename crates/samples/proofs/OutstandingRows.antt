-- The boundaries of the store of outstanding packets, and of packing where places are taken, hold of their definitions: each row computes, but for the count of lent bytes (Lent.antt).
-- Assumes nothing.
use Prim.Native.Nat.{ℕ, ◌-◌, ◌*◌, ◌^◌, ◌≤◌}
use mathlib.Core.Path.{◌≡◌, refl, ap}
use mathlib.Core.List.{List, [], ◌++◌}
use native.Mathlib.Omega.{arith}
use lib.ListN.{replicate, length-replicate}
use lib.Dec.{lit≤}
use Rattle.header.specs.Header.{header_bytes}
use Rattle.packet.specs.Packet.{joined}
use Rattle.lists.specs.Rising.{rising}
use Rattle.lists.specs.Within.{all_within}
use Rattle.outstanding.specs.Outstanding.{places, size, well_formed, all_below, keeping, up_to, without}
use Rattle.outstanding.specs.Steps.{counting}
use Rattle.writer.specs.Packing.{Queue, payload_size, byte_limit, cut, numbered, removal, shortened, sum}
use Rattle.writer.specs.Sending.{Sending, consumes_data}
use Rattle.samples.specs.Inputs.{nothing_kept}
use Rattle.samples.specs.WriterRows.{full_packet}
use Rattle.samples.specs.OutstandingRows.{taken, last_is, seven, nine, two, one, longest, three, roomier, malformed_cells, malformed, PlacesRows, ListRows, DropRows, StoreRows}
use Rattle.samples.proofs.Lent.{Roomy, roomy, none_roomy, sending, lists, drops, packs, Malformed, Unfit, unfit, packs_none, lists_none, drops_none, short}

-- ---- each store's lent bytes are enough

pub taken-roomy : (n : ℕ) → n ≤ 64 → Roomy (taken n).packets
taken-roomy n few = roomy (replicate (21 * n) 8) 17280 (omega (arith, length-replicate {A = ℕ} (21 * n) 8)) (lit≤ tt)

pub last_roomy : (n : ℕ) → Roomy (last_is n).packets
last_roomy n = roomy (replicate 42 8) 17280 (lit≤ tt) (lit≤ tt)

pub two-roomy : Roomy two.packets
two-roomy = roomy (seven ++ nine) 17280 (lit≤ tt) (lit≤ tt)

pub one-roomy : Roomy one.packets
one-roomy = two-roomy

pub longest-roomy : Roomy longest.packets
longest-roomy = roomy (full_packet 7 5) 17280 (lit≤ tt) (lit≤ tt)

three-roomy : Roomy three.packets
three-roomy = roomy (replicate 21 1 ++ replicate 22 2 ++ replicate 23 3) 17280 (lit≤ tt) (lit≤ tt)

pub roomier-roomy : Roomy roomier.packets
roomier-roomy = roomy [] 17281 (lit≤ tt) (lit≤ tt)

-- ---- the rows

-- packing where so many places are taken, and what it says
made : (n : ℕ) → n ≤ 64 → (queue : Queue) (next : ℕ) (out : List ℕ) → consumes_data (taken n) queue next 1 2 out ≡ sending (taken n) queue next out
made n few = packs (taken n) (taken-roomy n few)

says : (n : ℕ) → n ≤ 64 → (queue : Queue) (next : ℕ) (out : List ℕ) → (consumes_data (taken n) queue next 1 2 out).said ≡ (sending (taken n) queue next out).said
says n few queue next out = ap (λ (s : Sending). s.said) (made n few queue next out)

pub places_rows : PlacesRows
unfolding header_bytes joined rising all_within places size all_below keeping counting payload_size byte_limit cut numbered removal shortened sum
places_rows = record {
  eleven_free = (says 53 (lit≤ tt) _ _ _, refl);
  ten_free = (says 54 (lit≤ tt) _ _ _, refl);
  nine_free = (says 55 (lit≤ tt) _ _ _, refl);
  nine_free_cut = (says 55 (lit≤ tt) _ _ _, refl);
  one_free = (says 63 (lit≤ tt) _ _ _, refl);
  one_free_one_byte = (says 63 (lit≤ tt) _ _ _, refl);
  three_free_4499 = (says 61 (lit≤ tt) _ _ _, refl);
  three_free_4500 = (says 61 (lit≤ tt) _ _ _, refl);
  three_free_4501 = (says 61 (lit≤ tt) _ _ _, refl);
  keeps_behind = made 2 (lit≤ tt) _ _ _;
  keeps_ten = made 54 (lit≤ tt) _ _ _;
  keeps_in_the_last_place = made 63 (lit≤ tt) _ _ _;
  behind_stays = packs one one-roomy _ _ _;
  none_free = made 64 (lit≤ tt) _ _ _;
  none_free_15000 = made 64 (lit≤ tt) _ _ _;
  none_free_nothing_queued = made 64 (lit≤ tt) _ _ _;
  none_free_empty_entry = made 64 (lit≤ tt) _ _ _;
  one_free_nothing_queued = made 63 (lit≤ tt) _ _ _;
  one_free_empty_entry = made 63 (lit≤ tt) _ _ _;
  queue_before_full = made 64 (lit≤ tt) _ _ _;
  next_before_full = made 64 (lit≤ tt) _ _ _;
  full_needs_no_number = made 64 (lit≤ tt) _ _ _;
  one_number = made 63 (lit≤ tt) _ _ _;
  room_1519 = made 63 (lit≤ tt) _ _ _;
  number_before_room = made 63 (lit≤ tt) _ _ _;
  malformed_before_number = packs (last_is 100) (last_roomy 100) _ _ _;
  malformed_before_room = packs (last_is 100) (last_roomy 100) _ _ _;
}

pub list_rows : ListRows
unfolding rising all_within places size counting payload_size
list_rows = record {
  nothing = lists nothing_kept none_roomy _;
  nothing_stays = lists nothing_kept none_roomy _;
  both = lists two two-roomy _;
  behind_stays = lists two two-roomy _;
  one_byte_short = lists two two-roomy _;
  no_byte = lists two two-roomy _;
  not_counted = lists one one-roomy _;
  any_bytes = lists (taken 64) (taken-roomy 64 (lit≤ tt)) _;
  payload_1500 = lists longest longest-roomy _;
  last_number = lists (last_is (2 ^ 64 - 1)) (last_roomy (2 ^ 64 - 1)) _;
}

pub drop_rows : DropRows
unfolding rising all_within places size up_to without counting payload_size
drop_rows = record {
  below = drops three three-roomy _;
  first = drops three three-roomy _;
  after_first = drops three three-roomy _;
  second = drops three three-roomy _;
  before_last = drops three three-roomy _;
  last = drops three three-roomy _;
  past = drops three three-roomy _;
  last_number = drops three three-roomy _;
  nothing = drops nothing_kept none_roomy _;
  one_of_64 = drops (taken 64) (taken-roomy 64 (lit≤ tt)) _;
  all_64 = drops (taken 64) (taken-roomy 64 (lit≤ tt)) _;
  payload_1500 = drops longest longest-roomy _;
  not_counted = drops one one-roomy _;
  holds_last_number = drops (last_is (2 ^ 64 - 1)) (last_roomy (2 ^ 64 - 1)) _;
}

-- no store of the list is well formed
pub bad : Malformed malformed
unfolding Malformed well_formed Unfit rising all_within places counting payload_size
bad = (refl, (refl, (short 97279 refl, unfit malformed_cells search)))

pub store_rows : StoreRows
unfolding header_bytes joined rising all_within places size all_below keeping counting payload_size byte_limit cut numbered removal shortened sum
store_rows = record {
  new = refl;
  packing_12 = packs_none malformed bad _ _ _;
  listing_12 = lists_none malformed bad _;
  dropping_12 = drops_none malformed bad _;
  next_99 = packs (last_is 101) (last_roomy 101) _ _ _;
  next_200_last_201 = packs (last_is 201) (last_roomy 201) _ _ _;
  next_200_last_200 = packs (last_is 200) (last_roomy 200) _ _ _;
  next_200_last_199 = packs (last_is 199) (last_roomy 199) _ _ _;
  payload_1500 = packs longest longest-roomy _ _ _;
  more_is_lent = packs roomier roomier-roomy _ _ _;
}
