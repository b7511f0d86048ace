-- The boundaries of making an empty data packet hold of its definition: each row computes, but for the count of lent bytes (Lent.antt). Assumes nothing.
use Prim.Native.Nat.{ℕ, ◌-◌, ◌^◌}
use mathlib.Core.Path.{◌≡◌}
use mathlib.Core.List.{List, ◌++◌}
use lib.ListN.{replicate}
use lib.Dec.{lit≤}
use Rattle.header.specs.Header.{header_bytes}
use Rattle.packet.specs.Packet.{joined}
use Rattle.lists.specs.Rising.{rising}
use Rattle.lists.specs.Within.{all_within}
use Rattle.outstanding.specs.Outstanding.{places, size, all_below, keeping, up_to, without}
use Rattle.outstanding.specs.Steps.{counting}
use Rattle.writer.specs.Packing.{payload_size, byte_limit, cut, numbered, removal, shortened, sum}
use Rattle.writer.specs.Empty.{packs_empty}
use Rattle.samples.specs.Inputs.{nothing_kept}
use Rattle.samples.specs.OutstandingRows.{taken, last_is, seven, two, one, longest, roomier, malformed}
use Rattle.samples.specs.EmptyRows.{empty, empty_seven, empty_eight, full_to, EmptyRows}
use Rattle.samples.proofs.Lent.{Roomy, roomy, none_roomy, making, lists, drops, packs, makes, makes_none}
use Rattle.samples.proofs.OutstandingRows.{taken-roomy, last_roomy, two-roomy, one-roomy, longest-roomy, roomier-roomy, bad}

-- ---- each store's lent bytes are enough

seven-roomy : Roomy empty_seven.packets
seven-roomy = roomy (empty 7) 17280 (lit≤ tt) (lit≤ tt)

eight-roomy : Roomy empty_eight.packets
eight-roomy = roomy (seven ++ empty 8) 17280 (lit≤ tt) (lit≤ tt)

full-roomy : (n : ℕ) → Roomy (full_to n).packets
full-roomy n = roomy (replicate 1344 8) 17280 (lit≤ tt) (lit≤ tt)

-- ---- the rows

-- with nothing kept, and with the last of two numbers given
made : (next : ℕ) (out : List ℕ) → packs_empty nothing_kept next 1 2 out ≡ making nothing_kept next out
made = makes nothing_kept none_roomy

last : (n next : ℕ) (out : List ℕ) → packs_empty (last_is n) next 1 2 out ≡ making (last_is n) next out
last n = makes (last_is n) (last_roomy n)

pub empty_rows : EmptyRows
unfolding header_bytes joined rising all_within places size all_below keeping up_to without counting payload_size byte_limit cut numbered removal shortened sum
empty_rows = record {
  room_20 = made _ _;
  room_21 = made _ _;
  number_0 = made _ _;
  behind_two = makes two two-roomy _ _;
  behind_empty = makes empty_seven seven-roomy _ _;
  behind_1500 = makes longest longest-roomy _ _;
  behind_stays = makes one one-roomy _ _;
  more_is_lent = makes roomier roomier-roomy _ _;
  data_behind = packs empty_seven seven-roomy _ _ _;
  listed = lists empty_eight eight-roomy _;
  kept_at_7 = drops empty_eight eight-roomy _;
  dropped_at_8 = drops empty_eight eight-roomy _;
  last_number = made _ _;
  no_number = made _ _;
  room_19 = made _ _;
  room_0 = made _ _;
  number_before_room = made _ _;
  one_free = makes (taken 63) (taken-roomy 63 (lit≤ tt)) _ _;
  none_free = makes (taken 64) (taken-roomy 64 (lit≤ tt)) _ _;
  number_before_full = makes (taken 64) (taken-roomy 64 (lit≤ tt)) _ _;
  room_before_full = makes (taken 64) (taken-roomy 64 (lit≤ tt)) _ _;
  number_before_both = makes (taken 64) (taken-roomy 64 (lit≤ tt)) _ _;
  next_99 = last _ _ _;
  next_200_last_201 = last _ _ _;
  next_200_last_200 = last _ _ _;
  next_200_last_199 = last _ _ _;
  malformed_before_number = last _ _ _;
  malformed_before_room = last _ _ _;
  malformed_before_full = makes (full_to 200) (full-roomy 200) _ _;
  malformed_before_all = makes (full_to (2 ^ 64 - 1)) (full-roomy (2 ^ 64 - 1)) _ _;
  each_12 = makes_none malformed bad _ _;
}
