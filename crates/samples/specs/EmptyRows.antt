-- Boundaries of making an empty data packet and keeping it: document 02, §5.
use Rattle.std.specs.Prelude.{ℕ, ◌-◌, ◌^◌, ◌≡◌, List, [], ◌∷◌, ◌++◌, map, replicate}
use Rattle.refusal.specs.Said.{answers, refuses}
use Rattle.outstanding.specs.Outstanding.{Store, store_of}
use Rattle.outstanding.specs.Steps.{counting}
use Rattle.writer.specs.Empty.{packs_empty}
use Rattle.samples.specs.Inputs.{lent, head, counts, kept, nothing_kept}
use Rattle.samples.specs.WriterRows.{answer, Sends, one_byte, full_packet}
use Rattle.samples.specs.OutstandingRows.{taken, last_is, seven, nine, two, one, longest, roomier, malformed, one_packet, Lists, Drops}

-- an empty packet made with a number into lent bytes, from source 1 to destination 2, with a store: the next number, and the bytes and the store left
abbrev pub Makes : Store → ℕ → List ℕ → ℕ → List ℕ → Store → Type 0
Makes k next out said left after = packs_empty k next 1 2 out ≡ record { said = answers said; out = left; store = after }

-- "all unchanged"
abbrev pub Unmade : Store → ℕ → List ℕ → ℕ → Type 0
Unmade k next out r = packs_empty k next 1 2 out ≡ record { said = refuses r; out = out; store = k }

-- the empty packet by its number: type 3 and field 0; and the one with number 2^64 − 2
abbrev pub empty : ℕ → List ℕ
empty number = head 3 0 number

abbrev pub last_empty : List ℕ
last_empty = 3 ∷ 0 ∷ 0 ∷ 0 ∷ 0 ∷ 0 ∷ 0 ∷ 1 ∷ 0 ∷ 0 ∷ 0 ∷ 2 ∷ 255 ∷ 255 ∷ 255 ∷ 255 ∷ 255 ∷ 255 ∷ 255 ∷ 254 ∷ []

-- one empty packet kept, and one behind a packet of one byte
abbrev pub empty_seven : Store
empty_seven = kept (7 ∷ []) (0 ∷ []) (empty 7)

abbrev pub empty_eight : Store
empty_eight = kept (7 ∷ 8 ∷ []) (1 ∷ 0 ∷ []) (seven ++ empty 8)

-- 64 kept, the last with such a number
abbrev pub full_to : ℕ → Store
full_to n = kept (counting 100 63 ++ (n ∷ [])) (replicate 64 1) (replicate 1344 8)

pub record EmptyRows : Type 0 where
  -- "The empty packet, written as packing writes one, takes the sender's next number and a place in §3's store": output bytes behind it stay
  pub room_20 : Makes nothing_kept 7 (lent 20) 8 (empty 7) empty_seven
  pub room_21 : Makes nothing_kept 7 (lent 21) 8 (empty 7 ++ (99 ∷ [])) empty_seven
  pub number_0 : Makes nothing_kept 0 (lent 20) 1 (empty 0) (kept (0 ∷ []) (0 ∷ []) (empty 0))
  -- its number, payload length and bytes stand behind those kept before, of which any may be empty; other cells and bytes stay
  pub behind_two : Makes two 10 (lent 20) 11 (empty 10) (kept (7 ∷ 9 ∷ 10 ∷ []) (1 ∷ 2 ∷ 0 ∷ []) (seven ++ nine ++ empty 10))
  pub behind_empty : Makes empty_seven 8 (lent 20) 9 (empty 8) (kept (7 ∷ 8 ∷ []) (0 ∷ 0 ∷ []) (empty 7 ++ empty 8))
  pub behind_1500 : Makes longest 200 (lent 20) 201 (empty 200) (kept (7 ∷ 200 ∷ []) (1500 ∷ 0 ∷ []) (full_packet 7 5 ++ empty 200))
  pub behind_stays : Makes one 200 (lent 20) 201 (empty 200) (counts 2 (7 ∷ 200 ∷ 3 ∷ []) (1 ∷ 0 ∷ 1502 ∷ []) (seven ++ empty 200 ++ (6 ∷ 7 ∷ [])))
  pub more_is_lent : Makes roomier 200 (lent 20) 201 (empty 200) (store_of (record { count = 1 }) (200 ∷ lent 64) (0 ∷ lent 65) (empty 200 ++ lent 17261 ++ lent 80000))
  -- .. and §3's calls find it there: data packed behind it, listing, dropping
  pub data_behind : Sends empty_seven one_byte 200 (lent 21) (answer 1 1 201 1 0) one_packet (kept (7 ∷ 200 ∷ []) (0 ∷ 1 ∷ []) (empty 7 ++ one_packet))
  pub listed : Lists empty_eight (lent 42) 2 (seven ++ empty 8 ++ (99 ∷ []))
  pub kept_at_7 : Drops empty_eight 7 (counts 1 (8 ∷ 8 ∷ []) (0 ∷ 0 ∷ []) (empty 8 ++ (5 ∷ []) ++ empty 8))
  pub dropped_at_8 : Drops empty_eight 8 (counts 0 (7 ∷ 8 ∷ []) (1 ∷ 0 ∷ []) (seven ++ empty 8))
  -- 9 and 10 as packing has them, for one packet of 20 bytes: "next number + p above 2^64 − 1", and an output that it does not fit
  pub last_number : Makes nothing_kept (2 ^ 64 - 2) (lent 20) (2 ^ 64 - 1) last_empty (kept ((2 ^ 64 - 2) ∷ []) (0 ∷ []) last_empty)
  pub no_number : Unmade nothing_kept (2 ^ 64 - 1) (lent 20) 9
  pub room_19 : Unmade nothing_kept 7 (lent 19) 10
  pub room_0 : Unmade nothing_kept 7 [] 10
  pub number_before_room : Unmade nothing_kept (2 ^ 64 - 1) (lent 19) 9
  -- "with none free it is refused with 15, after 9 and 10"
  pub one_free : Makes (taken 63) 200 (lent 20) 201 (empty 200) (kept (counting 100 63 ++ (200 ∷ [])) (replicate 63 1 ++ (0 ∷ [])) (replicate 1323 8 ++ empty 200))
  pub none_free : Unmade (taken 64) 200 (lent 20) 15
  pub number_before_full : Unmade (taken 64) (2 ^ 64 - 1) (lent 20) 9
  pub room_before_full : Unmade (taken 64) 200 (lent 19) 10
  pub number_before_both : Unmade (taken 64) (2 ^ 64 - 1) (lent 19) 9
  -- §3's 12, "numbers .. not below a next number given": all above it, the last above it, the last equal to it; one below is well formed
  pub next_99 : Unmade (last_is 101) 99 (lent 20) 12
  pub next_200_last_201 : Unmade (last_is 201) 200 (lent 20) 12
  pub next_200_last_200 : Unmade (last_is 200) 200 (lent 20) 12
  pub next_200_last_199 : Makes (last_is 199) 200 (lent 20) 201 (empty 200) (kept (100 ∷ 199 ∷ 200 ∷ []) (1 ∷ 1 ∷ 0 ∷ []) (replicate 42 8 ++ empty 200))
  -- "12 comes first everywhere": before 9, before 10, before 15, before all three; and on every malformed store, among them those lent 63 cells or 97,279 bytes
  pub malformed_before_number : Unmade (last_is (2 ^ 64 - 1)) (2 ^ 64 - 1) (lent 20) 12
  pub malformed_before_room : Unmade (last_is 200) 200 (lent 19) 12
  pub malformed_before_full : Unmade (full_to 200) 200 (lent 20) 12
  pub malformed_before_all : Unmade (full_to (2 ^ 64 - 1)) (2 ^ 64 - 1) (lent 19) 12
  pub each_12 : map (λ k. packs_empty k 200 1 2 (lent 20)) malformed ≡ map (λ k. record { said = refuses 12; out = lent 20; store = k }) malformed
