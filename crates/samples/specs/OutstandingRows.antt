-- Boundaries of the store of outstanding packets, and of packing where places are taken: document 02, §3.
use Rattle.std.specs.Prelude.{ℕ, ◌-◌, ◌*◌, ◌^◌, ◌≡◌, List, [], ◌∷◌, ◌++◌, map, replicate}
use Rattle.refusal.specs.Said.{Said, answers, refuses}
use Rattle.outstanding.specs.Outstanding.{Store, fresh, store_of, listing, answering}
use Rattle.outstanding.specs.Steps.{counting}
use Rattle.writer.specs.declared.DataPacked.{DataPacked}
use Rattle.writer.specs.Packing.{Queue}
use Rattle.writer.specs.Sending.{consumes_data}
use Rattle.samples.specs.Inputs.{Leaves, lent, head, counts, kept, nothing_kept}
use Rattle.samples.specs.WriterRows.{queue, answer, Sends, Unsent, TakesWith, one_byte, full_packet}

-- ---- stores

-- so many packets of one byte each, numbered from 100 on; no call looks at their bytes
abbrev pub taken : ℕ → Store
taken n = kept (counting 100 n) (replicate n 1) (replicate (21 * n) 8)

-- two, the second with such a number
abbrev pub last_is : ℕ → Store
last_is n = kept (100 ∷ n ∷ []) (1 ∷ 1 ∷ []) (replicate 42 8)

-- packets of one and of two bytes, numbers 7 and 9, whole
abbrev pub seven : List ℕ
seven = head 3 1 7 ++ (5 ∷ [])

abbrev pub nine : List ℕ
nine = head 3 2 9 ++ (6 ∷ 7 ∷ [])

abbrev pub two : Store
two = kept (7 ∷ 9 ∷ []) (1 ∷ 2 ∷ []) (seven ++ nine)

-- the first of them alone; in the cells behind it a number and a length that would be malformed
abbrev pub one : Store
one = counts 1 (7 ∷ 7 ∷ 3 ∷ []) (1 ∷ 1501 ∷ 1502 ∷ []) (seven ++ nine)

-- one with the longest payload
abbrev pub longest : Store
longest = kept (7 ∷ []) (1500 ∷ []) (full_packet 7 5)

-- packets of one, two and three bytes, with numbers between which others are missing; each byte says which it is of
abbrev pub three : Store
three = kept (100 ∷ 102 ∷ 105 ∷ []) (1 ∷ 2 ∷ 3 ∷ []) (replicate 21 1 ++ replicate 22 2 ++ replicate 23 3)

-- nothing kept, with a number's cell, two lengths' cells and a byte more than enough
abbrev pub roomier : Store
roomier = store_of fresh (lent 65) (lent 66) (lent 17281 ++ lent 80000)

-- ---- packing where places are taken

-- so many bytes in such entries, packed from number 200 on where so many places are taken: the answer, and the queue left
abbrev pub Takes : ℕ → ℕ → List ℕ → DataPacked → ℕ → List ℕ → Type 0
Takes n = TakesWith (taken n) 200

-- so many bytes in one entry
abbrev pub fives : ℕ → Queue
fives total = queue (replicate total 5) (total ∷ [])

-- the packet of one byte with number 200; ten full ones from 200 on; a full one with number 2^64 − 2
abbrev pub one_packet : List ℕ
one_packet = head 3 1 200 ++ (5 ∷ [])

abbrev pub ten_packets : List ℕ
ten_packets =
    full_packet 200 5 ++ full_packet 201 5 ++ full_packet 202 5 ++ full_packet 203 5 ++ full_packet 204 5
    ++ full_packet 205 5 ++ full_packet 206 5 ++ full_packet 207 5 ++ full_packet 208 5 ++ full_packet 209 5

abbrev pub last_packet : List ℕ
last_packet = 3 ∷ 5 ∷ 220 ∷ 0 ∷ 0 ∷ 0 ∷ 0 ∷ 1 ∷ 0 ∷ 0 ∷ 0 ∷ 2 ∷ 255 ∷ 255 ∷ 255 ∷ 255 ∷ 255 ∷ 255 ∷ 255 ∷ 254 ∷ replicate 1500 5

pub record PlacesRows : Type 0 where
  -- "A packing makes no more packets than there are free places: document 01's 15,000 becomes 1,500 times that many where it is less": eleven, ten, nine, one
  pub eleven_free : Takes 53 15001 (15001 ∷ []) (answer 15000 10 210 0 15000) 1 (1 ∷ [])
  pub ten_free : Takes 54 15001 (15001 ∷ []) (answer 15000 10 210 0 15000) 1 (1 ∷ [])
  pub nine_free : Takes 55 13501 (13501 ∷ []) (answer 13500 9 209 0 13500) 1 (1 ∷ [])
  pub nine_free_cut : Takes 55 15001 (6000 ∷ 9000 ∷ 1 ∷ []) (answer 13500 9 209 1 7500) 1501 (1500 ∷ 1 ∷ [])
  pub one_free : Takes 63 15001 (15001 ∷ []) (answer 1500 1 201 0 1500) 13501 (13501 ∷ [])
  pub one_free_one_byte : Takes 63 1 (1 ∷ []) (answer 1 1 201 1 0) 0 []
  -- "If T is below 15,000, all entries go, empty ones too. Otherwise the entry with the last byte taken goes if used up, and all later ones stay": three free make it 4,500
  pub three_free_4499 : Takes 61 4499 (4499 ∷ 0 ∷ []) (answer 4499 3 203 2 0) 0 []
  pub three_free_4500 : Takes 61 4500 (4500 ∷ 0 ∷ []) (answer 4500 3 203 1 0) 0 (0 ∷ [])
  pub three_free_4501 : Takes 61 4501 (4500 ∷ 0 ∷ 1 ∷ []) (answer 4500 3 203 1 0) 1 (0 ∷ 1 ∷ [])
  -- "Keep each packed packet": number, payload length and bytes stand behind those kept before; other cells and bytes stay
  pub keeps_behind : Sends (taken 2) one_byte 200 (lent 22) (answer 1 1 201 1 0) (one_packet ++ (99 ∷ []))
      (kept (100 ∷ 101 ∷ 200 ∷ []) (1 ∷ 1 ∷ 1 ∷ []) (replicate 42 8 ++ one_packet))
  pub keeps_ten : Sends (taken 54) (fives 15001) 200 (lent 15200) (answer 15000 10 210 0 15000) ten_packets
      (kept (counting 100 54 ++ counting 200 10) (replicate 54 1 ++ replicate 10 1500) (replicate 1134 8 ++ ten_packets))
  pub keeps_in_the_last_place : Sends (taken 63) (fives 1501) 200 (lent 1520) (answer 1500 1 201 0 1500) (full_packet 200 5)
      (kept (counting 100 63 ++ (200 ∷ [])) (replicate 63 1 ++ (1500 ∷ [])) (replicate 1323 8 ++ full_packet 200 5))
  pub behind_stays : Sends one one_byte 200 (lent 21) (answer 1 1 201 1 0) one_packet
      (counts 2 (7 ∷ 200 ∷ 3 ∷ []) (1 ∷ 1 ∷ 1502 ∷ []) (seven ++ one_packet ++ (7 ∷ [])))
  -- "Refused: 15, exactly when all 64 packets are outstanding": whatever is queued
  pub none_free : Unsent (taken 64) one_byte 200 (lent 21) 15
  pub none_free_15000 : Unsent (taken 64) (fives 15000) 200 (lent 15200) 15
  pub none_free_nothing_queued : Unsent (taken 64) (queue [] []) 200 [] 15
  pub none_free_empty_entry : Unsent (taken 64) (queue [] (0 ∷ [])) 200 [] 15
  pub one_free_nothing_queued : Sends (taken 63) (queue [] []) 200 [] (answer 0 0 200 0 0) [] (taken 63)
  pub one_free_empty_entry : Sends (taken 63) (queue [] (0 ∷ [])) 200 [] (answer 0 0 200 1 0) [] (taken 63)
  -- ".. after every other check of the packing call": after 12, by the queue or by the next number. 9 and 10 it cannot meet: with no place free no packet is made, which needs no
  -- number and no room
  pub queue_before_full : Unsent (taken 64) (queue (5 ∷ 6 ∷ []) (1 ∷ [])) 200 (lent 30) 12
  pub next_before_full : Unsent (taken 64) one_byte 163 (lent 21) 12
  pub full_needs_no_number : Unsent (taken 64) one_byte (2 ^ 64 - 1) [] 15
  -- 9 and 10 are of the packets made, not of those that find no place: one number and 1,520 bytes for one place; 12 before both, and 9 before 10
  pub one_number : Sends (taken 63) (fives 3000) (2 ^ 64 - 2) (lent 1520) (answer 1500 1 (2 ^ 64 - 1) 0 1500) last_packet
      (kept (counting 100 63 ++ ((2 ^ 64 - 2) ∷ [])) (replicate 63 1 ++ (1500 ∷ [])) (replicate 1323 8 ++ last_packet))
  pub room_1519 : Unsent (taken 63) (fives 3000) 200 (lent 1519) 10
  pub number_before_room : Unsent (taken 63) one_byte (2 ^ 64 - 1) (lent 20) 9
  pub malformed_before_number : Unsent (last_is 100) one_byte (2 ^ 64 - 1) (lent 21) 12
  pub malformed_before_room : Unsent (last_is 100) one_byte 200 (lent 20) 12

-- ---- listing: the count answered, and the bytes left
abbrev pub Lists : Store → List ℕ → ℕ → List ℕ → Type 0
Lists k out n left = Leaves (listing k out) (answers n) left

-- 10, "all unchanged"
abbrev pub Short : Store → List ℕ → Type 0
Short k out = Leaves (listing k out) (refuses 10) out

pub record ListRows : Type 0 where
  -- "list those outstanding by rising number, whole and end to end, answering their count (10 if the buffer is short)"
  pub nothing : Lists nothing_kept [] 0 []
  pub nothing_stays : Lists nothing_kept (lent 3) 0 (lent 3)
  pub both : Lists two (lent 43) 2 (seven ++ nine)
  pub behind_stays : Lists two (lent 45) 2 (seven ++ nine ++ (99 ∷ 99 ∷ []))
  pub one_byte_short : Short two (lent 42)
  pub no_byte : Short two []
  -- what is not counted is not listed; the bytes are those that stand there
  pub not_counted : Lists one (lent 22) 1 (seven ++ (99 ∷ []))
  pub any_bytes : Lists (taken 64) (lent 1344) 64 (replicate 1344 8)
  pub payload_1500 : Lists longest (lent 1520) 1 (full_packet 7 5)
  -- no next number is given, so the last one may stand there
  pub last_number : Lists (last_is (2 ^ 64 - 1)) (lent 42) 2 (replicate 42 8)

-- ---- dropping up to a number that the window's `consume` answered: the store left
abbrev pub Drops : Store → ℕ → Store → Type 0
Drops k last left = ◌≡◌ {A = Said Unit × Store} (answering k last) (answers tt, left)

-- the three packets without the first, without the first two, and without any
abbrev pub last_two : Store
last_two = counts 2 (102 ∷ 105 ∷ 105 ∷ []) (2 ∷ 3 ∷ 3 ∷ []) (replicate 22 2 ++ replicate 23 3 ++ replicate 21 3)

abbrev pub last_one : Store
last_one = counts 1 (105 ∷ 102 ∷ 105 ∷ []) (3 ∷ 2 ∷ 3 ∷ []) (replicate 23 3 ++ replicate 20 2 ++ replicate 23 3)

abbrev pub none_left : Store
none_left = counts 0 (100 ∷ 102 ∷ 105 ∷ []) (1 ∷ 2 ∷ 3 ∷ []) (replicate 21 1 ++ replicate 22 2 ++ replicate 23 3)

pub record DropRows : Type 0 where
  -- "Keep each packed packet until the window's `consume` answers it or a later number": those left move to the first cells and bytes, and what stands behind them stays
  pub below : Drops three 99 three
  pub first : Drops three 100 last_two
  pub after_first : Drops three 101 last_two
  pub second : Drops three 102 last_one
  pub before_last : Drops three 104 last_one
  pub last : Drops three 105 none_left
  pub past : Drops three 106 none_left
  pub last_number : Drops three (2 ^ 64 - 1) none_left
  pub nothing : Drops nothing_kept 7 nothing_kept
  pub one_of_64 : Drops (taken 64) 100 (counts 63 (counting 101 63 ++ (163 ∷ [])) (replicate 64 1) (replicate 1344 8))
  pub all_64 : Drops (taken 64) 163 (counts 0 (counting 100 64) (replicate 64 1) (replicate 1344 8))
  pub payload_1500 : Drops longest 7 (counts 0 (7 ∷ []) (1500 ∷ []) (full_packet 7 5))
  -- what is not counted is not dropped
  pub not_counted : Drops one 6 one
  -- no next number is given, so the last one may stand there
  pub holds_last_number : Drops (last_is (2 ^ 64 - 1)) 99 (last_is (2 ^ 64 - 1))

-- ---- `new`, and refusal 12

-- a store by its count, numbers and payload lengths; its bytes are not looked at
abbrev pub bare : ℕ × List ℕ × List ℕ → Store
bare m = counts m.0 m.1 m.2 []

-- "More than 64": 65, in as many cells. "numbers not rising": two equal, falling, falling behind a rise, and the last two of 64. "or a payload above 1,500": the first, the last,
-- and the last of 64.
abbrev pub malformed_cells : List (ℕ × List ℕ × List ℕ)
malformed_cells =
    (65, counting 100 65, replicate 65 1)
    ∷ (2, 100 ∷ 100 ∷ [], 1 ∷ 1 ∷ [])
    ∷ (2, 101 ∷ 100 ∷ [], 1 ∷ 1 ∷ [])
    ∷ (3, 100 ∷ 102 ∷ 101 ∷ [], 1 ∷ 1 ∷ 1 ∷ [])
    ∷ (64, counting 100 63 ++ (162 ∷ []), replicate 64 1)
    ∷ (2, 100 ∷ 101 ∷ [], 1501 ∷ 1 ∷ [])
    ∷ (2, 100 ∷ 101 ∷ [], 1 ∷ 1501 ∷ [])
    ∷ (64, counting 100 64, replicate 63 1 ++ (1501 ∷ []))
    ∷ []

-- these, and lent memory without room for 64 packets: a number's cell, a length's cell or a byte short
abbrev pub malformed : List Store
malformed =
    store_of fresh (lent 63) (lent 64) (lent 97280)
    ∷ store_of fresh (lent 64) (lent 63) (lent 97280)
    ∷ store_of fresh (lent 64) (lent 64) (lent 97279)
    ∷ map bare malformed_cells

pub record StoreRows : Type 0 where
  -- "Fresh has an empty store"
  pub new : fresh ≡ record { count = 0 }
  -- "12 comes first everywhere": before 15 in packing with 64 kept, and before 10 in listing
  pub packing_12 : map (λ k. consumes_data k one_byte 200 1 2 (lent 21)) malformed ≡ map (λ k. record { said = refuses 12; out = lent 21; store = k }) malformed
  pub listing_12 : map (λ k. listing k []) malformed ≡ replicate 11 (refuses 12, [])
  pub dropping_12 : map (λ k. answering k 200) malformed ≡ map (λ k. (refuses 12, k)) malformed
  -- ".. or not below a next number given": all above it, the last above it, the last equal to it; one below is well formed
  pub next_99 : Unsent (last_is 101) one_byte 99 (lent 21) 12
  pub next_200_last_201 : Unsent (last_is 201) one_byte 200 (lent 21) 12
  pub next_200_last_200 : Unsent (last_is 200) one_byte 200 (lent 21) 12
  pub next_200_last_199 : Sends (last_is 199) one_byte 200 (lent 21) (answer 1 1 201 1 0) one_packet
      (kept (100 ∷ 199 ∷ 200 ∷ []) (1 ∷ 1 ∷ 1 ∷ []) (replicate 42 8 ++ one_packet))
  -- a payload of 1,500 is well formed, and so is more lent memory than enough, which stays
  pub payload_1500 : Sends longest one_byte 200 (lent 21) (answer 1 1 201 1 0) one_packet (kept (7 ∷ 200 ∷ []) (1500 ∷ 1 ∷ []) (full_packet 7 5 ++ one_packet))
  pub more_is_lent : Sends roomier one_byte 200 (lent 21) (answer 1 1 201 1 0) one_packet
      (store_of (record { count = 1 }) (200 ∷ lent 64) (1 ∷ lent 65) (one_packet ++ lent 17260 ++ lent 80000))
