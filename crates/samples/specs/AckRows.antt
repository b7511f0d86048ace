-- Boundaries of packing queued acks: document 01, "From the queue to a datagram", its second paragraph.
use Rattle.std.specs.Prelude.{ℕ, ◌-◌, ◌^◌, ◌≡◌, Bool, true, false, replicate}
use mathlib.Core.List.{List, [], ◌∷◌, ◌++◌, map, flatten}
use Rattle.refusal.specs.Said.{Said, answers, refuses}
use Rattle.ring_buffer.specs.declared.AckData.{AckData}
use Rattle.ring_buffer.specs.declared.RingBuffer.{RingBuffer}
use Rattle.writer.specs.declared.acks.AcksPacked.{AcksPacked}
use Rattle.writer.specs.Acks.{consumes_acks}
use Rattle.samples.specs.Inputs.{lent, head_of, head}
use Rattle.samples.specs.RingRows.{ack, ring, unused, zeros, malformed}

-- the answer: k, and whether there is something to send
abbrev pub packed : ℕ → Bool → Said AcksPacked
packed k send = answers (record { acks = k; to_send = send })

-- acks packed from source 1 to destination 2, with so many bytes in the output already: what is said, and the ring, the cells and the output left
abbrev pub Packs : RingBuffer → List AckData → ℕ → List ℕ → Said AcksPacked → RingBuffer → List AckData → List ℕ → Type 0
Packs g cells used out said g_left cells_left out_left =
    consumes_acks g cells used 1 2 out ≡ record { said = said; ring = g_left; cells = cells_left; out = out_left }

-- .. and all is left as it was
abbrev pub Stays : RingBuffer → List AckData → ℕ → List ℕ → Said AcksPacked → Type 0
Stays g cells used out said = Packs g cells used out said g cells out

-- acks to queue, with counts at and above the largest, and the bytes that some of them give
abbrev pub nine : AckData
nine = ack 9 3

abbrev pub eight : AckData
eight = ack 8 2

abbrev pub largest : AckData
largest = ack 9 65535

abbrev pub too_large : AckData
too_large = ack 9 65536

abbrev pub nine_bytes : List ℕ
nine_bytes = head 4 3 9

abbrev pub eight_bytes : List ℕ
eight_bytes = head 4 2 8

pub record AckRows : Type 0 where
  -- "Each is popped and gives, from `used` on, a type 4 header with number = base, field = count; other bytes stay."
  pub one_ack : Packs (ring 0 0 1) (nine ∷ []) 0 (lent 20) (packed 1 true) (ring 0 0 0) (zeros ∷ []) nine_bytes
  pub from_used_on : Packs (ring 0 0 1) (nine ∷ []) 2 (lent 23) (packed 1 true) (ring 0 0 0) (zeros ∷ []) (99 ∷ 99 ∷ nine_bytes ++ (99 ∷ []))
  pub last_number : Packs (ring 0 0 1) (ack (2 ^ 64 - 1) 3 ∷ []) 0 (lent 20) (packed 1 true) (ring 0 0 0) (zeros ∷ [])
      ((4 ∷ 0 ∷ 3 ∷ 0 ∷ 0 ∷ 0 ∷ 0 ∷ 1 ∷ 0 ∷ 0 ∷ 0 ∷ 2 ∷ []) ++ replicate 8 255)
  pub round_the_end_row : Packs (ring 2 1 2) (eight ∷ unused ∷ nine ∷ []) 0 (lent 40) (packed 2 true) (ring 1 1 0) (zeros ∷ unused ∷ zeros ∷ []) (nine_bytes ++ eight_bytes)
  -- "k = the smaller of the queued records and (15,200 − used) / 20 rounded down (0 if used is above 15,200)"
  pub used_15160 : Packs (ring 0 0 3) (nine ∷ eight ∷ nine ∷ []) 15160 (lent 15200)
      (packed 2 true) (ring 2 0 1) (zeros ∷ zeros ∷ nine ∷ []) (lent 15160 ++ nine_bytes ++ eight_bytes)
  pub used_15161 : Packs (ring 0 0 3) (nine ∷ eight ∷ nine ∷ []) 15161 (lent 15200)
      (packed 1 true) (ring 1 0 2) (zeros ∷ eight ∷ nine ∷ []) (lent 15161 ++ nine_bytes ++ lent 19)
  pub used_15200 : Stays (ring 0 0 1) (nine ∷ []) 15200 (lent 15200) (packed 0 true)
  pub used_15201 : Stays (ring 0 0 1) (nine ∷ []) 15201 (lent 15201) (packed 0 true)
  pub used_20000 : Stays (ring 0 0 1) (nine ∷ []) 20000 (lent 20000) (packed 0 true)
  pub queued_761 : Packs (ring 0 0 761) (replicate 761 nine) 0 (lent 15200) (packed 760 true) (ring 760 0 1) (replicate 760 zeros ++ (nine ∷ [])) (flatten (replicate 760 nine_bytes))
  -- "a yes exactly if the queue was not empty and used + 20k is above 0"
  pub empty_used_0 : Stays (ring 0 0 0) (unused ∷ []) 0 [] (packed 0 false)
  pub empty_used_20 : Stays (ring 0 0 0) (unused ∷ []) 20 (lent 20) (packed 0 false)
  pub empty_used_15201 : Stays (ring 0 0 0) (unused ∷ []) 15201 (lent 15201) (packed 0 false)
  pub no_cell : Stays (ring 0 0 0) [] 20 (lent 40) (packed 0 false)
  -- "Checks: 12, 11 (a count above 65,535 among the k; ..), 10": 12 is the ring's, or "`used` above the output's length"
  pub used_at_length : Stays (ring 0 0 0) (unused ∷ []) 5 (lent 5) (packed 0 false)
  pub used_above_length : Stays (ring 0 0 0) (unused ∷ []) 6 (lent 5) (refuses 12)
  pub used_above_length_and_limit : Stays (ring 0 0 1) (nine ∷ []) 15201 (lent 15200) (refuses 12)
  pub used_before_count : Stays (ring 0 0 1) (too_large ∷ []) 1 [] (refuses 12)
  pub ring_before_count : Stays (ring 0 1 1) (too_large ∷ []) 0 (lent 20) (refuses 12)
  pub ring_before_room : Stays (ring 0 1 1) (nine ∷ []) 0 [] (refuses 12)
  pub each_ring : map (λ (m : RingBuffer × List AckData). consumes_acks m.0 m.1 0 1 2 (lent 100)) malformed
      ≡ map (λ (m : RingBuffer × List AckData). record { said = refuses 12; ring = m.0; cells = m.1; out = lent 100 }) malformed
  pub count_65535 : Packs (ring 0 0 1) (largest ∷ []) 0 (lent 20) (packed 1 true) (ring 0 0 0) (zeros ∷ []) (head_of 4 255 255 9)
  pub count_65536 : Stays (ring 0 0 1) (too_large ∷ []) 0 (lent 20) (refuses 11)
  pub second_count_65536 : Stays (ring 0 0 2) (nine ∷ too_large ∷ []) 15160 (lent 15200) (refuses 11)
  pub count_before_room : Stays (ring 0 0 1) (too_large ∷ []) 0 (lent 19) (refuses 11)
  -- .. and not among those that stay, nor in a cell outside the queue
  pub count_not_packed : Packs (ring 0 0 2) (nine ∷ too_large ∷ []) 15180 (lent 15200)
      (packed 1 true) (ring 1 0 1) (zeros ∷ too_large ∷ []) (lent 15180 ++ nine_bytes)
  pub count_not_queued : Packs (ring 0 1 1) (nine ∷ too_large ∷ []) 0 (lent 20) (packed 1 true) (ring 1 1 0) (zeros ∷ too_large ∷ []) nine_bytes
  pub count_at_15200 : Stays (ring 0 0 1) (too_large ∷ []) 15200 (lent 15200) (packed 0 true)
  -- 10, an output that the k headers do not fit
  pub room_19 : Stays (ring 0 0 1) (nine ∷ []) 0 (lent 19) (refuses 10)
  pub room_after_used : Stays (ring 0 0 1) (nine ∷ []) 2 (lent 21) (refuses 10)
  pub room_for_one_of_two : Stays (ring 0 0 2) (nine ∷ eight ∷ []) 0 (lent 39) (refuses 10)
