-- Boundaries of the ring of queued acks: document 01, "The ring".
use Rattle.std.specs.Prelude.{ℕ, ◌≡◌, true, false, List, [], ◌∷◌, map, length, replicate}
use Rattle.std.proofs.Math.Option.{none, some}
use Rattle.refusal.specs.Said.{Said, answers, refuses}
use Rattle.ring_buffer.specs.declared.AckData.{AckData}
use Rattle.ring_buffer.specs.declared.RingBuffer.{RingBuffer}
use Rattle.ring_buffer.specs.Ring.{Outcome, leaves, fresh, len_of, is_empty, is_full, push_back, push_front, pop_front, front, clear}

-- a record by base and count; some to queue, one that an unused cell holds, and what "a popped cell becomes"
abbrev pub ack : ℕ → ℕ → AckData
ack base count = record { base_packet_num = base; num_packets_consumed = count }

abbrev pub first : AckData
first = ack 10 1

abbrev pub second : AckData
second = ack 20 2

abbrev pub third : AckData
third = ack 30 3

abbrev pub fourth : AckData
fourth = ack 40 4

abbrev pub unused : AckData
unused = ack 70 7

abbrev pub zeros : AckData
zeros = ack 0 0

-- a ring by head, tail and count
abbrev pub ring : ℕ → ℕ → ℕ → RingBuffer
ring head tail len = record { head = head; tail = tail; len = len }

-- what a call says, and the ring and the cells that it leaves
abbrev pub Leaves : {A : Type 0} → Outcome A → Said A → RingBuffer → List AckData → Type 0
Leaves call said g cells = call ≡ leaves said g cells

-- "ring positions that disagree with its count": a head or a tail at the capacity, a tail elsewhere, more records than cells, and each of these without a cell
abbrev pub malformed : List (RingBuffer × List AckData)
malformed =
    (ring 3 0 0, first ∷ second ∷ third ∷ [])
    ∷ (ring 2 3 1, first ∷ second ∷ third ∷ [])
    ∷ (ring 0 2 1, first ∷ second ∷ third ∷ [])
    ∷ (ring 0 0 1, first ∷ second ∷ third ∷ [])
    ∷ (ring 0 1 0, first ∷ second ∷ third ∷ [])
    ∷ (ring 0 1 4, first ∷ second ∷ third ∷ [])
    ∷ (ring 1 0 0, [])
    ∷ (ring 0 1 0, [])
    ∷ (ring 0 0 1, [])
    ∷ []

-- all of these are refused with 12, and left as they were
abbrev pub Refuses12 : {A : Type 0} → (RingBuffer → List AckData → Outcome A) → Type 0
Refuses12 {A} call =
    map (λ (m : RingBuffer × List AckData). call m.0 m.1) malformed
    ≡ map (λ (m : RingBuffer × List AckData). leaves {A = A} (refuses 12) m.0 m.1) malformed

pub record RingRows : Type 0 where
  pub new : fresh ≡ ring 0 0 0
  -- "capacity 0 or more": without a cell the ring is empty and full at once. "A push on a full ring gives the record back"; "A pop of an empty ring is refusal 8."
  pub capacity_0_len : len_of (ring 0 0 0) 0 ≡ answers 0
  pub capacity_0_empty : is_empty (ring 0 0 0) 0 ≡ answers true
  pub capacity_0_full : is_full (ring 0 0 0) 0 ≡ answers true
  pub capacity_0_push_back : Leaves (push_back (ring 0 0 0) [] first) (answers (some first)) (ring 0 0 0) []
  pub capacity_0_push_front : Leaves (push_front (ring 0 0 0) [] first) (answers (some first)) (ring 0 0 0) []
  pub capacity_0_pop : Leaves (pop_front (ring 0 0 0) []) (refuses 8) (ring 0 0 0) []
  pub capacity_0_front : front (ring 0 0 0) [] ≡ refuses 8
  pub capacity_0_clear : Leaves (clear (ring 0 0 0) []) (answers tt) (ring 0 0 0) []
  -- one cell: "a popped cell becomes base 0, count 0"
  pub capacity_1_push_back : Leaves (push_back (ring 0 0 0) (unused ∷ []) first) (answers none) (ring 0 0 1) (first ∷ [])
  pub capacity_1_push_front : Leaves (push_front (ring 0 0 0) (unused ∷ []) first) (answers none) (ring 0 0 1) (first ∷ [])
  pub capacity_1_len : len_of (ring 0 0 1) 1 ≡ answers 1
  pub capacity_1_empty : is_empty (ring 0 0 1) 1 ≡ answers false
  pub capacity_1_full : is_full (ring 0 0 1) 1 ≡ answers true
  pub capacity_1_gives_back : Leaves (push_back (ring 0 0 1) (first ∷ []) second) (answers (some second)) (ring 0 0 1) (first ∷ [])
  pub capacity_1_front_gives_back : Leaves (push_front (ring 0 0 1) (first ∷ []) second) (answers (some second)) (ring 0 0 1) (first ∷ [])
  pub capacity_1_pop : Leaves (pop_front (ring 0 0 1) (first ∷ [])) (answers first) (ring 0 0 0) (zeros ∷ [])
  pub capacity_1_pop_empty : Leaves (pop_front (ring 0 0 0) (unused ∷ [])) (refuses 8) (ring 0 0 0) (unused ∷ [])
  -- empty and full, wherever the head stands
  pub empty_len : len_of (ring 1 1 0) 3 ≡ answers 0
  pub empty_empty : is_empty (ring 1 1 0) 3 ≡ answers true
  pub empty_full : is_full (ring 1 1 0) 3 ≡ answers false
  pub empty_pop : Leaves (pop_front (ring 1 1 0) (unused ∷ unused ∷ unused ∷ [])) (refuses 8) (ring 1 1 0) (unused ∷ unused ∷ unused ∷ [])
  pub empty_front : front (ring 1 1 0) (unused ∷ unused ∷ unused ∷ []) ≡ refuses 8
  pub full_len : len_of (ring 1 1 3) 3 ≡ answers 3
  pub full_empty : is_empty (ring 1 1 3) 3 ≡ answers false
  pub full_full : is_full (ring 1 1 3) 3 ≡ answers true
  pub full_push_back : Leaves (push_back (ring 1 1 3) (third ∷ first ∷ second ∷ []) fourth) (answers (some fourth)) (ring 1 1 3) (third ∷ first ∷ second ∷ [])
  pub full_push_front : Leaves (push_front (ring 1 1 3) (third ∷ first ∷ second ∷ []) fourth) (answers (some fourth)) (ring 1 1 3) (third ∷ first ∷ second ∷ [])
  pub full_front : front (ring 1 1 3) (third ∷ first ∷ second ∷ []) ≡ answers first
  -- "push at either end, pop at the front", at the end of the cells and round it
  pub push_back_last_cell : Leaves (push_back (ring 1 2 1) (unused ∷ first ∷ unused ∷ []) second) (answers none) (ring 1 0 2) (unused ∷ first ∷ second ∷ [])
  pub push_back_round : Leaves (push_back (ring 1 0 2) (unused ∷ first ∷ second ∷ []) third) (answers none) (ring 1 1 3) (third ∷ first ∷ second ∷ [])
  pub push_front_round : Leaves (push_front (ring 0 1 1) (first ∷ unused ∷ unused ∷ []) second) (answers none) (ring 2 1 2) (first ∷ unused ∷ second ∷ [])
  pub push_front_first_cell : Leaves (push_front (ring 1 2 1) (unused ∷ first ∷ unused ∷ []) second) (answers none) (ring 0 2 2) (second ∷ first ∷ unused ∷ [])
  pub pop_last_cell : Leaves (pop_front (ring 2 1 2) (second ∷ unused ∷ first ∷ [])) (answers first) (ring 0 1 1) (second ∷ unused ∷ zeros ∷ [])
  pub pop_first_cell : Leaves (pop_front (ring 0 1 1) (second ∷ unused ∷ zeros ∷ [])) (answers second) (ring 1 1 0) (zeros ∷ unused ∷ zeros ∷ [])
  pub front_last_cell : front (ring 2 1 2) (second ∷ unused ∷ first ∷ []) ≡ answers first
  -- `clear` pops all: cells outside the queue stay
  pub clear_round : Leaves (clear (ring 2 1 2) (second ∷ unused ∷ first ∷ [])) (answers tt) (ring 1 1 0) (zeros ∷ unused ∷ zeros ∷ [])
  pub clear_full : Leaves (clear (ring 1 1 3) (third ∷ first ∷ second ∷ [])) (answers tt) (ring 1 1 0) (zeros ∷ zeros ∷ zeros ∷ [])
  pub clear_empty : Leaves (clear (ring 1 1 0) (unused ∷ unused ∷ unused ∷ [])) (answers tt) (ring 1 1 0) (unused ∷ unused ∷ unused ∷ [])
  -- "12 comes first everywhere": before 8, and before a record is given back
  pub push_back_12 : Refuses12 (λ g cells. push_back g cells fourth)
  pub push_front_12 : Refuses12 (λ g cells. push_front g cells fourth)
  pub pop_12 : Refuses12 pop_front
  pub clear_12 : Refuses12 clear
  pub front_12 : map (λ (m : RingBuffer × List AckData). front m.0 m.1) malformed ≡ replicate 9 (refuses 12)
  pub len_12 : map (λ (m : RingBuffer × List AckData). len_of m.0 (length m.1)) malformed ≡ replicate 9 (refuses 12)
  pub is_empty_12 : map (λ (m : RingBuffer × List AckData). is_empty m.0 (length m.1)) malformed ≡ replicate 9 (refuses 12)
  pub is_full_12 : map (λ (m : RingBuffer × List AckData). is_full m.0 (length m.1)) malformed ≡ replicate 9 (refuses 12)
