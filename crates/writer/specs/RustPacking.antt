-- Packing queued data as the Rust does it, to be held against worker/writer.rs, `consume_data_into`, line by line. Document 01's rule (Packing.antt) says the same in
-- other words: proofs/RustPacking.antt shows that both make the same packets and leave the same queue, whatever was queued.
-- The tests before a subtraction keep it from falling below 0, and a payload's length fits the header's field. `*next_packet_num += 1` overflows where document 01
-- refuses with 9; there the two are not compared, and numbers go on here.
use Rattle.std.specs.Prelude.{ℕ, zero, suc, ◌+◌, ◌-◌, ◌*◌, min, ◌≡◌, Bool, true, false, not, cond, ◌&&◌, length, take, drop, ltb, leb}
use mathlib.Core.List.{List, [], ◌∷◌, ◌++◌, map, flatten}
use Rattle.std.proofs.Math.Option
use Rattle.std.proofs.Math.Option.{Option, none, some}
use Rattle.packet.specs.Packet.{Packet, joined}
use Rattle.packet.specs.Sizes.{datagram_limit}
use Rattle.writer.specs.declared.DataPacked.{DataPacked}
use Rattle.writer.specs.Packing.{Queue, payload_size, packets_made, data_packet, taking}

-- the locals, and what `next_packet_num` and `ans` refer to; `ans` as the packets that `serialize_packet_direct` appended
pub record State : Type 0 where
  pub running_payload : List ℕ
  pub bytes_remaining : ℕ
  pub payload_bytes_packed : ℕ
  pub next_packet_num : ℕ
  pub ans : List Packet

-- what the call returns, and what it leaves
pub record Consumed : Type 0 where
  pub payload_bytes_packed : ℕ
  pub next_packet_num : ℕ
  pub ans : List Packet
  pub queue : List (List ℕ)

abbrev pub is_empty : List ℕ → Bool
is_empty [] = true
is_empty (b ∷ s) = false

-- `if !running_payload.is_empty() { queue.push_front(running_payload); }`, and the return
abbrev pub returned : List (List ℕ) → State → Consumed
returned queue st = record {
  payload_bytes_packed = st.payload_bytes_packed;
  next_packet_num = st.next_packet_num;
  ans = st.ans;
  queue = cond (is_empty st.running_payload) queue (st.running_payload ∷ queue);
}

-- `running_payload = merged.freeze()`
abbrev pub merge : List ℕ → State → State
merge «data» st = record st { running_payload = st.running_payload ++ «data» }

-- `size` is the Rust's `MAX_BLUEFIN_PAYLOAD_SIZE_BYTES`
module _ (size src dst : ℕ) where
  -- from `let max_bytes_to_take` to `payload_bytes_packed +=`: these lines stand there four times, once with the inner `min` the other way round
  abbrev pub emit : State → State
  emit st =
      let n = min (length st.running_payload) (min size (st.bytes_remaining - 20)) in
      record {
        running_payload = drop n st.running_payload;
        bytes_remaining = st.bytes_remaining - (n + 20);
        payload_bytes_packed = st.payload_bytes_packed + n;
        next_packet_num = st.next_packet_num + 1;
        ans = st.ans ++ (data_packet src dst st.next_packet_num (take n st.running_payload) ∷ []);
      }

  -- `while !running_payload.is_empty() && bytes_remaining >= 20`. A loop is given steps and answers `none` should they run out; each turn of this one takes 20 or more
  -- from `bytes_remaining`.
  unfoldable pub drain : ℕ → State → Option State
  drain zero st = none
  drain (suc steps) st = cond (not (is_empty st.running_payload) && leb 20 st.bytes_remaining) (drain steps (emit st)) (some st)

  -- that loop and what follows it up to the return: these lines stand there twice, in the first branch and after the outer loop
  abbrev pub finish : List (List ℕ) → State → Option Consumed
  finish queue st = Option.map (returned queue) (drain (suc st.bytes_remaining) st)

  -- `while !queue.is_empty() && bytes_remaining > 20`. Each turn returns, or takes 20 or more from `bytes_remaining`, or pops `data` from the queue.
  unfoldable pub outer : ℕ → List (List ℕ) → State → Option Consumed
  outer zero queue st = none
  outer (suc steps) [] st = finish [] st
  outer (suc steps) («data» ∷ queue) st =
      cond (ltb 20 st.bytes_remaining)
      (cond (leb (st.bytes_remaining - 20) (length st.running_payload))
      (finish («data» ∷ queue) st)
      (cond (leb size (length st.running_payload))
      (outer steps («data» ∷ queue) (emit st))
      (cond (ltb size (length «data» + length st.running_payload))
      (outer steps queue (emit (merge «data» st)))
      (outer steps queue (merge «data» st)))))
      (finish («data» ∷ queue) st)

  -- the call, in a datagram of `room` bytes
  unfoldable pub consume : ℕ → ℕ → List (List ℕ) → Option Consumed
  consume room next [] = some (record { payload_bytes_packed = 0; next_packet_num = next; ans = []; queue = [] })
  consume room next (first ∷ queue) =
      outer (suc (room + length queue)) queue (
      record {
        running_payload = first;
        bytes_remaining = room;
        payload_bytes_packed = 0;
        next_packet_num = next;
        ans = [];
      }
      )

abbrev pub consume_data_into : ℕ → ℕ → ℕ → List (List ℕ) → Option Consumed
consume_data_into src dst next queue = consume payload_size src dst datagram_limit next queue

-- ---- document 01's answer for the same entries

abbrev pub queue_of : List (List ℕ) → Queue
queue_of entries = record { bytes = flatten entries; lengths = map length entries }

abbrev pub cut_first : ℕ → List (List ℕ) → List (List ℕ)
cut_first n [] = []
cut_first n (entry ∷ entries) = drop n entry ∷ entries

-- "the entries removed, and the bytes cut from the first entry left"
abbrev pub left_by : ℕ × ℕ → List (List ℕ) → List (List ℕ)
left_by gone entries = cut_first gone.1 (drop gone.0 entries)

-- what a packing answers and the packets that it makes, in the Rust's terms
abbrev pub consumed_as : DataPacked → List Packet → List (List ℕ) → Consumed
consumed_as d made entries = record {
  payload_bytes_packed = d.bytes;
  next_packet_num = d.next_packet_num;
  ans = made;
  queue = left_by (d.entries_removed, d.bytes_cut) entries;
}

abbrev pub answered : ℕ → ℕ → ℕ → ℕ → List (List ℕ) → Consumed
answered limit src dst next entries = consumed_as (taking limit (queue_of entries) next) (packets_made limit src dst next (flatten entries)) entries

-- ---- the call

-- the Rust answers as the call answered, and makes the packets with which the call's output begins
pub record AsRust (src dst next : ℕ) (entries : List (List ℕ)) (d : DataPacked) (out : List ℕ) : Type 0 where
  pub made : List Packet
  pub answer : consume_data_into src dst next entries ≡ some (consumed_as d made entries)
  pub datagram : take (d.bytes + 20 * d.packets) out ≡ joined made
