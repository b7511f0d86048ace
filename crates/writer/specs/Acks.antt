-- Packing queued acks into a datagram: document 01, "From the queue to a datagram", its second paragraph. Reference: `consume_acks_into`.
use Rattle.std.specs.Prelude.{ℕ, ◌+◌, ◌-◌, ◌*◌, ◌/◌, min, Bool, false, not, ◌&&◌, ◌||◌, List, [], ◌∷◌, ◌++◌, length, take, ltb, eqb}
use Rattle.std.proofs.Math.Seq.{paste}
use Rattle.refusal.specs.Said.{Said, answers, refuses, checks}
use Rattle.header.specs.Header.{header_bytes, plain_header}
use Rattle.header.specs.declared.BluefinHeader.{BluefinHeader}
use Rattle.header.specs.declared.PacketType.TheVariants.{Ack}
unfoldable pub use Rattle.packet.specs.Sizes.{datagram_limit}
use Rattle.ring_buffer.specs.Ring.{well_formed, contents, popped, blanked}
use Rattle.ring_buffer.specs.declared.AckData.{AckData}
use Rattle.ring_buffer.specs.declared.RingBuffer.{RingBuffer}
use Rattle.ring_buffer.specs.declared.RingViewMut.{RingViewMut}
use Rattle.writer.specs.declared.acks.AcksPacked.{AcksPacked}

-- k: "the smaller of the queued records and (15,200 − used) / 20 rounded down (0 if used is above 15,200)"
abbrev pub ack_count : RingBuffer → ℕ → ℕ
ack_count g used = min g.len ((datagram_limit - used) / 20)

-- "Each is popped": the k first of the queue's records
abbrev pub acks_taken : RingBuffer → List AckData → ℕ → List AckData
acks_taken g ys used = take (ack_count g used) (contents g ys)

-- "a type 4 header with number = base, field = count"
abbrev pub ack_header : ℕ → ℕ → AckData → BluefinHeader
ack_header src dst a =
    plain_header src dst Ack a.num_packets_consumed a.base_packet_num

-- the headers of acks end to end
unfoldable pub ack_bytes : ℕ → ℕ → List AckData → List ℕ
ack_bytes src dst [] = []
ack_bytes src dst (a ∷ l) = header_bytes (ack_header src dst a) ++ ack_bytes src dst l

-- "11 (a count above 65,535 among the k; the Rust cuts it off)"
abbrev pub too_large : AckData → Bool
too_large a = ltb 65535 a.num_packets_consumed

unfoldable pub any_too_large : List AckData → Bool
any_too_large [] = false
any_too_large (a ∷ l) = too_large a || any_too_large l

-- "Checks: 12, 11, 10", for so many cells and bytes of output, where `over` is the test of 11. 12 is the ring's, or "`used` above the output's length";
-- 10 is an output too short for the k headers.
abbrev pub ack_checks : RingBuffer → ℕ → ℕ → ℕ → Bool → List (Bool × ℕ)
ack_checks g capacity used room over =
    (not (well_formed g capacity) || ltb room used, 12)
    ∷ (over, 11)
    ∷ (ltb room (used + 20 * ack_count g used), 10)
    ∷ []

-- "The answer is k and a yes exactly if the queue was not empty and used + 20k is above 0."
abbrev pub packed : RingBuffer → ℕ → AcksPacked
packed g used = record { acks = ack_count g used; to_send = not (eqb g.len 0) && ltb 0 (used + 20 * ack_count g used) }

-- what the call says, and the ring, the cells and the output that it leaves
pub record Outcome : Type 0 where
  pub said : Said AcksPacked
  pub ring : RingBuffer
  pub cells : List AckData
  pub out : List ℕ

abbrev pub leaves : Said AcksPacked → RingBuffer → List AckData → List ℕ → Outcome
leaves s g ys out = record { said = s; ring = g; cells = ys; out = out }

-- what a call says, with the ring and the cells as they are in the view
abbrev pub leaving : Said AcksPacked → RingViewMut → List ℕ → Outcome
leaving s v out = leaves s v.state v.records.now out

-- "from `used` on ..; other bytes stay"
unfoldable pub consumes_acks : RingBuffer → List AckData → ℕ → ℕ → ℕ → List ℕ → Outcome
consumes_acks g ys used src dst out =
    let k = ack_count g used in
    let acks = acks_taken g ys used in
    checks (ack_checks g (length ys) used (length out) (any_too_large acks)) (λ n. leaves (refuses n) g ys out)
    (leaves (answers (packed g used)) (popped g (length ys) k) (blanked g.head k ys) (paste out used (ack_bytes src dst acks) (20 * k)))
