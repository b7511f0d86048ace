-- The receive buffer's answers as a host has them: the state to go on with stands in each that may change it, refused or not.
use Rattle.std.specs.Prelude.{ℕ, Bool, List}
use Rattle.std.proofs.Math.Option.{Option, none, some}
use Rattle.refusal.specs.Said.{Said, refusal_in}
use Rattle.ordered_bytes.specs.declared.OrderedBytes.{OrderedBytes}
use Rattle.ordered_bytes.specs.Buffer.{Buffer}
use Rattle.ordered_bytes.specs.Calls.{Creation, Acceptance, Consumption, PieceConsumption}
use Rattle.flat.specs.declared.buffer.Started.{Started}
use Rattle.flat.specs.declared.buffer.Accepted.{Accepted}
use Rattle.flat.specs.declared.buffer.Consumed.{Consumed}
use Rattle.flat.specs.declared.buffer.ConsumedBytes.{ConsumedBytes}
use Rattle.flat.specs.Answers.{value_or}

-- all 0: there is no buffer to go on with
abbrev pub no_buffer : OrderedBytes
no_buffer = record { slot_width = 0; front_slot = 0; front_number = 0; carry_len = 0 }

-- the buffer that starts, or `other` where it is refused
abbrev pub started_of : OrderedBytes → Said OrderedBytes → Started
started_of other s = record { state = value_or other (λ o. o) s; refusal = refusal_in s }

-- base and count of an ack (packets, base, bytes), or 0 where there is none
abbrev pub base_in : Option (ℕ × ℕ × ℕ) → ℕ
base_in none = 0
base_in (some v) = v.1

abbrev pub count_in : Option (ℕ × ℕ × ℕ) → ℕ
count_in none = 0
count_in (some v) = v.0

abbrev pub accepted_of : Said Unit → Option (ℕ × ℕ × ℕ) → Accepted
accepted_of s ack = record { ack_base = base_in ack; ack_count = count_in ack; refusal = refusal_in s }

-- a read's (packets, base, bytes)
abbrev pub consumed_of : OrderedBytes → Said (ℕ × ℕ × ℕ) → Consumed
consumed_of o s = record {
  state = o;
  num_packets_consumed = value_or 0 (λ v. v.0) s;
  base_packet_number = value_or 0 (λ v. v.1) s;
  bytes_consumed = value_or 0 (λ v. v.2) s;
  refusal = refusal_in s;
}

-- .. with the pieces
abbrev pub consumed_bytes_of : OrderedBytes → Said ((ℕ × ℕ × ℕ) × ℕ) → ConsumedBytes
consumed_bytes_of o s = record {
  state = o;
  num_packets_consumed = value_or 0 (λ v. v.0.0) s;
  base_packet_number = value_or 0 (λ v. v.0.1) s;
  bytes_consumed = value_or 0 (λ v. v.0.2) s;
  pieces = value_or 0 (λ v. v.1) s;
  refusal = refusal_in s;
}

-- Each answer beside what is left.

abbrev pub flat_creation : Creation → Started × List Bool × List ℕ
flat_creation c = (started_of no_buffer c.said, c.marks, c.lengths)

abbrev pub flat_acceptance : Acceptance → Accepted × Buffer
flat_acceptance a = (accepted_of a.said a.ack, a.buffer)

abbrev pub flat_consumption : Consumption → Consumed × Buffer × List ℕ
flat_consumption c = (consumed_of c.buffer.state c.said, c.buffer, c.out)

abbrev pub flat_pieces : PieceConsumption → ConsumedBytes × Buffer × List ℕ × List ℕ
flat_pieces c = (consumed_bytes_of c.buffer.state c.said, c.buffer, c.out, c.list)
