-- The answers of packing and of reserving a FIN's number as a host has them: the store's state to go on with stands in packing's, refused or not.
use Rattle.std.specs.Prelude.{ℕ, List}
use Rattle.refusal.specs.Said.{Said, refusal_in}
use Rattle.outstanding.specs.declared.Outstanding.{Outstanding}
use Rattle.outstanding.specs.Outstanding.{Store}
use Rattle.writer.specs.declared.DataPacked as packed
use Rattle.writer.specs.Sending.{Sending}
use Rattle.flat.specs.declared.sending.DataPacked.{DataPacked}
use Rattle.flat.specs.declared.sending.Reserved.{Reserved}
use Rattle.flat.specs.Answers.{value_or}

abbrev pub data_packed_of : Outstanding → Said packed.DataPacked → DataPacked
data_packed_of o s = record {
  bytes = value_or 0 (λ d. d.bytes) s;
  packets = value_or 0 (λ d. d.packets) s;
  next_packet_num = value_or 0 (λ d. d.next_packet_num) s;
  entries_removed = value_or 0 (λ d. d.entries_removed) s;
  bytes_cut = value_or 0 (λ d. d.bytes_cut) s;
  outstanding = o;
  refusal = refusal_in s;
}

-- what is said of packing, beside the output and the store left
abbrev pub flat_sending : Sending → DataPacked × List ℕ × Store
flat_sending s = (data_packed_of s.store.state s.said, s.out, s.store)

abbrev pub reserved_of : Said (ℕ × ℕ) → Reserved
reserved_of s = record { number = value_or 0 (λ v. v.0) s; next_packet_num = value_or 0 (λ v. v.1) s; refusal = refusal_in s }
