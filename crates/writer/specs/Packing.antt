-- Packing queued data into a datagram: document 01, "From the queue to a datagram", its first paragraph, with its 15,000 as a limit that is given.
-- Reference: `consume_data_into`. The call itself, which keeps what it packs, is Sending.antt.
use Rattle.std.specs.Prelude.{ℕ, zero, suc, ◌+◌, ◌-◌, ◌*◌, ◌/◌, min, Bool, not, cond, List, [], ◌∷◌, length, take, drop, ltb, leb, eqb, Result}
use Rattle.std.proofs.Math.Seq.{paste}
use Rattle.refusal.specs.declared.Refusal.{Refusal}
use Rattle.refusal.specs.Said.{Said, says, answers, refuses, checks}
use Rattle.lists.specs.Numbers.{largest}
use Rattle.header.specs.Header.{plain_header}
use Rattle.header.specs.declared.PacketType.TheVariants.{UnencryptedData}
use Rattle.packet.specs.Packet.{Packet, joined}
unfoldable pub use Rattle.packet.specs.Sizes.{payload_size}
use Rattle.writer.specs.declared.DataPacked.{DataPacked}
use Rattle.writer.specs.declared.Queue as lent

-- "A queue is entries of bytes, possibly empty: the bytes end to end and a list of lengths"
pub record Queue : Type 0 where
  pub bytes : List ℕ
  pub lengths : List ℕ

abbrev pub queued : List ℕ → List ℕ → Queue
queued bytes lengths = record { bytes = bytes; lengths = lengths }

-- the queue that is lent
abbrev pub queue_in : lent.Queue → Queue
queue_in q = queued q.bytes.now q.lengths.now

-- "the smaller of T and 15,000 bytes are taken", "If T is below 15,000, all entries go": the limit in both places
unfoldable pub byte_limit : ℕ
byte_limit = 15000

-- ---- the packets made

-- q, where T bytes are queued
abbrev pub bytes_taken : ℕ → ℕ → ℕ
bytes_taken limit total = min total limit

-- p: as many payloads as q bytes fill, "but the last holds what remains of q; none is empty"
abbrev pub packets_for : ℕ → ℕ
packets_for q = (q + (payload_size - 1)) / payload_size

-- what q bytes come to with a header of 20 before each payload
abbrev pub packed_size : ℕ → ℕ
packed_size q = q + 20 * packets_for q

-- k payloads of a size, the last with what remains
unfoldable pub cut : ℕ → ℕ → List ℕ → List (List ℕ)
cut size zero s = []
cut size (suc k) s = take size s ∷ cut size k (drop size s)

abbrev pub payloads_of : ℕ → List ℕ → List (List ℕ)
payloads_of limit bytes = cut payload_size (packets_for (bytes_taken limit (length bytes))) (take (bytes_taken limit (length bytes)) bytes)

-- "type 3, version 0, security byte 0, ids as given, field = payload length"
abbrev pub data_packet : ℕ → ℕ → ℕ → List ℕ → Packet
data_packet src dst n payload = record {
  header = plain_header src dst UnencryptedData (length payload) n;
  payload = payload;
}

-- "Packets take the next packet number, then one more each"
unfoldable pub numbered : ℕ → ℕ → ℕ → List (List ℕ) → List Packet
numbered src dst n [] = []
numbered src dst n (payload ∷ ps) = data_packet src dst n payload ∷ numbered src dst (suc n) ps

-- all of s as packets, end to end
abbrev pub all_packed : ℕ → ℕ → ℕ → List ℕ → List ℕ
all_packed src dst n s = joined (numbered src dst n (cut payload_size (packets_for (length s)) s))

abbrev pub packets_made : ℕ → ℕ → ℕ → ℕ → List ℕ → List Packet
packets_made limit src dst next bytes = numbered src dst next (payloads_of limit bytes)

-- ---- what leaves the queue

-- "Otherwise the entry with the last byte taken goes if used up, and all later ones stay": the entries that go with q bytes, and the bytes cut from the next
unfoldable pub removal : ℕ → List ℕ → ℕ × ℕ
removal q [] = (0, 0)
removal zero (l ∷ ls) = (0, 0)
removal (suc q) (l ∷ ls) = cond (leb l (suc q)) (suc (removal (suc q - l) ls).0, (removal (suc q - l) ls).1) (0, suc q)

-- "If T is below 15,000, all entries go, empty ones too."
abbrev pub removed : ℕ → Queue → ℕ × ℕ
removed limit queue = cond (ltb (length queue.bytes) limit) (length queue.lengths, 0) (removal (bytes_taken limit (length queue.bytes)) queue.lengths)

-- bytes cut from the first entry
unfoldable pub shortened : ℕ → List ℕ → List ℕ
shortened n [] = []
shortened n (l ∷ ls) = (l - n) ∷ ls

-- "each packing removes exactly what it answers": the queue that it leaves
abbrev pub dequeued : DataPacked → Queue → Queue
dequeued p q = record { bytes = drop p.bytes q.bytes; lengths = shortened p.bytes_cut (drop p.entries_removed q.lengths) }

unfoldable pub sum : List ℕ → ℕ
sum [] = 0
sum (l ∷ ls) = l + sum ls

-- ---- the packing

-- what a packing that is not refused answers: "q, the packets p, the next number, the entries removed, and the bytes cut from the first entry left"
abbrev pub taking : ℕ → Queue → ℕ → DataPacked
taking limit queue next =
    let q = bytes_taken limit (length queue.bytes) in
    record {
      bytes = q;
      packets = packets_for q;
      next_packet_num = next + packets_for q;
      entries_removed = (removed limit queue).0;
      bytes_cut = (removed limit queue).1;
    }

-- "Checks in order: 12, 9 (next number + p above 2^64 − 1), 10", for so many bytes of output. 12 is "lengths not adding up to the bytes"; 10 is an output too short
-- for the packets.
abbrev pub data_checks : ℕ → Queue → ℕ → ℕ → List (Bool × ℕ)
data_checks limit queue next room =
    (not (eqb (sum queue.lengths) (length queue.bytes)), 12)
    ∷ (ltb largest (taking limit queue next).next_packet_num, 9)
    ∷ (ltb room (packed_size (taking limit queue next).bytes), 10)
    ∷ []

-- what is said, and the output that is left
abbrev pub Outcome : Type 0
Outcome = Said DataPacked × List ℕ

abbrev pub leaves : Result DataPacked Refusal → List ℕ → Outcome
leaves r out = (says (λ d. d) r, out)

-- Written "from the start of the lent output, whose other bytes stay".
unfoldable pub packing : ℕ → Queue → ℕ → ℕ → ℕ → List ℕ → Outcome
packing limit queue next src dst out =
    checks (data_checks limit queue next (length out)) (λ n. (refuses n, out))
    (answers (taking limit queue next), paste out 0 (joined (packets_made limit src dst next queue.bytes)) (packed_size (taking limit queue next).bytes))
