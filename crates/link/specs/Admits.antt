-- What the premises of demand 3 let through: each premise asks what document 01 asks ("Premises of demand 3") and no more.
-- A premise that asked more would make the theorem say less and leave its proof as it is; here it is refused. Proved in proofs/Admits.antt.
use Rattle.std.specs.Prelude.{ℕ, ◌+◌, ◌≤◌, ◌<◌, ◌≡◌, false, length}
use mathlib.Core.List.{List, [], ◌∷◌, ◌++◌, flatten}
use Rattle.refusal.specs.Said.{answers}
use Rattle.packet.specs.Packet.{Packet}
use Rattle.ordered_bytes.specs.Calls.{creating}
use Rattle.ordered_bytes.specs.declared.OrderedBytes.{OrderedBytes}
use Rattle.link.specs.Demand3.{Link, Ack, Memory, Parser, Call, enqueue, pack, reserve, list_outstanding, arrive, read, read_pieces, peek, insert, insert_run, consume_window, sample, wait_time}
use Rattle.link.specs.Demand3.{on_sender, on_receiver, on_window, on_trips, fresh, run, call_sender, indexed_on, In, All, MadeEarlier, Fair, Fairly, Premises, refusals}
use Rattle.link.specs.Demand3.{Accepted, Covered, ToEmpty}

pub record Admits : Type 0 where
  -- the calls without a premise, with any arguments on any link:
  -- "Queueing is the caller's own step and adds the entries given"
  pub enqueues : (l : Link) (entries : List (List ℕ)) → Fair l (on_sender (enqueue entries))
  -- "Reads (`consume`, `consume_bytes`, `peek`) have any length"
  pub reads : (l : Link) (len : ℕ) (out : List ℕ) → Fair l (on_receiver (read len out))
  pub reads_pieces : (l : Link) (limit : ℕ) (out list : List ℕ) → Fair l (on_receiver (read_pieces limit out list))
  pub peeks : (l : Link) → Fair l (on_receiver peek)
  -- the window may be consumed, and a FIN's number reserved, at any time
  pub consumes : (l : Link) → Fair l (on_window consume_window)
  pub reserves : (l : Link) → Fair l (on_sender reserve)
  -- so may the packets outstanding be listed (document 02, §3)
  pub lists : (l : Link) (out : List ℕ) → Fair l (on_sender (list_outstanding out))
  -- any trip sampled, and the wait asked, at any time
  pub samples : (l : Link) (r : ℕ) → Fair l (on_trips (sample r))
  pub waits : (l : Link) → Fair l (on_trips wait_time)
  -- "no data packed after a FIN's number was reserved": before it any packing, after it one that makes no packet
  pub packs : (l : Link) (src dst : ℕ) (out : List ℕ) → l.sender.closing ≡ false → Fair l (on_sender (pack src dst out))
  pub packs_none : (l : Link) (src dst : ℕ) (out : List ℕ) → (call_sender l.sender (pack src dst out)).left.made ≡ l.sender.made
      → Fair l (on_sender (pack src dst out))
  -- "on any bytes where each data packet indexed was made earlier in the list .., then accepting any of those, in any order"
  pub arrives : (l : Link) (parser : Parser) (datagram index : List ℕ) (packets : List Packet)
      → All (MadeEarlier l) (indexed_on l parser datagram index) → All (λ p. In p (indexed_on l parser datagram index)) packets
      → Fair l (on_receiver (arrive parser datagram index packets))
  -- "(same number, same payload)"
  pub made_earlier : (l : Link) (p made : Packet) → In made l.sender.made
      → p.header.packet_number ≡ made.header.packet_number → p.payload ≡ made.payload → MadeEarlier l p
  -- "Acks come from earlier reads that took packets: base and count for `insert_range`, or one number of that range for `insert`", and those of refusal 5
  pub inserts_range : (l : Link) (a : Ack) → In a l.receiver.acks → Fair l (on_window (insert_run a.base a.count))
  pub inserts : (l : Link) (a : Ack) (n : ℕ) → In a l.receiver.acks → a.base ≤ n → n < a.base + a.count → Fair l (on_window (insert n))
  -- "all from one number s", which is any number of 64 bits; "W at least 1,500"; any memory that `new` takes, with room for 64 packets of 1,520 bytes
  pub begins : (s w : ℕ) (o : OrderedBytes) (m : Memory) (calls : List Call)
      → s ≤ 18446744073709551615 → 1500 ≤ w → (creating w s m.marks m.lengths m.store).said ≡ answers o
      → 64 ≤ length m.numbers → 64 ≤ length m.payload_lengths → 97280 ≤ length m.packets
      → Fairly (fresh s w o m) calls → Premises s w o m calls
  -- what the claim speaks of, where it is met: "until 8 with length or limit at least 1", and bytes covered
  pub empties : (l : Link) (before : List Call) (len : ℕ) (out : List ℕ) → 1 ≤ len
      → In 8 (refusals (run l before) (on_receiver (read len out))) → ToEmpty l (before ++ (on_receiver (read len out) ∷ []))
  pub empties_pieces : (l : Link) (before : List Call) (limit : ℕ) (out list : List ℕ) → 1 ≤ limit
      → In 8 (refusals (run l before) (on_receiver (read_pieces limit out list))) → ToEmpty l (before ++ (on_receiver (read_pieces limit out list) ∷ []))
  pub covers : (s : ℕ) (l : Link) (payloads : List (List ℕ)) (bytes rest : List ℕ) → Accepted l s payloads → bytes ++ rest ≡ flatten payloads → Covered s l bytes
