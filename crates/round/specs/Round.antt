-- The round of document 02, §3, that empties the store: "take a round where every listed packet is given to accepting once in listed order, the receiver reads
-- to empty, this round's acks all go to `insert_range` in order, the window is consumed and no other call is made; then the store is empty".
-- The theorem is `round` of proofs/Round.antt.
use Rattle.std.specs.Prelude.{ℕ, ◌≤◌, ◌≡◌, length, drop}
use mathlib.Core.List.{List, [], ◌∷◌, ◌++◌, map, flatten}
use Rattle.packet.specs.Packet.{Packet}
use Rattle.outstanding.specs.Outstanding.{count_of}
use Rattle.ordered_bytes.specs.declared.OrderedBytes.{OrderedBytes}
use Rattle.link.specs.Demand3.{Link, Memory, Ack, Parser, ReceiverCall, arrive, read, read_pieces, peek, insert_run, consume_window, Call, on_receiver, on_window}
use Rattle.link.specs.Demand3.{fresh, run, refusals, In, All, Reads, Premises, key, outstanding_on}

-- an arrival; more than one, since 64 packets may pass the reading limit
pub record Arrival : Type 0 where
  pub parser : Parser
  pub datagram : List ℕ
  pub index : List ℕ
  pub packets : List Packet

abbrev pub arrives : Arrival → ReceiverCall
arrives a = arrive a.parser a.datagram a.index a.packets

abbrev pub packets_of : Arrival → List Packet
packets_of a = a.packets

pub data IsRead : ReceiverCall → Type 0 where
  is_read : (len : ℕ) (out : List ℕ) → IsRead (read len out)
  is_read_pieces : (limit : ℕ) (out list : List ℕ) → IsRead (read_pieces limit out list)
  is_peek : IsRead peek

-- the arrivals of a round, and then its reads
abbrev pub received : List Arrival → List ReceiverCall → List Call
received arrivals reads = map on_receiver (map arrives arrivals ++ reads)

-- a round on the link l, as far as the receiver's last read. The packets listed are those outstanding (`lists` of Demand3.antt).
pub record Round (l : Link) : Type 0 where
  -- "every listed packet is given to accepting once in listed order"
  pub arrivals : List Arrival
  pub listed : map key (flatten (map packets_of arrivals)) ≡ map key (outstanding_on l)
  -- "the receiver reads to empty": until 8 with length or limit at least 1
  pub reads : List ReceiverCall
  pub are_reads : All IsRead reads
  pub last : ReceiverCall
  pub asks : Reads (on_receiver last)
  pub empty : In 8 (refusals (run l (received arrivals reads)) (on_receiver last))

abbrev pub entry : Ack → Call
entry a = on_window (insert_run a.base a.count)

module _ {l : Link} (r : Round l) where
  abbrev pub read_calls : List Call
  read_calls = received r.arrivals r.reads ++ (on_receiver r.last ∷ [])

  -- "this round's acks", oldest first: those given since it began
  abbrev pub acks_of : List Ack
  acks_of = drop (length l.receiver.acks) (run l read_calls).receiver.acks

  -- ".. all go to `insert_range` in order, the window is consumed and no other call is made"
  abbrev pub round_calls : List Call
  round_calls = read_calls ++ (map entry acks_of ++ (on_window consume_window ∷ []))

-- "with the other premises as before and at least 64 slots and 64 window cells": a list of calls, and then the round
pub record RoundPremises (s w : ℕ) (o : OrderedBytes) (m : Memory) (calls : List Call) (r : Round (run (fresh s w o m) calls)) : Type 0 where
  pub premises : Premises s w o m (calls ++ round_calls r)
  pub slots : 64 ≤ length m.marks
  pub cells : 64 ≤ length m.cells

-- "then the store is empty"
pub record Emptied (l : Link) : Type 0 where
  pub none_kept : count_of l.sender.kept ≡ 0
  pub none_outstanding : outstanding_on l ≡ []
