-- The acks that the answers of `receive` ask for: "Accepting's refusal 5 also gives an ack of that number, count 1" (document 02, §3), read off the packets listed and the
-- list of answers as a host reads them. That these are the acks of the arrival is `receive_owes` of proofs/WholeDatagram.antt.
use Rattle.std.specs.Prelude.{ℕ, suc, cond, ◌&&◌, List, [], ◌∷◌, ◌++◌, get_or, eqb}
use Rattle.header.specs.Types.{type_number}
use Rattle.packet.specs.Packet.{Packet}
use Rattle.link.specs.Demand3.{Ack}

-- of packets i, i + 1 and so on: a data packet whose answer is 5
unfoldable pub owed : ℕ → List Packet → List ℕ → List Ack
owed i [] answers = []
owed i (p ∷ ps) answers =
    cond (eqb (type_number p.header.type_field) 3 && eqb (get_or answers i 0) 5) (record { base = p.header.packet_number; count = 1 } ∷ []) [] ++ owed (suc i) ps answers
