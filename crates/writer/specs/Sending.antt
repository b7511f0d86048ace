-- Packing queued data and keeping what is packed: document 01's packing (Packing.antt) under document 02, §3.
use Rattle.std.specs.Prelude.{ℕ, ◌*◌, min, Bool, not, List, [], ◌∷◌, ◌++◌, length, eqb, Result}
use Rattle.std.proofs.Math.Seq.{paste}
use Rattle.refusal.specs.declared.Refusal.{Refusal}
use Rattle.refusal.specs.Said.{Said, says, answers, refuses, checks}
use Rattle.packet.specs.Packet.{Packet, joined}
use Rattle.outstanding.specs.Outstanding.{Store, places, count_of, free, well_formed_below, keeping}
use Rattle.writer.specs.declared.DataPacked.{DataPacked}
use Rattle.writer.specs.Packing.{Queue, payload_size, byte_limit, packed_size, packets_made, taking, data_checks}

-- "A packing makes no more packets than there are free places: document 01's 15,000 becomes 1,500 times that many where it is less"
abbrev pub limit_for : Store → ℕ
limit_for k = min byte_limit (payload_size * free k)

-- 12 where store or queue is malformed, 9, 10, and "15, exactly when all 64 packets are outstanding, after every other check of the packing call"
abbrev pub send_checks : Store → Queue → ℕ → ℕ → List (Bool × ℕ)
send_checks k queue next room = (not (well_formed_below next k), 12) ∷ data_checks (limit_for k) queue next room ++ ((eqb (count_of k) places, 15) ∷ [])

-- what is said, the output left, the store left
pub record Sending : Type 0 where
  pub said : Said DataPacked
  pub out : List ℕ
  pub store : Store

-- a refusal leaves output and store as they came
abbrev pub unsent : Store → List ℕ → ℕ → Sending
unsent k out n = record { said = refuses n; out = out; store = k }

-- the packets made stand at the output's start, "whose other bytes stay", and are kept
abbrev pub sent : Store → Queue → ℕ → ℕ → ℕ → List ℕ → Sending
sent k queue next src dst out =
    let made : List Packet = packets_made (limit_for k) src dst next queue.bytes in
    record {
      said = answers (taking (limit_for k) queue next);
      out = paste out 0 (joined made) (packed_size (taking (limit_for k) queue next).bytes);
      store = keeping k made;
    }

unfoldable pub consumes_data : Store → Queue → ℕ → ℕ → ℕ → List ℕ → Sending
consumes_data k queue next src dst out = checks (send_checks k queue next (length out)) (unsent k out) (sent k queue next src dst out)

-- what the call answered, and what it left
abbrev pub sending_of : Result DataPacked Refusal → List ℕ → Store → Sending
sending_of r out store = record { said = says (λ d. d) r; out = out; store = store }
