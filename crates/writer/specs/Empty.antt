-- Making an empty data packet and keeping it: document 02, §5, "to show that it is awake". The Rust makes none.
use Rattle.std.specs.Prelude.{ℕ, ◌+◌, Bool, not, List, [], ◌∷◌, length, ltb, eqb, Result}
use Rattle.std.proofs.Math.Seq.{paste}
use Rattle.refusal.specs.declared.Refusal.{Refusal}
use Rattle.refusal.specs.Said.{Said, says, answers, refuses, checks}
use Rattle.lists.specs.Numbers.{largest}
use Rattle.packet.specs.Packet.{Packet, packet_bytes}
use Rattle.outstanding.specs.Outstanding.{Store, places, count_of, well_formed_below, keeping}
use Rattle.writer.specs.Packing.{data_packet}

-- "The empty packet, written as packing writes one, takes the sender's next number"
abbrev pub empty_packet : ℕ → ℕ → ℕ → Packet
empty_packet src dst next = data_packet src dst next []

-- 12 for the store, 9 and 10 as packing has them for one packet of 20 bytes; ".. and a place in §3's store; with none free it is refused with 15, after 9 and 10"
abbrev pub empty_checks : Store → ℕ → ℕ → List (Bool × ℕ)
empty_checks k next room =
    (not (well_formed_below next k), 12)
    ∷ (ltb largest (next + 1), 9)
    ∷ (ltb room 20, 10)
    ∷ (eqb (count_of k) places, 15)
    ∷ []

-- what is said, which is the next number; the output left, the store left
pub record SendingEmpty : Type 0 where
  pub said : Said ℕ
  pub out : List ℕ
  pub store : Store

-- a refusal leaves output and store as they came
abbrev pub empty_unsent : Store → List ℕ → ℕ → SendingEmpty
empty_unsent k out n = record { said = refuses n; out = out; store = k }

-- the packet stands at the output's start, whose other bytes stay, and is kept
abbrev pub empty_sent : Store → ℕ → ℕ → ℕ → List ℕ → SendingEmpty
empty_sent k next src dst out = record {
  said = answers (next + 1);
  out = paste out 0 (packet_bytes (empty_packet src dst next)) 20;
  store = keeping k (empty_packet src dst next ∷ []);
}

unfoldable pub packs_empty : Store → ℕ → ℕ → ℕ → List ℕ → SendingEmpty
packs_empty k next src dst out = checks (empty_checks k next (length out)) (empty_unsent k out) (empty_sent k next src dst out)

-- what the call answered, and what it left
abbrev pub sending_empty_of : Result ℕ Refusal → List ℕ → Store → SendingEmpty
sending_empty_of r out store = record { said = says (λ n. n) r; out = out; store = store }
