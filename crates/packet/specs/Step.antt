-- One step of the walk over a datagram, as the code makes it: what stands at a cursor, and what it leaves to be answered and written.
use Rattle.std.specs.Prelude.{ℕ, ◌+◌, ◌-◌, ◌*◌, ◌<◌, min, ◌≡◌, not, cond, ◌&&◌, List, length, take, set, ltb, leb, Option, Some, None, Result, Ok, Err}
use Rattle.std.proofs.lemmas.List.Edits.{sets}
use Rattle.refusal.specs.Said.{Said, answers, read_says}
use Rattle.refusal.specs.declared.Refusal.{Refusal}
use Rattle.refusal.specs.declared.Refusal.TheVariants.{Tail, UnknownType, PayloadMissing}
use Rattle.refusal.specs.declared.ReadError.{ReadError}
use Rattle.header.specs.Types.{row_of}
use Rattle.header.specs.Header.{type_at, field_at}
use Rattle.packet.specs.declared.parse.Packets.{Packets}
use Rattle.packet.specs.Datagram.{payload_missing, payload_length, Walk, walk_at, packets_of, flat, answered}

-- what stands at a cursor, by the checks of `walk_by` in their order: a packet with as many payload bytes, the end, or a refusal
unfoldable pub look_at : List ℕ → ℕ → Result (Option ℕ) Refusal
look_at s at =
    cond (leb (length s) at) (Ok None)
    (cond (ltb (length s) (at + 20)) (Err Tail)
    (cond (not (row_of (type_at s at)).known) (Err UnknownType)
    (cond ((row_of (type_at s at)).has_payload && payload_missing (length s) at (field_at s at)) (Err PayloadMissing) (Ok (Some (payload_length s at))))))

-- what is answered, what the index holds and how many cells are written in the end, n packets having been met, where `w` is the walk that is left
abbrev pub outcome : ℕ → ℕ → List ℕ → Walk → Said ℕ × List ℕ × ℕ
outcome room n index w =
    let met = n + length w.cells in
    (answered room met w.ending, sets index (2 * n) (flat (take (room - n) w.cells)), min room met)

-- .. of the packets that the code has still to meet
abbrev pub left : Packets → List ℕ → Said ℕ × List ℕ × ℕ
left p index = outcome p.room p.met index (walk_at p.datagram.now p.at)

-- where a walk begins: in front of all packets, or refused as a whole
abbrev pub Begun : List ℕ → ℕ → Result Packets ReadError → Type 0
Begun s room (Ok p) = (p.room ≡ room) × (p.met ≡ 0) × ((index : List ℕ) → left p index ≡ outcome room 0 index (packets_of s))
Begun s room (Err e) = (index : List ℕ) → outcome room 0 index (packets_of s) ≡ (read_says (λ n. n) (Err e), index, 0)

-- a packet met, with its cell free: the walk goes on behind it, whatever the index holds
pub record Onward (p q : Packets) (at len : ℕ) : Type 0 where
  pub free : p.met < p.room
  pub same : (q.datagram.now ≡ p.datagram.now) × (q.room ≡ p.room)
  pub met : q.met ≡ p.met + 1
  pub here : at ≡ p.at
  pub behind : q.at ≡ at + 20 + len
  pub rest : (index : List ℕ) → left p index ≡ left q (set (set index (2 * p.met) at) (2 * p.met + 1) len)

-- what one step says, from `p` to `q`
abbrev pub Stepped : Packets → Packets → Result (Option (ℕ × ℕ)) ReadError → Type 0
Stepped p q (Ok (Some c)) = Onward p q c.0 c.1
Stepped p q (Ok None) = (index : List ℕ) → left p index ≡ (answers q.met, index, q.met)
Stepped p q (Err e) = (index : List ℕ) → left p index ≡ (read_says (λ n. n) (Err e), index, q.met)
