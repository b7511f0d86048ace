-- What every link reached keeps: one record for each side, joined by the payloads made so far and by how many packets have left their slots.
-- Each call moves one side, a consume of the window the store too; payloads are not assumed to be non-empty but where the sender says so.
-- Assumes nothing.
use Prim.Native.Nat.{ℕ, suc, ◌+◌, ◌-◌, ◌≤◌, ◌<◌}
use mathlib.Core.Path.{◌≡◌}
use mathlib.Core.Bool.{true, false}
use mathlib.Core.Option.{some}
use mathlib.Core.List.{List, [], ◌∷◌, ◌++◌, map, flatten}
use lib.ListN.{length, take, drop, get_elem?}
use Rattle.lists.specs.Numbers.{largest}
use Rattle.packet.specs.Packet.{Packet, joined}
use Rattle.outstanding.specs.Outstanding.{Store, numbers_of, lengths_of, bytes_of, well_formed_below, number_in, length_in}
use Rattle.writer.specs.Packing.{payload_size, sum}
use Rattle.ordered_bytes.specs.Receiver.{is_held, place_at}
use Rattle.ordered_bytes.specs.Buffer as buffer
use Rattle.window.specs.Window as window
use Rattle.rtt.specs.Rtt as rtt
use Rattle.link.specs.Demand3.{SenderSide, Ack, ReceiverSide, WindowSide, Link, All, key}

-- payloads numbered from n on
unfoldable pub numbered_from : ℕ → List (List ℕ) → List (ℕ × List ℕ)
numbered_from n [] = []
numbered_from n (p ∷ ps) = (n, p) ∷ numbered_from (suc n) ps

-- the packets made are the payloads numbered from s on, none empty or longer than a packet takes; with what is queued they are all bytes queued
pub record SenderKeeps (s : ℕ) (payloads : List (List ℕ)) (d : SenderSide) : Type 0 where
  pub made : map key d.made ≡ numbered_from s payloads
  pub filled : All (λ p. 0 < length p) payloads
  pub small : All (λ p. length p ≤ payload_size) payloads
  pub stream : flatten payloads ++ d.queue.bytes ≡ d.queued
  pub adds_up : sum d.queue.lengths ≡ length d.queue.bytes
  pub unclosed : d.closing ≡ false → d.next ≡ s + length payloads
  pub above : s + length payloads ≤ d.next
  pub fits : d.next ≤ largest

-- the store has these packets, whole, and all are numbered below the next number
pub record StoreKeeps (next : ℕ) (packets : List Packet) (k : Store) : Type 0 where
  pub well : well_formed_below next k ≡ true
  pub numbers : numbers_of k ≡ map number_in packets
  pub lengths : lengths_of k ≡ map length_in packets
  pub bytes : bytes_of k ≡ joined packets

-- an ack of packets from s on, all below f
abbrev pub Below : ℕ → ℕ → Ack → Type 0
Below s f a = (s ≤ a.base) × (a.base + a.count ≤ f)

-- k packets have left their slots: their bytes were delivered or are carried over, and what is held agrees with what was made
pub record ReceiverKeeps (s : ℕ) (payloads : List (List ℕ)) (k : ℕ) (d : ReceiverSide) : Type 0 where
  pub good : buffer.well_formed d.buffer ≡ true
  pub front : d.buffer.state.front_number ≡ s + k
  pub within : k ≤ length payloads
  pub counts : d.counted ≡ k
  pub flow : d.delivered ++ (buffer.view d.buffer).carry ≡ flatten (take k payloads)
  pub below : (i : ℕ) → i < k → window.member (s + i) d.accepted ≡ true
  pub marks : (i : ℕ) → is_held (place_at (buffer.view d.buffer) i) ≡ window.member (s + k + i) d.accepted
  pub agrees : (i : ℕ) (p : List ℕ) → place_at (buffer.view d.buffer) i ≡ some p → get_elem? payloads (k + i) ≡ some p
  pub acks : All (Below s (s + k)) d.acks

-- from the number expected on, the cells hold what has entered; below it all from s on has; nothing at or above f, the first number not taken, has
pub record WindowKeeps (s f : ℕ) (d : WindowSide) : Type 0 where
  pub good : window.well_formed d.state d.cells ≡ true
  pub expects : d.expects ≡ window.expected d.state
  pub from : s ≤ window.expected d.state
  pub same : (n : ℕ) → window.expected d.state ≤ n → window.member n (window.held d.state d.cells) ≡ window.member n d.entered
  pub passed : (n : ℕ) → s ≤ n → n < window.expected d.state → window.member n d.entered ≡ true
  pub inside : (n : ℕ) → window.member n d.entered ≡ true → n < f

pub record Keeps (s : ℕ) (l : Link) : Type 0 where
  pub payloads : List (List ℕ)
  pub gone : ℕ
  pub sender : SenderKeeps s payloads l.sender
  -- what was made before the number that the window expects has been dropped
  pub store : StoreKeeps l.sender.next (drop (l.acked.expects - s) l.sender.made) l.sender.kept
  pub receiver : ReceiverKeeps s payloads gone l.receiver
  pub acked : WindowKeeps s (s + gone) l.acked
  pub trips : rtt.well_formed l.trips ≡ true
