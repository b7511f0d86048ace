-- The answers of the ring's calls as a host has them: the ring to go on with, refused or not, and what is said, with 0 for what is not.
use Rattle.std.specs.Prelude.{ℕ, Bool, true, false, List}
use Rattle.std.proofs.Math.Option.{Option, none, some}
use Rattle.refusal.specs.Said.{Said, refusal_in}
use Rattle.ring_buffer.specs.Ring.{Outcome, blank}
use Rattle.ring_buffer.specs.declared.AckData.{AckData}
use Rattle.ring_buffer.specs.declared.RingBuffer.{RingBuffer}
use Rattle.writer.specs.Acks as acks
use Rattle.writer.specs.declared.acks.AcksPacked.{AcksPacked as Packed}
use Rattle.flat.specs.Answers.{value_or}
use Rattle.flat.specs.declared.ring.Pushed.{Pushed}
use Rattle.flat.specs.declared.ring.Popped.{Popped}
use Rattle.flat.specs.declared.ring.Cleared.{Cleared}
use Rattle.flat.specs.declared.ring.AcksPacked.{AcksPacked}

-- what a call comes to, written flat by f: the answer, and the cells that are left
abbrev pub flat : {A B : Type 0} → (RingBuffer → Said A → B) → Outcome A → B × List AckData
flat f o = (f o.ring o.said, o.cells)

-- the record that a full ring gives back
abbrev pub record_given_back : Option AckData → AckData
record_given_back none = blank
record_given_back (some a) = a

abbrev pub is_given : Option AckData → Bool
is_given none = false
is_given (some a) = true

abbrev pub pushed_of : RingBuffer → Said (Option AckData) → Pushed
pushed_of g s = record { ring = g; given_back = value_or blank record_given_back s; full = value_or false is_given s; refusal = refusal_in s }

abbrev pub popped_of : RingBuffer → Said AckData → Popped
popped_of g s = record { ring = g; ack = value_or blank (λ a. a) s; refusal = refusal_in s }

abbrev pub cleared_of : RingBuffer → Said Unit → Cleared
cleared_of g s = record { ring = g; refusal = refusal_in s }

abbrev pub acks_of : RingBuffer → Said Packed → AcksPacked
acks_of g s = record { ring = g; acks = value_or 0 (λ p. p.acks) s; to_send = value_or false (λ p. p.to_send) s; refusal = refusal_in s }

-- the answer, the cells and the output
abbrev pub flat_acks : acks.Outcome → AcksPacked × List AckData × List ℕ
flat_acks o = (acks_of o.ring o.said, o.cells, o.out)
