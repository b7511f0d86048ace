-- The loop of `slots::take_slots`: clearing what is left, from the present slot on, gives what clearing all gave.
use Rattle.std.proofs.Common.{◌≡◌, ◌-◌, ◌<◌, length, false}
use Rattle.slots.specs.Slots.{cleared}
use Rattle.slots.proofs.take_slots.Given as goal

abbrev pub invariant-loop : goal.invariant-loop
invariant-loop l =
    (l.slot < l.n) × (length l.marks ≡ l.n) × (length l.lengths ≡ l.n)
    × (cleared l.n l.slot (l.count - l.counter) false l.marks ≡ cleared l.n l.first l.count false l.initial.marks)
    × (cleared l.n l.slot (l.count - l.counter) 0 l.lengths ≡ cleared l.n l.first l.count 0 l.initial.lengths)
