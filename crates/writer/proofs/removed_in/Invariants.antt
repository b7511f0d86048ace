-- What goes with the bytes that are left, after the entries passed, is what goes in all.
use Rattle.std.proofs.Common.{◌≡◌, drop}
use Rattle.writer.specs.Packing.{removal}
use Rattle.writer.proofs.Entries.{after}
use Rattle.writer.proofs.removed_in.Given as goal

abbrev pub invariant-loop-i : goal.invariant-loop-i
invariant-loop-i l = after l.i (removal l.left (drop l.i l.lengths)) ≡ removal l.q l.lengths
